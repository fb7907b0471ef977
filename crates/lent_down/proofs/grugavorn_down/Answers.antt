-- What the rules say of the records and of the store, and the one record that has the destination address, go to the
-- call on values, whose answer is handed on.
use Rattle.std.proofs.Common.{◌∙◌}
use Rattle.lent_down.specs.Down.{down_lent}
use Rattle.lent_down.proofs.grugavorn_down.Goals as goal

pub returns : goal.returns
returns c = c.down_by.ensures ∙ down_lent c.args.node c.args.recs.now c.args.store.now c.args.packet.now c.args.out.now c.keeps-kept.result c.place_for-place.result c.read-s.result c.keeps-kept.ensures c.place_for-place.ensures c.read-s.ensures
