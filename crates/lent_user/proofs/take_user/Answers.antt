-- What the rules say of the records and of the store, and the one record that the datagram concerns, go to the call on
-- values, whose part of the datagram is handed on.
use Rattle.std.proofs.Common.{◌≡◌}
use Rattle.call_user.specs.User.{Took, took}
use Rattle.lent_user.specs.User.{user_lent}
use Rattle.std.proofs.Common.{subst}
use Rattle.wire_user.specs.Part.{IsRest}
use Rattle.lent_user.proofs.take_user.Goals as goal

pub returns : goal.returns
returns c = subst (λ (x : Took). (took c.done.result.number c.done.result.place c.done.result.size c.done.new.reply (x.start) ≡ x) × IsRest c.done.result.payload c.args.d (x.start)) (user_lent c.args.node c.args.recs.now c.args.store.now c.args.d.now c.args.reply.now c.keeps-kept.result c.place_in-at.result c.read-s.result c.keeps-kept.ensures c.place_in-at.ensures c.read-s.ensures) c.done.ensures
