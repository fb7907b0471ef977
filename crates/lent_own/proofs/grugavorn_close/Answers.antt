-- The rules are checked where the records and the store lie, one record is read, and what becomes of it is put back in
-- its place.
use Rattle.lent_own.specs.Ticks.{close_lent}
use Rattle.lent_own.proofs.grugavorn_close.Goals as goal

pub returns : goal.returns
returns c = close_lent c.args.node c.args.recs.now c.put.new.recs c.args.store.now c.args.place c.keeps-kept.result c.read-s.result c.closed_by-c.result c.close_answer.result c.keeps-kept.ensures c.read-s.ensures c.closed_by-c.ensures c.put.ensures c.close_answer.ensures
