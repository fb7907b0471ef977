-- Every record and every row is made zero where it lies, or none where a count is another; what is answered by value
-- is made of the count and the plan.
use Rattle.std.proofs.Common.{refl}
use Rattle.unit_table.specs.declared.Change.TheVariants.{Blank}
use Rattle.lent_fresh.specs.Start.{lent_fresh}
use Rattle.lent_fresh.proofs.grugavorn_fresh.Goals as goal

pub returns : goal.returns
returns c = lent_fresh c.args.plan c.args.recs.now c.change_each.new.recs c.args.store.now c.clear.new.rows c.count_with-count.result c.whole-n.result c.cleared_rows-rows.result Blank c.fresh_by.result c.count_with-count.ensures c.whole-n.ensures refl c.change_each.ensures c.cleared_rows-rows.ensures c.clear.ensures c.fresh_by.ensures
