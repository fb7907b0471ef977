use borrow.Author.Tests.{eq-eqb, ne_eqb}
use Rattle.call_store.specs.Steps.{count_with}
use Rattle.call_store.proofs.count_with.Goals as goal

pub returns-then-rows-eq-ROWS : goal.returns-then-rows-eq-ROWS
unfolding count_with
returns-then-rows-eq-ROWS c = rw (eq-eqb _ _ c.if-rows-eq-ROWS.true)

pub returns : goal.returns
unfolding count_with
returns c = rw (ne_eqb _ _ c.if-rows-eq-ROWS.false)
