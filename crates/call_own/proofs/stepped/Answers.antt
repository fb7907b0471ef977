use borrow.Author.Tests.{eq-eqb, ne_eqb}
use Rattle.call_own.specs.Calls.{stepped}
use Rattle.call_own.proofs.stepped.Goals as goal

pub returns-then-sends-eq0 : goal.returns-then-sends-eq0
unfolding stepped
returns-then-sends-eq0 c = rw (c.after.ensures, eq-eqb _ _ c.if-sends-eq0.true)

pub returns : goal.returns
unfolding stepped
returns c = rw (ne_eqb _ _ c.if-sends-eq0.false)
