use Rattle.step_own.specs.Step.{closed_is}
use Rattle.step_own.proofs.closed_by.Goals as goal

pub returns-then-kept-is_free : goal.returns-then-kept-is_free
returns-then-kept-is_free c = rw (closed_is, ← c.is_free.ensures, c.if-kept-is_free.true, c.closed.ensures)

pub returns : goal.returns
returns c = rw (closed_is, ← c.is_free.ensures, c.if-kept-is_free.false)
