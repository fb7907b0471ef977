use Rattle.std.proofs.Common.{sym, ◌∙◌}
use Rattle.step_own.specs.Step.{aged_count}
use Rattle.step_own.proofs.aged_count.Goals as goal

pub returns-then-stands_by : goal.returns-then-stands_by
unfolding aged_count
returns-then-stands_by c = rw (sym c.stands_by.ensures ∙ c.if-stands_by.true)

pub returns : goal.returns
unfolding aged_count
returns c = rw (sym c.stands_by.ensures ∙ c.if-stands_by.false)
