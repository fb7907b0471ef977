use Rattle.std.proofs.Common.{sym, ◌∙◌}
use Rattle.step_own.specs.Step.{tick_change}
use Rattle.step_own.proofs.tick_change.Goals as goal

pub returns-then-spent : goal.returns-then-spent
unfolding tick_change
returns-then-spent c = rw (sym c.spent.ensures ∙ c.if-spent.true)

pub returns : goal.returns
unfolding tick_change
returns c = rw (sym c.spent.ensures ∙ c.if-spent.false)
