use Rattle.std.proofs.Common.{sym, ◌∙◌}
use Rattle.step_own.specs.Step.{tick_count}
use Rattle.unit_tunnel.specs.Numbering.{places}
use Rattle.step_own.proofs.tick_count.Goals as goal

pub returns-in-Broken : goal.returns-in-Broken
unfolding tick_count
returns-in-Broken c = rw c.in-Broken.is

pub returns-then-over : goal.returns-then-over
unfolding tick_count places
returns-then-over c = rw (c.in-Quiet.is, sym c.spent-over.ensures ∙ c.if-over.true)

pub returns-else-over : goal.returns-else-over
unfolding tick_count places
returns-else-over c = rw (c.in-Quiet.is, sym c.spent-over.ensures ∙ c.if-over.false)

pub returns-in-Awaiting : goal.returns-in-Awaiting
unfolding tick_count places
returns-in-Awaiting c = rw c.in-Awaiting.is
