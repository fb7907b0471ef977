use Rattle.step_check.specs.Summary.{checked_as, waits_apart}
use Rattle.std.proofs.Common.{◌≡◌, true, false, ◌&&◌}
use Rattle.step_check.proofs.checked_awaiting.Goals as goal

pub returns-then-kept-apart : goal.returns-then-kept-apart
unfolding checked_as waits_apart
returns-then-kept-apart c = let a = c.args in let t : (a.kept && (c.absent-apart.result && c.distinct-each.result)) ≡ true = c.if-kept-apart.true in rw (rw (c.absent-apart.ensures, c.distinct-each.ensures, c.wait-w.ensures) at t)

pub returns-else-kept-apart : goal.returns-else-kept-apart
unfolding checked_as waits_apart
returns-else-kept-apart c = let a = c.args in let t : (a.kept && (c.absent-apart.result && c.distinct-each.result)) ≡ false = c.if-kept-apart.false in rw (rw (c.absent-apart.ensures, c.distinct-each.ensures, c.wait-w.ensures) at t)
