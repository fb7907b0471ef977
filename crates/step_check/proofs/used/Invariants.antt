use Rattle.std.proofs.Common.{◌≡◌, ◌≤◌, length, true}
use Rattle.step_check.specs.Findings.{free_above}
use Rattle.step_check.proofs.used.Given as goal

abbrev pub invariant-loop-n : goal.invariant-loop-n
invariant-loop-n l = (l.n ≤ length l.ds) × (free_above l.ds l.n ≡ true)

abbrev pub decreases-loop-n : goal.decreases-loop-n
decreases-loop-n l = l.n
