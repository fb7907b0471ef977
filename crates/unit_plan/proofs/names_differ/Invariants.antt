use Rattle.std.proofs.Common.{◌≡◌, length}
use Rattle.unit_plan.specs.Names.{names_differ}
use Rattle.unit_plan.proofs.names_differ.Given as goal

abbrev pub invariant-loop-first : goal.invariant-loop-first
invariant-loop-first l = names_differ l.points ≡ names_differ l.left

abbrev pub decreases-loop-first : goal.decreases-loop-first
decreases-loop-first l = length l.left
