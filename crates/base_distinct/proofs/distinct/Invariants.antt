use Rattle.std.proofs.Common.{◌≡◌, true, ◌≤◌, length, drop}
use Rattle.base_distinct.specs.Apart.{pairwise, same_key}
use Rattle.base_distinct.proofs.distinct.Given as goal

abbrev pub invariant-loop-i : goal.invariant-loop-i
invariant-loop-i l = (l.i ≤ length l.keys) × (pairwise same_key (drop l.i l.keys) ≡ true)
