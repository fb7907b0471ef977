use Rattle.std.proofs.Common.{◌≡◌, map, drop}
use Rattle.base_distinct.specs.Lacks.{lacks}
use Rattle.step_check.specs.Digest.{key_in}
use Rattle.step_check.specs.Over.{later}
use Rattle.step_check.proofs.lacks.Given as goal

abbrev pub invariant-loop-i : goal.invariant-loop-i
invariant-loop-i l = lacks l.x (drop l.from (map key_in l.ds)) ≡ lacks l.x (drop (later l.from l.i) (map key_in l.ds))
