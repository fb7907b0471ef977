use Rattle.std.proofs.Common.{drop}
use Rattle.step_check.specs.Over.{Over}
use Rattle.step_check.proofs.summary_below.Given as goal

abbrev pub invariant-loop-i : goal.invariant-loop-i
invariant-loop-i l = Over (drop l.i l.ds) l.marks l.flags l.tallies
