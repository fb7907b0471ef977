use Rattle.std.proofs.Common.{arith, sym}
use Rattle.unit_table.specs.Recovery.{most_ahead, turned, judged_same, judged_restarted, judged_late}
use Rattle.unit_table.proofs.Judged.of.Goals as goal

pub returns-in-0 : goal.returns-in-0
unfolding turned
returns-in-0 c = sym (judged_same _ (omega arith))

pub returns-in_default : goal.returns-in_default
unfolding turned most_ahead
returns-in_default c = sym (judged_restarted _ (omega arith) (omega arith))

pub returns-in_default-2 : goal.returns-in_default-2
unfolding turned most_ahead
returns-in_default-2 c = sym (judged_late _ (omega arith))
