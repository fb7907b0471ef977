use Rattle.std.proofs.Common.{◌≡◌, length, rules, arith}
use Rattle.step_check.specs.Findings.{free_end}
use Rattle.step_check.proofs.used.Goals as goal

pub loop-n-init : goal.loop-n-init
loop-n-init c = let ds = c.args.ds.now in let l : length ds ≡ 64 = search rules in (omega arith, free_end ds 64 (omega arith))
