use Rattle.std.proofs.Common.{◌≡◌, length, rules, sym, arith}
use Rattle.unit_tunnel.specs.Numbering.{places}
use Rattle.step_check.specs.Findings.{summary_free}
use Rattle.step_check.proofs.summary_of.Goals as goal

pub returns-then-n-eq0 : goal.returns-then-n-eq0
unfolding places
returns-then-n-eq0 c = let ds = c.args.ds.now in let l : length ds ≡ 64 = search rules in
    sym (summary_free ds (omega arith) (rw c.if-n-eq0.true at c.used-n.ensures.1))
