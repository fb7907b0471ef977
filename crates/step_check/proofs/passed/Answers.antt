use Rattle.std.proofs.Common.{eq-eqb}
use Rattle.step_check.specs.Findings.{free_back, free_eight}
use Rattle.step_check.proofs.passed.Goals as goal

pub returns-then-low-high-eq0 : goal.returns-then-low-high-eq0
returns-then-low-high-eq0 c = let a = c.args in (c.if-n-ge8.true, free_eight a.ds.now a.n c.if-n-ge8.true c.requires.1 c.if-low-high-eq0.true)

pub returns-then-ds-n-eq0 : goal.returns-then-ds-n-eq0
returns-then-ds-n-eq0 c = let a = c.args in (c.requires.0, free_back a.ds.now a.n c.requires.0 c.requires.1 (eq-eqb _ 0 c.if-ds-n-eq0.true))
