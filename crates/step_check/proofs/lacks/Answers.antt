use Rattle.std.proofs.Common.{sym, ◌∙◌, arith}
use Rattle.step_check.specs.Over.{later_start, key_hit, key_on, key_end}
use Rattle.step_check.proofs.lacks.Goals as goal

pub loop-i-init : goal.loop-i-init
loop-i-init c = let a = c.args in rw (← later_start a.from)

pub returns-then-from-i : goal.returns-then-from-i
returns-then-from-i c = let a = c.args in let k = c.loop-i in sym (k.invariant ∙ key_hit a.x a.ds.now a.from k.i (omega arith) (rw c.key_in.ensures at c.if-from-i.true))

pub loop-i-preserved : goal.loop-i-preserved
loop-i-preserved c = let a = c.args in let k = c.loop-i in k.invariant ∙ key_on a.x a.ds.now a.from k.i (omega arith) (rw c.key_in.ensures at c.if-from-i.false)

pub returns : goal.returns
returns c = let a = c.args in let k = c.loop-i in sym (k.invariant ∙ key_end a.x a.ds.now a.from k.i (omega arith))
