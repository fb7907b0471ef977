use Rattle.std.proofs.Common.{◌≡◌, ◌+◌, ◌-◌, sym, ◌∙◌, arith}
use Rattle.base_octets.specs.Places.{tail_part}
use Rattle.base_distinct.specs.Lacks.{back_clash, back_on, pairwise_fails}
use Rattle.base_distinct.proofs.distinct.Goals as goal

pub returns-then-not-chained_differ : goal.returns-then-not-chained_differ
returns-then-not-chained_differ c =
    let e = simp tail_part at c.chained_differ-2.ensures in
    sym (pairwise_fails c.args.keys.now c.saturating_sub-last.result (sym e ∙ c.if-not-chained_differ.true))

pub returns-then-not-absent : goal.returns-then-not-absent
returns-then-not-absent c =
    let k = c.loop-i in
    let p : k.i - 1 + 1 ≡ k.i = omega arith in
    let e = simp tail_part at (rw p at c.absent.ensures) in
    sym (back_clash c.args.keys.now k.i (omega arith) k.invariant.0 (sym e ∙ c.if-not-absent.true))

pub loop-i-preserved : goal.loop-i-preserved
loop-i-preserved c =
    let k = c.loop-i in
    let p : k.i - 1 + 1 ≡ k.i = omega arith in
    let e = simp tail_part at (rw p at c.absent.ensures) in
    (omega arith, back_on c.args.keys.now k.i (omega arith) k.invariant.0 (sym e ∙ c.if-not-absent.false) k.invariant.1)
