use mathlib.Core.Path.{refl, sym, ◌∙◌}
use native.Mathlib.Omega.{arith}
use Rattle.std.proofs.lemmas.Result.{err_from_is_err_and}
use Rattle.base_octets.specs.Places.{tail_part}
use Rattle.base_octets.specs.Number.{taken}
use Rattle.wire_user.specs.Stretch.{resumed_start, run-done, run_less, run_within, run_on}
use Rattle.wire_user.specs.Stretch.{run_refused}
use Rattle.wire_user.proofs.past_extensions.Goals as goal

pub loop-at-init : goal.loop-at-init
loop-at-init c = (omega arith, resumed_start c.args.d.now c.args.first)

pub loop-at-smaller : goal.loop-at-smaller
loop-at-smaller c = let d = c.args.d.now in
    let w = c.loop-at in
    let e = simp tail_part at c.walk.ensures in
    let j = rw (← c.judged.ensures) at e in
    let k = rw c.in_ok-judged.was at j in
    run_less d taken w.at.next w.at.left c.loop-at-test.true w.invariant.0 15 _ k

pub loop-at-preserved : goal.loop-at-preserved
loop-at-preserved c = let d = c.args.d.now in
    let w = c.loop-at in
    let e = simp tail_part at c.walk.ensures in
    let j = rw (← c.judged.ensures) at e in
    let k = rw c.in_ok-judged.was at j in
    let l = run_within d taken w.at.next w.at.left c.loop-at-test.true w.invariant.0 15 _ k in
    (omega arith, run_on d taken w.at.next w.at.left c.loop-at-test.true w.invariant.0 15 _ k ∙ w.invariant.1)

pub returns-in_err-judged : goal.returns-in_err-judged
returns-in_err-judged c = let d = c.args.d.now in
    let w = c.loop-at in
    let p = err_from_is_err_and c.from_residual.result c.from_residual.ensures.1 in
    let e = simp tail_part at c.walk.ensures in
    let j = rw (← c.judged.ensures) at e in
    let k = rw c.in_err-judged.was at j in
    rw (p.1, p.2) (run_refused d taken w.at.next w.at.left c.loop-at-test.true w.invariant.0 15 _ k w.invariant.1)

pub returns : goal.returns
returns c = let a = c.args.d in
    let w = c.loop-at in
    let e = sym (run-done a.now taken w.at.next w.at.left c.loop-at-test.false) ∙ w.invariant.1 in
    rw (← e) (refl, record { memory = refl; place = omega arith; octets = tail_part a.now _ })
