use Rattle.std.proofs.Common.{◌≡◌, ◌+◌, ◌<◌, true, false, [], map, length, get_or, take, drop, set, sym, refl, ◌∙◌, arith, length-set}
use Rattle.unit_store.specs.Row.{life_in, kept_ok, mark_in, mark_bad, mark_good}
use Rattle.unit_store.specs.Store.{apart_stop, more_rows, rest_ok, apart_front}
use Rattle.base_octets.specs.Every.{every, every_stop, every_on}
use Rattle.base_octets.specs.Places.{fill_step}
use Rattle.base_octets.specs.Sums.{sum_of, sum_step}
use Rattle.unit_store.proofs.apart.Goals as goal

pub loop-left-init : goal.loop-left-init
loop-left-init c = (omega arith, (refl, (refl, (refl, c.requires.1))))

pub offset_bounds-rows-i : goal.offset_bounds-rows-i
offset_bounds-rows-i c = let k = c.loop-left in let a = c.args in
    let n : k.i < length a.rows.now = more_rows a.rows.now k.i (omega arith) in
    omega (arith, c.requires.0)

pub bounds-rows-i : goal.bounds-rows-i
bounds-rows-i c = let k = c.loop-left in let a = c.args in
    let n : k.i < length a.rows.now = more_rows a.rows.now k.i (omega arith) in
    n

pub returns-then-m-eq1 : goal.returns-then-m-eq1
returns-then-m-eq1 c = let k = c.loop-left in let a = c.args in
    let n : k.i < length a.rows.now = more_rows a.rows.now k.i (omega arith) in
    let f : every kept_ok a.rows.now ≡ false = k.invariant.1.1.0 ∙ every_stop a.rows.now k.i kept_ok [] n (mark_bad (get_or a.rows.now k.i []) (sym c.mark_in-m.ensures ∙ c.if-m-eq1.true)) in
    sym (apart_stop a.rows.now f)

pub offset_bounds-marks-i : goal.offset_bounds-marks-i
offset_bounds-marks-i c = let k = c.loop-left in let a = c.args in
    let n : k.i < length a.rows.now = more_rows a.rows.now k.i (omega arith) in
    omega (arith, c.requires.0)

pub bounds-marks-i : goal.bounds-marks-i
bounds-marks-i c = let k = c.loop-left in let a = c.args in
    let n : k.i < length a.rows.now = more_rows a.rows.now k.i (omega arith) in
    omega (arith, c.requires.0)

pub offset_bounds-rows-i-in-loop-left : goal.offset_bounds-rows-i-in-loop-left
offset_bounds-rows-i-in-loop-left c = let k = c.loop-left in let a = c.args in
    let n : k.i < length a.rows.now = more_rows a.rows.now k.i (omega arith) in
    omega (arith, c.requires.0)

pub bounds-rows-i-in-loop-left : goal.bounds-rows-i-in-loop-left
bounds-rows-i-in-loop-left c = let k = c.loop-left in let a = c.args in
    let n : k.i < length a.rows.now = more_rows a.rows.now k.i (omega arith) in
    n

pub overflow_sub-left : goal.overflow_sub-left
unfolding life_in
overflow_sub-left c = let k = c.loop-left in let a = c.args in
    let n : k.i < length a.rows.now = more_rows a.rows.now k.i (omega arith) in
    let s = sum_step life_in a.rows.now k.i [] n in let e = c.from-left.ensures ∙ c.life_in.ensures in omega arith

pub overflow_add-i : goal.overflow_add-i
overflow_add-i c = let k = c.loop-left in let a = c.args in
    let n : k.i < length a.rows.now = more_rows a.rows.now k.i (omega arith) in
    omega (arith, c.requires.0)

pub loop-left-smaller : goal.loop-left-smaller
loop-left-smaller c = let k = c.loop-left in let a = c.args in
    let n : k.i < length a.rows.now = more_rows a.rows.now k.i (omega arith) in
    omega (arith, c.requires.0)

pub loop-left-preserved : goal.loop-left-preserved
unfolding life_in
loop-left-preserved c = let k = c.loop-left in let a = c.args in
    let n : k.i < length a.rows.now = more_rows a.rows.now k.i (omega arith) in
    let g = mark_good (get_or a.rows.now k.i []) (λ z. c.if-m-eq1.false (c.mark_in-m.ensures ∙ z)) in
    let t : take (k.i + 1) (set k.marks k.i c.mark_in-m.result) ≡ map mark_in (take (k.i + 1) a.rows.now)
    = rw c.mark_in-m.ensures (fill_step mark_in a.rows.now k.marks k.i [] n (omega (arith, c.requires.0)) k.invariant.1.1.1.0) in
    let s = sum_step life_in a.rows.now k.i [] n in let e = c.from-left.ensures ∙ c.life_in.ensures in
    (omega (arith, c.requires.0), (simp length-set k.invariant.1.0, (k.invariant.1.1.0 ∙ every_on a.rows.now k.i kept_ok [] n g, (t, omega arith))))

pub returns : goal.returns
returns c = let k = c.loop-left in let a = c.args in
    let z : sum_of life_in (drop k.i a.rows.now) ≡ 0 = omega arith in
    let w : every kept_ok a.rows.now ≡ true = k.invariant.1.1.0 ∙ rest_ok (drop k.i a.rows.now) z in
    c.distinct.ensures ∙ sym (apart_front k.i a.rows.now k.marks w z k.invariant.1.1.1.0)
