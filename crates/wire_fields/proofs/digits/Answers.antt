use Rattle.std.proofs.Common.{◌≡◌, get_or, length, ◌+◌, ◌≤◌, ◌-◌, ◌%◌, take, ap, ◌∙◌, length-take, sym, arith}
use Rattle.wire_fields.specs.Imsi.{hundreds_start, hundreds_next, hundreds_most}
use Rattle.wire_fields.proofs.Back.{filler_wrong, fifteenth_wrong, last_read, last_left, high_wrong, low_wrong, octet-read, two_below, all_read}
use Rattle.wire_fields.proofs.digits.Goals as goal

pub returns-then-last-ne-FILLER : goal.returns-then-last-ne-FILLER
returns-then-last-ne-FILLER c = sym (filler_wrong c.args.v.now 7 (omega arith) c.if-last-ne-FILLER.true)

pub returns-then-last-gt9 : goal.returns-then-last-gt9
returns-then-last-gt9 c = sym (fifteenth_wrong c.args.v.now 7 (omega arith) c.if-last-gt9.true)

pub loop-x-init : goal.loop-x-init
loop-x-init c = let v = c.args.v.now in
    let left = c.into_iter-x-iterator.result.iter.rest.now in
    let g : left ≡ take 7 v = rw (c.into_iter-x-iterator.ensures.into_iter_gives, c.rev-x-items.ensures.source) c.iter.ensures.rest in
    let n : length left ≡ 7 = ap length g ∙ simp length-take (omega arith) in
    let w : c.from-n.result ≡ get_or v 7 0 % 16 = c.from-n.ensures in
    (omega arith, rw n g, rw n (omega (arith, hundreds_start)), omega arith, rw (n, w) (last_read v 7 (omega arith) c.if-last-ne-FILLER.false (omega arith)))

pub returns-then-x-gt9 : goal.returns-then-x-gt9
returns-then-x-gt9 c = let k = c.loop-x.invariant in
    let q = last_left c.args.v.now _ _ _ k.1 c.in-Some.ensures.steps in
    sym (high_wrong c.args.v.now (length c.next.new.self.iter.rest.now) (omega arith) (rw q.2 c.if-x-gt9.true))

pub returns-then-x-gt9-2 : goal.returns-then-x-gt9-2
returns-then-x-gt9-2 c = let k = c.loop-x.invariant in
    let q = last_left c.args.v.now _ _ _ k.1 c.in-Some.ensures.steps in
    sym (low_wrong c.args.v.now (length c.next.new.self.iter.rest.now) (omega arith) (rw q.2 c.if-x-gt9-2.true))

pub overflow_add-n : goal.overflow_add-n
overflow_add-n c = let k = c.loop-x.invariant in
    let m = hundreds_most (7 - length c.loop-x.x-iterator.iter.rest.now) (omega arith) in
    let t : c.two_digits.result ≤ 99 = omega (arith, c.two_digits.ensures) in
    let b = two_below c.two_digits.result c.loop-x.worth c.loop-x.n t k.3 in
    omega arith

pub overflow_mul-n : goal.overflow_mul-n
overflow_mul-n c = let s = overflow_add-n c in omega arith

pub overflow_mul-worth : goal.overflow_mul-worth
overflow_mul-worth c = let k = c.loop-x.invariant in
    let m = hundreds_most (7 - length c.loop-x.x-iterator.iter.rest.now) (omega arith) in omega arith

pub loop-x-preserved : goal.loop-x-preserved
loop-x-preserved c = let v = c.args.v.now in
    let k = c.loop-x.invariant in
    let i = length c.next.new.self.iter.rest.now in
    let q = last_left v _ _ _ k.1 c.in-Some.ensures.steps in
    let t : c.two_digits.result ≤ 99 = omega (arith, c.two_digits.ensures) in
    let e : 7 - i ≡ 7 - length c.loop-x.x-iterator.iter.rest.now + 1 = omega arith in (
      omega arith,
      q.1,
      rw (e, hundreds_next (7 - length c.loop-x.x-iterator.iter.rest.now)) (omega arith),
      two_below c.two_digits.result c.loop-x.worth c.loop-x.n t k.3,
      rw (c.two_digits.ensures, ← q.2) (octet-read v i c.loop-x.worth c.loop-x.n (omega arith) (rw q.2 c.if-x-gt9.false) (rw q.2 c.if-x-gt9-2.false) (rw (← q.0) k.4)),
    )

pub returns : goal.returns
returns c = let k = c.loop-x.invariant in
    let z : length c.loop-x.x-iterator.iter.rest.now ≡ 0 = c.in-None.ensures.steps.0 in
    sym (all_read c.args.v.now c.loop-x.worth c.loop-x.n (rw z at k.4))
