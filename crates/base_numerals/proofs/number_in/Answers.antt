use Rattle.std.proofs.Common.{sym, ◌∙◌, arith}
use Rattle.base_numerals.specs.Decimal.{is_digit, number_in, read_stop, read_on, read_over, read_end}
use Rattle.base_numerals.proofs.number_in.Goals as goal

pub returns-then-is_empty : goal.returns-then-is_empty
unfolding number_in
returns-then-is_empty c = rw (← c.if-is_empty.ensures)

pub loop-c-init : goal.loop-c-init
unfolding number_in
loop-c-init c = (omega arith, rw (← c.if-is_empty.ensures))

pub returns-then-not-is_ascii_digit : goal.returns-then-not-is_ascii_digit
unfolding is_digit
returns-then-not-is_ascii_digit c =
    let k = c.loop-c in
    sym (k.invariant.1 ∙ read_stop c.args.text.now k.c-index k.n 0 c.loop-c-test.true (sym c.if-not-is_ascii_digit.ensures.value))

pub returns-in_err-checked_mul : goal.returns-in_err-checked_mul
unfolding is_digit
returns-in_err-checked_mul c =
    let k = c.loop-c in
    let e = c.in_err-checked_mul.ensures in
    c.from_residual.ensures ∙ sym (k.invariant.1 ∙ read_over c.args.text.now k.c-index k.n 0 c.loop-c-test.true (sym c.if-not-is_ascii_digit.ensures.value) (omega arith))

pub returns-in_err-n : goal.returns-in_err-n
unfolding is_digit
returns-in_err-n c =
    let k = c.loop-c in
    let d = c.in_ok-checked_mul.ensures in
    let e = c.in_err-n.ensures in
    c.from_residual-in_err-n.ensures ∙ sym (k.invariant.1 ∙ read_over c.args.text.now k.c-index k.n 0 c.loop-c-test.true (sym c.if-not-is_ascii_digit.ensures.value) (omega arith))

pub loop-c-preserved : goal.loop-c-preserved
unfolding is_digit
loop-c-preserved c =
    let k = c.loop-c in (
      let b = c.in_ok-n.ensures in omega arith,
      rw (c.in_ok-n.ensures.1, c.in_ok-checked_mul.ensures.1)
          (k.invariant.1 ∙ read_on c.args.text.now k.c-index k.n 0 c.loop-c-test.true (sym c.if-not-is_ascii_digit.ensures.value)),
    )

pub returns : goal.returns
returns c = let k = c.loop-c in sym (k.invariant.1 ∙ read_end c.args.text.now k.c-index k.n c.loop-c-test.false (omega arith))
