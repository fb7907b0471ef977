use Rattle.std.proofs.Common.{◌≡◌, ◌∙◌, true, arith, le-leb}
use Rattle.std.proofs.lemmas.Bool.{lt-leb}
use Rattle.std.specs.Prelude.{◌||◌, leb, ltb}
use borrow.Author.Tests.{lt-ltb, le-ltb}
use Rattle.base_numerals.specs.Laid.{laid_on, laid_none}
use Rattle.base_numerals.specs.Decimal.{digits_none, digits_more, digits_last}
use Rattle.base_numerals.proofs.+put_digits.Goals as goal
use Rattle.base_numerals.proofs.+put_digits.Goals.{then-n-ge10-via-then-n-ge10, then-n-ge10-via-else-n-ge10+then-width-gt1}

pub returns-then-left-eq0 : goal.returns-then-left-eq0
returns-then-left-eq0 t c = let a = c.args in rw (c.if-left-eq0.true, digits_none a.width a.n, c.min.ensures) (laid_none a.at a.out.now)

pub returns-then-n-ge10 : goal.returns-then-n-ge10
returns-then-n-ge10 t c =
    let a = c.args in
    let e : (leb 10 a.n || ltb 1 a.width) ≡ true
    = elim c.then-n-ge10.branch [ then-n-ge10-via-then-n-ge10 w ↦ rw (le-leb _ _ w.if-n-ge10.true) | then-n-ge10-via-else-n-ge10+then-width-gt1 w ↦ rw (lt-leb _ _ w.if-n-ge10.false, lt-ltb _ _ w.if-width-gt1.true) ] in
    rw (digits_more a.left a.width a.n (omega arith) e, ← c.saturating_sub.ensures) (c.put.ensures ∙ laid_on _ _ _ _ _ _ c.put_digits-p.ensures)

pub returns : goal.returns
returns t c =
    let a = c.args in
    rw (digits_last a.left a.width a.n (omega arith) (rw (lt-leb _ _ c.if-n-ge10.false, le-ltb _ _ c.if-width-gt1.false))) c.put-2.ensures
