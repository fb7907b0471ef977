-- Choice by a Bool, and the laws of Bools that tests are taken apart and put together with.
-- Assumes nothing.
use Rattle.std.specs.Prelude.{ℕ, ◌≤◌, Bool, true, false, ◌&&◌, ◌||◌, ◌≡◌, refl, eqb}
use Rattle.std.proofs.Common.{arith, eqb-true, leb-true, leb-false, ltb-true, ltb-false}
use Rattle.std.proofs.lemmas.Bool.{eqb-false}
use mir.Val.{bool_byte}

-- the first where the test holds, else the second
abbrev pub pick : {A : Type 0} → Bool → A → A → A
pick true a b = a
pick false a b = b

pub impossible : false ≡ true → {A : Type 0} → A
impossible e = let z : ◌≡◌ {A = ℕ} 0 1 = cc in absurd (omega arith)

-- a proof by what a test says, with that as a fact in each case
pub split : {A : Type 0} (t : Bool) → (t ≡ true → A) → (t ≡ false → A) → A
split true f g = f refl
split false f g = g refl

pub and_left : (a b : Bool) → (a && b) ≡ true → a ≡ true
and_left true b e = refl
and_left false b e = e

pub and_right : (a b : Bool) → (a && b) ≡ true → b ≡ true
and_right true b e = e
and_right false b e = impossible e

pub and_no : (a : Bool) → (a && false) ≡ false
and_no true = refl
and_no false = refl

pub or_true : (a : Bool) → (a || true) ≡ true
or_true true = refl
or_true false = refl

pub or_split : {A : Type 0} (a b : Bool) → (a || b) ≡ true → (a ≡ true → A) → (b ≡ true → A) → A
or_split true b e f g = f refl
or_split false b e f g = g e

pub bit_most : (b : Bool) → bool_byte b ≤ 1
bit_most true = omega arith
bit_most false = omega arith

pub differs : (a b : ℕ) → eqb a b ≡ false → a ≡ b → ⊥
differs a b e = eqb-false a b e

-- tests in reach, read as facts on numbers: `omega (arith, tests)`
pub ruleset tests = (eqb-true, differs, leb-true, leb-false, ltb-true, ltb-false)
