-- Two lists of octets, the same octet by octet or not.
-- Assumes nothing.
use Rattle.std.specs.Prelude.{ℕ, suc, Bool, true, false, ◌&&◌, List, [], ◌∷◌, ◌≡◌, refl, length, eqb}
use Rattle.std.proofs.Common.{ap}
use borrow.Author.Tests.{eqb-true}
use lib.Pointwise.{pointwise}
use Rattle.base_octets.specs.Choice.{and_left, and_right, and_no, impossible}

unfoldable pub same_octets : List ℕ → List ℕ → Bool
same_octets [] [] = true
same_octets [] (y ∷ b) = false
same_octets (x ∷ a) [] = false
same_octets (x ∷ a) (y ∷ b) = eqb x y && same_octets a b

-- ---- it is equality
pub same_equal : (a b : List ℕ) → same_octets a b ≡ true → a ≡ b
unfolding same_octets
same_equal [] [] e = refl
same_equal [] (y ∷ b) e = impossible e
same_equal (x ∷ a) [] e = impossible e
same_equal (x ∷ a) (y ∷ b) e =
    let h = eqb-true x y (and_left (eqb x y) (same_octets a b) e) in
    let t = same_equal a b (and_right (eqb x y) (same_octets a b) e) in
    rw (h, t)

-- ---- it is what `==` on two slices tests
pub same_slices : (a b : List ℕ) → pointwise eqb a b ≡ same_octets a b
unfolding same_octets
same_slices [] [] = refl
same_slices [] (y ∷ b) = refl
same_slices (x ∷ a) [] = refl
same_slices (x ∷ a) (y ∷ b) = rw (same_slices a b)

pub same_unlike : (a b : List ℕ) → (length a ≡ length b → ⊥) → same_octets a b ≡ false
unfolding same_octets
same_unlike [] [] h = absurd (h refl)
same_unlike [] (y ∷ b) h = refl
same_unlike (x ∷ a) [] h = refl
same_unlike (x ∷ a) (y ∷ b) h = rw (same_unlike a b (λ e. h (ap suc e))) (and_no (eqb x y))
