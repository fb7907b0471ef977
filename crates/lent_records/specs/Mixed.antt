-- A list that another one is written over, place by place from the front: how far a copying loop has come. Any element type.
-- Assumes nothing.
use Prim.Native.Nat.{ℕ, zero, suc, ◌+◌, ◌<◌, ◌≤◌}
use mathlib.Core.List.{List, [], ◌∷◌}
use Rattle.std.specs.Prelude.{◌≡◌, length, get_or, set}
use Rattle.std.proofs.Math.Path.{refl, ap}
use Rattle.std.proofs.Common.{add-one, arith}

-- the first i of xs, then what zs has from there on
unfoldable pub mixed : {A : Type 0} → ℕ → List A → List A → List A
mixed zero xs zs = zs
mixed (suc i) [] zs = zs
mixed (suc i) (x ∷ xs) [] = []
mixed (suc i) (x ∷ xs) (z ∷ zs) = x ∷ mixed i xs zs

-- ---- laws
module _ {A : Type 0} where
  pub mixed_none : (xs zs : List A) → mixed 0 xs zs ≡ zs
  unfolding mixed
  mixed_none xs zs = refl

  pub length-mixed : (i : ℕ) (xs zs : List A) → length (mixed i xs zs) ≡ length zs
  unfolding mixed
  length-mixed zero xs zs = refl
  length-mixed (suc i) [] zs = refl
  length-mixed (suc i) (x ∷ xs) [] = refl
  length-mixed (suc i) (x ∷ xs) (z ∷ zs) = ap suc (length-mixed i xs zs)

  written : (i : ℕ) (xs zs : List A) (d : A) → i < length xs → set (mixed i xs zs) i (get_or xs i d) ≡ mixed (suc i) xs zs
  unfolding mixed
  written zero [] zs d h = absurd (omega arith)
  written zero (x ∷ xs) [] d h = refl
  written zero (x ∷ xs) (z ∷ zs) d h = refl
  written (suc i) [] zs d h = absurd (omega arith)
  written (suc i) (x ∷ xs) [] d h = refl
  written (suc i) (x ∷ xs) (z ∷ zs) d h = ap (λ (m : List A). x ∷ m) (written i xs zs d (omega arith))

  -- one turn of the loop
  pub mixed-step : (i : ℕ) (xs zs : List A) (d : A) → i < length xs → set (mixed i xs zs) i (get_or xs i d) ≡ mixed (i + 1) xs zs
  mixed-step i xs zs d h = rw add-one (written i xs zs d h)

  -- its end, where both have one length
  pub mixed_all : (i : ℕ) (xs zs : List A) → length xs ≤ i → length zs ≡ length xs → mixed i xs zs ≡ xs
  unfolding mixed
  mixed_all zero [] [] h e = refl
  mixed_all zero [] (z ∷ zs) h e = absurd (omega arith)
  mixed_all zero (x ∷ xs) zs h e = absurd (omega arith)
  mixed_all (suc i) [] [] h e = refl
  mixed_all (suc i) [] (z ∷ zs) h e = absurd (omega arith)
  mixed_all (suc i) (x ∷ xs) [] h e = absurd (omega arith)
  mixed_all (suc i) (x ∷ xs) (z ∷ zs) h e = ap (λ (m : List A). x ∷ m) (mixed_all i xs zs (omega arith) (omega arith))
