-- Places of a list: what a part of it holds, a loop that writes every place, an array that a loop fills,
-- and a table that lists a function's values. Any element type.
-- Assumes nothing.
use Prim.Native.Nat.{ℕ, zero, suc, ◌+◌, ◌-◌, ◌<◌, ◌≤◌, min}
use mathlib.Core.List.{List, [], ◌∷◌, ◌++◌, map, map-append}
use Rattle.std.specs.Prelude.{◌≡◌, length, take, drop, get_or, set, replicate}
use Rattle.std.proofs.Math.Path.{refl, ap}
use Rattle.std.proofs.Common.{sym, ◌∙◌, add-zero, zero-add, add-suc, suc-add, add-one, arith, length-drop, drop-cons, take-suc, take-suc-set, take_all}

module _ {A : Type 0} where
  -- ---- parts
  pub next_of : (l : List A) (i : ℕ) (d : A) → i < length l → drop i l ≡ get_or l i d ∷ drop (i + 1) l
  next_of l i d h = rw add-one (drop-cons l i d h)

  -- `&s[n..]` holds what stands from n on
  pub tail_part : (l : List A) (n : ℕ) → take (length l - n) (drop n l) ≡ drop n l
  tail_part l n = take_all (length l - n) (drop n l) (simp length-drop (omega arith))

  -- `&s[a..a + n]` holds the n elements from a on
  pub part_of : (l : List A) (a n : ℕ) → take (a + n - a) (drop a l) ≡ take n (drop a l)
  part_of l a n = let e : a + n - a ≡ n = omega arith in rw e

  -- in range the default says nothing
  pub any_default : (l : List A) (i : ℕ) (d e : A) → i < length l → get_or l i d ≡ get_or l i e
  any_default [] i d e h = absurd (omega arith)
  any_default (x ∷ l) zero d e h = refl
  any_default (x ∷ l) (suc i) d e h = any_default l i d e (omega arith)

-- in range the elements of a map are those of the list, mapped
pub map_at : {A B : Type 0} (f : A → B) (l : List A) (i : ℕ) (d : A) (e : B) → i < length l → get_or (map f l) i e ≡ f (get_or l i d)
map_at f [] i d e h = absurd (omega arith)
map_at f (x ∷ l) zero d e h = refl
map_at f (x ∷ l) (suc i) d e h = map_at f l i d e (omega arith)

-- an array that a loop fills with f of each element, one step on
pub fill_step : {A B : Type 0} (f : A → B) (l : List A) (xs : List B) (i : ℕ) (d : A) → i < length l → i < length xs
    → take i xs ≡ map f (take i l) → take (i + 1) (set xs i (f (get_or l i d))) ≡ map f (take (i + 1) l)
fill_step f l xs i d h k e =
    rw (add-one, take-suc-set xs i (f (get_or l i d)) k, take-suc l i d h, e, map-append f (take i l) (get_or l i d ∷ []))

-- ---- a loop that writes every place: f put to the first i elements
unfoldable pub map_first : {A : Type 0} → (A → A) → ℕ → List A → List A
map_first f zero l = l
map_first f (suc i) [] = []
map_first f (suc i) (x ∷ l) = f x ∷ map_first f i l

module _ {A : Type 0} (f : A → A) where
  pub map_none : (l : List A) → map_first f 0 l ≡ l
  unfolding map_first
  map_none l = refl

  pub length_map_first : (i : ℕ) (l : List A) → length (map_first f i l) ≡ length l
  unfolding map_first
  length_map_first zero l = refl
  length_map_first (suc i) [] = refl
  length_map_first (suc i) (x ∷ l) = ap suc (length_map_first i l)

  -- the place that is next is still as it was
  pub map_next : (i : ℕ) (l : List A) (d : A) → get_or (map_first f i l) i d ≡ get_or l i d
  unfolding map_first
  map_next zero l d = refl
  map_next (suc i) [] d = refl
  map_next (suc i) (x ∷ l) d = map_next i l d

  stored : (i : ℕ) (l : List A) (d : A) → set (map_first f i l) i (f (get_or l i d)) ≡ map_first f (suc i) l
  unfolding map_first
  stored zero [] d = refl
  stored zero (x ∷ l) d = refl
  stored (suc i) [] d = refl
  stored (suc i) (x ∷ l) d = ap (λ (m : List A). f x ∷ m) (stored i l d)

  pub map-step : (i : ℕ) (l : List A) (d : A) → set (map_first f i l) i (f (get_or (map_first f i l) i d)) ≡ map_first f (i + 1) l
  map-step i l d = rw (map_next i l d, add-one) (stored i l d)

  pub map_all : (i : ℕ) (l : List A) → length l ≤ i → map_first f i l ≡ map f l
  unfolding map_first
  map_all zero [] h = refl
  map_all zero (x ∷ l) h = absurd (omega arith)
  map_all (suc i) [] h = refl
  map_all (suc i) (x ∷ l) h = ap (λ (m : List A). f x ∷ m) (map_all i l (omega arith))

  part_first : (n : ℕ) (l : List A) → map f (take (min n (length l)) l) ++ drop (min n (length l)) l ≡ map_first f n l
  unfolding map_first
  part_first zero l = let e : min 0 (length l) ≡ 0 = omega arith in rw e
  part_first (suc n) [] = let e : min (suc n) 0 ≡ 0 = omega arith in rw e
  part_first (suc n) (x ∷ l) =
      let e : min (suc n) (suc (length l)) ≡ suc (min n (length l)) = omega arith in
      rw e (ap (λ (m : List A). f x ∷ m) (part_first n l))

  -- the end of a loop over the first n, or over all where there are fewer: what it leaves of them, with the rest behind
  pub first_part : (n m i : ℕ) (l : List A) → m ≡ min n (length l) → length (take m l) ≤ i → map_first f i (take m l) ++ drop m l ≡ map_first f n l
  first_part n m i l e h = rw (map_all i (take m l) h, e) (part_first n l)

-- every element the same
pub map_same : {A B : Type 0} (b : B) (l : List A) → map (λ x. b) l ≡ replicate (length l) b
map_same b [] = refl
map_same b (x ∷ l) = ap (λ (m : List _). b ∷ m) (map_same b l)

-- ---- a table that lists f i, f (i + 1), .., n values in all
abbrev pub values : {A : Type 0} → (ℕ → A) → ℕ → ℕ → List A
values f i zero = []
values f i (suc n) = f i ∷ values f (suc i) n

module _ {A : Type 0} (f : ℕ → A) where
  value_from_lem : (n i k : ℕ) (d : A) → k < n → get_or (values f i n) k d ≡ f (i + k)
  value_from_lem zero i k d h = absurd (omega arith)
  value_from_lem (suc n) i zero d h = rw add-zero
  value_from_lem (suc n) i (suc k) d h = value_from_lem n (suc i) k d (omega arith) ∙ ap f (suc-add i k ∙ sym (add-suc i k))

  -- each entry of the table is f of its place
  pub value_at : (n k : ℕ) (d : A) → k < n → get_or (values f 0 n) k d ≡ f k
  value_at n k d h = value_from_lem n 0 k d h ∙ ap f (zero-add k)
