-- A test of every element of a list, and of every element with those after it: the laws of a loop that reads,
-- of a store at one place, of a map and of a repeated value. Any element type, any test.
-- Assumes nothing.
use Prim.Native.Nat.{ℕ, zero, suc, ◌+◌, ◌<◌, ◌≤◌}
use Rattle.std.specs.Prelude.{Bool, true, false, ◌&&◌, ◌≡◌, length, drop, get_or, set, replicate}
use mathlib.Core.List.{List, [], ◌∷◌, map}
use Rattle.std.proofs.Math.Path.{refl}
use Rattle.std.proofs.Math.Numerals.{add-one}
use Rattle.std.proofs.Common.{arith, drop_of_length-le}
use Rattle.std.proofs.Math.Seq.{drop-cons}
use Rattle.std.specs.List.{list_all}
use Rattle.base_octets.specs.Choice.{and_left, and_right, and_no}

unfoldable pub every : {A : Type 0} → (A → Bool) → List A → Bool
every p [] = true
every p (x ∷ l) = p x && every p l

unfoldable pub every_rest : {A : Type 0} → (A → List A → Bool) → List A → Bool
every_rest p [] = true
every_rest p (x ∷ l) = p x l && every_rest p l

-- ---- a loop that has come to place i
module _ {A : Type 0} (l : List A) (i : ℕ) where
  pub every_stop : (p : A → Bool) (d : A) → i < length l → p (get_or l i d) ≡ false → every p (drop i l) ≡ false
  unfolding every
  every_stop p d h e = rw (drop-cons l i d, e)

  pub every_on : (p : A → Bool) (d : A) → i < length l → p (get_or l i d) ≡ true → every p (drop i l) ≡ every p (drop (i + 1) l)
  unfolding every
  every_on p d h e = rw (add-one, drop-cons l i d, e)

  pub every_end : (p : A → Bool) → length l ≤ i → every p (drop i l) ≡ true
  unfolding every
  every_end p h = rw (drop_of_length-le l)

  pub rest_stop : (p : A → List A → Bool) (d : A) → i < length l → p (get_or l i d) (drop (i + 1) l) ≡ false → every_rest p (drop i l) ≡ false
  unfolding every_rest
  rest_stop p d h e = let e' = rw add-one at e in rw (drop-cons l i d, e')

  pub rest_on : (p : A → List A → Bool) (d : A) → i < length l → p (get_or l i d) (drop (i + 1) l) ≡ true → every_rest p (drop i l) ≡ every_rest p (drop (i + 1) l)
  unfolding every_rest
  rest_on p d h e = let e' = rw add-one at e in rw (drop-cons l i d, e', add-one)

  pub rest_end : (p : A → List A → Bool) → length l ≤ i → every_rest p (drop i l) ≡ true
  unfolding every_rest
  rest_end p h = rw (drop_of_length-le l)

-- ---- it is what an iterator's `all` tests
pub every_all : {A : Type 0} (p : A → Bool) (l : List A) → list_all p l ≡ every p l
unfolding every
every_all p [] = refl
every_all p (x ∷ l) = rw (every_all p l)

module _ {A : Type 0} where
  -- what fails for a rest fails for the whole
  pub rest_fails : (p : A → List A → Bool) (i : ℕ) (l : List A) → every_rest p (drop i l) ≡ false → every_rest p l ≡ false
  unfolding every_rest
  rest_fails p zero l e = e
  rest_fails p (suc i) [] e = e
  rest_fails p (suc i) (x ∷ l) e = rw (rest_fails p i l e) (and_no (p x l))

  -- ---- one place; a default outside the list has to pass too
  pub every-at : (p : A → Bool) (l : List A) (i : ℕ) (d : A) → every p l ≡ true → p d ≡ true → p (get_or l i d) ≡ true
  unfolding every
  every-at p [] i d e h = h
  every-at p (x ∷ l) zero d e h = and_left (p x) (every p l) e
  every-at p (x ∷ l) (suc i) d e h = every-at p l i d (and_right (p x) (every p l) e) h

  pub every_in : (p : A → Bool) (l : List A) (i : ℕ) (d : A) → every p l ≡ true → i < length l → p (get_or l i d) ≡ true
  unfolding every
  every_in p [] i d e h = absurd (omega arith)
  every_in p (x ∷ l) zero d e h = and_left (p x) (every p l) e
  every_in p (x ∷ l) (suc i) d e h = every_in p l i d (and_right (p x) (every p l) e) (omega arith)

  pub every_set : (p : A → Bool) (l : List A) (i : ℕ) (s : A) → every p l ≡ true → p s ≡ true → every p (set l i s) ≡ true
  unfolding every
  every_set p [] i s e h = e
  every_set p (x ∷ l) zero s e h = rw h (and_right (p x) (every p l) e)
  every_set p (x ∷ l) (suc i) s e h = rw (and_left (p x) (every p l) e) (every_set p l i s (and_right (p x) (every p l) e) h)

  -- ---- all places at once
  pub every_map : (p : A → Bool) (f : A → A) (l : List A) → ((s : A) → p s ≡ true → p (f s) ≡ true) → every p l ≡ true → every p (map f l) ≡ true
  unfolding every
  every_map p f [] h e = e
  every_map p f (x ∷ l) h e = rw (h x (and_left (p x) (every p l) e)) (every_map p f l h (and_right (p x) (every p l) e))

  pub every_agree : (p q : A → Bool) (l : List A) → ((s : A) → p s ≡ q s) → every p l ≡ every q l
  unfolding every
  every_agree p q [] h = refl
  every_agree p q (x ∷ l) h = rw (h x, every_agree p q l h)

  pub every_same : (p : A → Bool) (n : ℕ) (s : A) → p s ≡ true → every p (replicate n s) ≡ true
  unfolding every
  every_same p zero s e = refl
  every_same p (suc n) s e = rw e (every_same p n s e)

  -- two places, the first before the second: the test of each with those after it tells of the two
  pub rest_pair : (p : A → A → Bool) (l : List A) (i j : ℕ) (d : A) → every_rest (λ x r. every (p x) r) l ≡ true → i < j → j < length l → p (get_or l i d) (get_or l j d) ≡ true
  unfolding every_rest
  rest_pair p [] i j d e h k = absurd (omega arith)
  rest_pair p (x ∷ l) i zero d e h k = absurd (omega arith)
  rest_pair p (x ∷ l) zero (suc j) d e h k = every_in (p x) l j d (and_left (every (p x) l) (every_rest (λ y r. every (p y) r) l) e) (omega arith)
  rest_pair p (x ∷ l) (suc i) (suc j) d e h k = rest_pair p l i j d (and_right (every (p x) l) (every_rest (λ y r. every (p y) r) l) e) (omega arith) (omega arith)
