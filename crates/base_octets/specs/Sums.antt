-- Sums and counts over a list: the laws of a loop that adds, of a store at one place, of a map and of a repeated value.
-- A count is a sum of ones, so that one law serves every count and every "at most once".
-- Assumes nothing.
use Prim.Native.Nat.{ℕ, zero, suc, ◌+◌, ◌*◌, ◌<◌, ◌≤◌}
use Rattle.std.specs.Prelude.{Bool, true, ◌≡◌, length, drop, get_or, set, replicate}
use mathlib.Core.List.{List, [], ◌∷◌, map}
use Rattle.std.specs.List.{fold, sum, sum_by}
use Rattle.std.proofs.Math.Path.{refl}
use Rattle.std.proofs.Common.{add-one, drop_of_length-le}
use native.Mathlib.Omega.{arith}
use Rattle.std.proofs.Math.Seq.{drop-cons}
use Rattle.base_octets.specs.Choice.{bit_most, and_left, and_right}
use Rattle.base_octets.specs.Every.{every}
use mir.Val.{bool_byte}

unfoldable pub sum_of : {A : Type 0} → (A → ℕ) → List A → ℕ
sum_of f [] = 0
sum_of f (x ∷ l) = f x + sum_of f l

-- how many pass
abbrev pub count_of : {A : Type 0} → (A → Bool) → List A → ℕ
count_of p l = sum_of (λ x. bool_byte (p x)) l

-- ---- it is what an iterator's `sum` adds
sum_fold : {A : Type 0} (f : A → ℕ) (n : ℕ) (l : List A) → fold (λ a x. a + f x) n l ≡ n + sum_of f l
unfolding sum_of
sum_fold f n [] = omega arith
sum_fold f n (x ∷ l) = let r = sum_fold f (n + f x) l in omega arith

pub sum_by_of : {A : Type 0} (f : A → ℕ) (l : List A) → sum_by f l ≡ sum_of f l
sum_by_of f l = let r = sum_fold f 0 l in omega arith

-- ---- a loop that has come to place i
module _ {A : Type 0} (f : A → ℕ) (l : List A) (i : ℕ) where
  pub sum_step : (d : A) → i < length l → sum_of f (drop i l) ≡ f (get_or l i d) + sum_of f (drop (i + 1) l)
  unfolding sum_of
  sum_step d h = rw (add-one, drop-cons l i d)

  pub sum_add : (d : A) (sum whole : ℕ) → i < length l → sum + sum_of f (drop i l) ≡ whole → sum + f (get_or l i d) + sum_of f (drop (i + 1) l) ≡ whole
  sum_add d sum whole h e = let s = sum_step d h in omega arith

  pub sum_end : length l ≤ i → sum_of f (drop i l) ≡ 0
  unfolding sum_of
  sum_end h = rw (drop_of_length-le l)

module _ {A : Type 0} where
  -- ---- a store at one place: what goes and what comes, on the two sides of one equation
  pub sum_set : (f : A → ℕ) (l : List A) (i : ℕ) (s d : A) → i < length l → sum_of f (set l i s) + f (get_or l i d) ≡ sum_of f l + f s
  unfolding sum_of
  sum_set f [] i s d h = absurd (omega arith)
  sum_set f (x ∷ l) zero s d h = omega arith
  sum_set f (x ∷ l) (suc i) s d h = let r = sum_set f l i s d (omega arith) in omega arith

  -- in range or out of it
  pub sum_set_most : (f : A → ℕ) (l : List A) (i : ℕ) (s d : A) → f s ≤ f (get_or l i d) → sum_of f (set l i s) ≤ sum_of f l
  unfolding sum_of
  sum_set_most f [] i s d h = omega arith
  sum_set_most f (x ∷ l) zero s d h = omega arith
  sum_set_most f (x ∷ l) (suc i) s d h = let r = sum_set_most f l i s d h in omega arith

  pub sum_holds : (f : A → ℕ) (l : List A) (i : ℕ) (d : A) → i < length l → f (get_or l i d) ≤ sum_of f l
  unfolding sum_of
  sum_holds f [] i d h = absurd (omega arith)
  sum_holds f (x ∷ l) zero d h = omega arith
  sum_holds f (x ∷ l) (suc i) d h = let r = sum_holds f l i d (omega arith) in omega arith

  -- two places have both their shares in it
  pub sum_holds_two : (f : A → ℕ) (l : List A) (i j : ℕ) (d : A) → i < j → j < length l → f (get_or l i d) + f (get_or l j d) ≤ sum_of f l
  unfolding sum_of
  sum_holds_two f [] i j d h k = absurd (omega arith)
  sum_holds_two f (x ∷ l) i zero d h k = absurd (omega arith)
  sum_holds_two f (x ∷ l) zero (suc j) d h k = let r = sum_holds f l j d (omega arith) in omega arith
  sum_holds_two f (x ∷ l) (suc i) (suc j) d h k = let r = sum_holds_two f l i j d (omega arith) (omega arith) in omega arith

  -- ---- all places at once
  pub sum_map_most : (f : A → ℕ) (m : A → A) (l : List A) → ((s : A) → f (m s) ≤ f s) → sum_of f (map m l) ≤ sum_of f l
  unfolding sum_of
  sum_map_most f m [] h = omega arith
  sum_map_most f m (x ∷ l) h = let a = h x in let r = sum_map_most f m l h in omega arith

  pub sum_least : (f g : A → ℕ) (l : List A) → ((s : A) → f s ≤ g s) → sum_of f l ≤ sum_of g l
  unfolding sum_of
  sum_least f g [] h = omega arith
  sum_least f g (x ∷ l) h = let a = h x in let r = sum_least f g l h in omega arith

  -- two weights that agree on what passes a test
  pub sum_agree : (ok : A → Bool) (f g : A → ℕ) (l : List A) → every ok l ≡ true → ((s : A) → ok s ≡ true → f s ≡ g s) → sum_of f l ≡ sum_of g l
  unfolding sum_of every
  sum_agree ok f g [] e h = refl
  sum_agree ok f g (x ∷ l) e h =
      rw (h x (and_left (ok x) (every ok l) e), sum_agree ok f g l (and_right (ok x) (every ok l) e) h)

  pub sum_of_map : {B : Type 0} (f : A → ℕ) (g : B → A) (l : List B) → sum_of f (map g l) ≡ sum_of (λ x. f (g x)) l
  unfolding sum_of
  sum_of_map f g [] = refl
  sum_of_map f g (x ∷ l) = rw (sum_of_map f g l)

  pub sum_same : (f : A → ℕ) (n : ℕ) (s : A) → sum_of f (replicate n s) ≡ n * f s
  unfolding sum_of
  sum_same f zero s = omega arith
  sum_same f (suc n) s = let r = sum_same f n s in omega arith

  pub count_most : (p : A → Bool) (l : List A) → count_of p l ≤ length l
  unfolding sum_of
  count_most p [] = omega arith
  count_most p (x ∷ l) = let a = bit_most (p x) in let r = count_most p l in omega arith
