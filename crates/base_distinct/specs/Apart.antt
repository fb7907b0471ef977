-- No two elements of a list clash: stated pair by pair, as it reads; used as a count ("at most one has it"); and tested on keys,
-- numbers of which 0 is no key. Three forms of one rule, for any element type and any clash, with the laws between them.
-- Assumes nothing.
use Rattle.std.specs.Prelude.{ℕ, ◌≤◌, Bool, true, not, ◌&&◌, ◌≡◌, eqb}
use mathlib.Core.List.{List, [], ◌∷◌, map}
use Rattle.std.proofs.Math.Path.{refl}
use Rattle.std.proofs.Common.{sym, ◌∙◌}
use native.Mathlib.Omega.{arith}
use borrow.Author.Tests.{not-true}
use Rattle.base_octets.specs.Choice.{split, and_left, and_right, impossible, bit_most}
use Rattle.base_octets.specs.Every.{every, every_rest}
use Rattle.base_octets.specs.Sums.{sum_of, count_of}

unfoldable pub none_clash : {A : Type 0} → (A → A → Bool) → A → List A → Bool
none_clash clash x l = every (λ y. not (clash x y)) l

unfoldable pub pairwise : {A : Type 0} → (A → A → Bool) → List A → Bool
pairwise clash l = every_rest (none_clash clash) l

-- two keys clash that are the same and not 0
unfoldable pub same_key : ℕ → ℕ → Bool
same_key x y = not (eqb x 0) && eqb x y

-- ---- on keys
module _ {A : Type 0} (clash : A → A → Bool) (key : A → ℕ) (ok : A → Bool) (same : (x y : A) → ok x ≡ true → ok y ≡ true → same_key (key x) (key y) ≡ clash x y) where
  pub none_keys : (x : A) (l : List A) → ok x ≡ true → every ok l ≡ true → none_clash same_key (key x) (map key l) ≡ none_clash clash x l
  unfolding none_clash every
  none_keys x [] e f = refl
  none_keys x (y ∷ l) e f = rw (same x y e (and_left (ok y) (every ok l) f), none_keys x l e (and_right (ok y) (every ok l) f))

  pub pairwise_keys : (l : List A) → every ok l ≡ true → pairwise same_key (map key l) ≡ pairwise clash l
  unfolding pairwise every_rest every
  pairwise_keys [] f = refl
  pairwise_keys (x ∷ l) f =
      rw (none_keys x l (and_left (ok x) (every ok l) f) (and_right (ok x) (every ok l) f), pairwise_keys l (and_right (ok x) (every ok l) f))

-- ---- as counts
module _ {A : Type 0} (clash : A → A → Bool) where
  -- all that have it clash with each other: then one has it at most
  none_count : (has : A → Bool) (x : A) (l : List A) → ((y : A) → has y ≡ true → clash x y ≡ true) → none_clash clash x l ≡ true → count_of has l ≡ 0
  unfolding none_clash every sum_of
  none_count has x [] h e = refl
  none_count has x (y ∷ l) h e =
      let r = none_count has x l h (and_right (not (clash x y)) (none_clash clash x l) e) in
      let n = not-true (clash x y) (and_left (not (clash x y)) (none_clash clash x l) e) in
      split (has y) (λ t. impossible (sym n ∙ h y t)) (λ t. rw t (omega arith))

  pub pairwise_count : (has : A → Bool) (l : List A) → ((x y : A) → has x ≡ true → has y ≡ true → clash x y ≡ true) → pairwise clash l ≡ true → count_of has l ≤ 1
  unfolding pairwise every_rest sum_of
  pairwise_count has [] h e = omega arith
  pairwise_count has (x ∷ l) h e =
      let r = pairwise_count has l h (and_right (none_clash clash x l) (every_rest (none_clash clash) l) e) in
      split (has x)
      (λ t. let z = none_count has x l (λ y q. h x y t q) (and_left (none_clash clash x l) (every_rest (none_clash clash) l) e) in rw t (omega arith))
      (λ t. rw t (omega arith))

  -- each clash is over a name that both have, and whatever the name, one has it at most: then none clash
  module _ {K : Type 0} (has : K → A → Bool) (name : A → K) (shared : (x y : A) → clash x y ≡ true → (has (name x) x ≡ true) × (has (name x) y ≡ true)) where
    count_none : (x : A) (l : List A) → (has (name x) x ≡ true → count_of (has (name x)) l ≡ 0) → none_clash clash x l ≡ true
    unfolding none_clash every sum_of
    count_none x [] e = refl
    count_none x (y ∷ l) e =
        split (clash x y)
        (λ t. let s = shared x y t in let z = rw s.1 at (e s.0) in absurd (omega arith))
        (λ t. rw t (count_none x l (λ p. let z = e p in omega arith)))

    pub count_pairwise : (l : List A) → ((k : K) → count_of (has k) l ≤ 1) → pairwise clash l ≡ true
    unfolding pairwise every_rest sum_of
    count_pairwise [] e = refl
    count_pairwise (x ∷ l) e =
        rw (count_none x l (λ p. let z = rw p at (e (name x)) in omega arith))
        (count_pairwise l (λ k. let z = e k in let b = bit_most (has k x) in omega arith))
