-- The first element that passes a test, as its place, or the length where none does: so that a store "there"
-- does nothing where there is none. The laws of a searching loop, and what the search says of counts.
-- Assumes nothing.
use Prim.Native.Nat.{ℕ, zero, suc, ◌+◌, ◌<◌, ◌≤◌}
use Rattle.std.specs.Prelude.{Bool, true, false, not, ◌≡◌, length, drop, get_or, set, ltb, Some, None, unwrap_or, min, ◌-◌}
use mathlib.Core.List.{List, [], ◌∷◌}
use Rattle.std.specs.List.{position, position_or_len}
use Rattle.std.proofs.Math.Path.{refl}
use Rattle.std.proofs.Common.{sym, drop_of_length-le, drop-cons, ltb-true, ltb-false}
use Rattle.std.proofs.Math.Numerals.{add-one}
use native.Mathlib.Omega.{arith}
use Rattle.std.proofs.Math.Seq.{set_out}
use mir.Val.{bool_byte}
use Rattle.base_octets.specs.Choice.{pick, split}
use Rattle.base_octets.specs.Sums.{sum_of, count_of, sum_set}

unfoldable pub first_of : {A : Type 0} → (A → Bool) → List A → ℕ
first_of p [] = 0
first_of p (x ∷ l) = pick {A = ℕ} (p x) 0 (suc (first_of p l))

-- ---- it is what an iterator's `position` finds
pub first_len : {A : Type 0} (p : A → Bool) (l : List A) → position_or_len p l ≡ first_of p l
unfolding first_of
first_len p [] = refl
first_len p (x ∷ l) = split (p x) (λ e. rw e) (λ e. rw (e, first_len p l) (omega arith))

pub first_position : {A : Type 0} (p : A → Bool) (l : List A) → position p l ≡ pick (ltb (first_of p l) (length l)) (Some (first_of p l)) None
first_position p l = rw (first_len p l)

pub first_or : {A : Type 0} (p : A → Bool) (l : List A) (n : ℕ) → unwrap_or (position p l) n ≡ pick {A = ℕ} (ltb (first_of p l) (length l)) (first_of p l) n
first_or p l n = rw (first_position p l) (split (ltb (first_of p l) (length l)) (λ e. rw e) (λ e. rw e))

-- ---- a loop that has come to place i: the whole search is i and the search in the rest
module _ {A : Type 0} (p : A → Bool) (l : List A) (i : ℕ) where
  pub first_hit : (d : A) → i < length l → p (get_or l i d) ≡ true → first_of p (drop i l) ≡ 0
  unfolding first_of
  first_hit d h e = rw (drop-cons l i d, e)

  pub first_miss : (d : A) → i < length l → p (get_or l i d) ≡ false → first_of p (drop i l) ≡ first_of p (drop (i + 1) l) + 1
  unfolding first_of
  first_miss d h e = rw (drop-cons l i d, e, add-one i) (sym (add-one _))

  pub first_end : length l ≤ i → first_of p (drop i l) ≡ 0
  unfolding first_of
  first_end h = rw (drop_of_length-le l)

module _ {A : Type 0} (p : A → Bool) where
  pub first_most : (l : List A) → first_of p l ≤ length l
  unfolding first_of
  first_most [] = omega arith
  first_most (x ∷ l) = let r = first_most l in split (p x) (λ e. rw e (omega arith)) (λ e. rw e (omega arith))

  pub first_or_last : (l : List A) → unwrap_or (position p l) (length l - 1) ≡ min (first_of p l) (length l - 1)
  first_or_last l =
      let m = first_most l in
      rw (first_or p l (length l - 1))
      (split (ltb (first_of p l) (length l))
      (λ e. let h = ltb-true (first_of p l) (length l) e in rw e (omega arith))
      (λ e. let h = ltb-false (first_of p l) (length l) e in rw e (omega arith)))

  pub first_or_none : (l : List A) → unwrap_or (position p l) (length l) ≡ first_of p l
  first_or_none l =
      let m = first_most l in
      rw (first_or p l (length l))
      (split (ltb (first_of p l) (length l)) (λ e. rw e) (λ e. let h = ltb-false (first_of p l) (length l) e in rw e (omega arith)))

  pub first_passes : (l : List A) (d : A) → first_of p l < length l → p (get_or l (first_of p l) d) ≡ true
  unfolding first_of
  first_passes [] d h = absurd (omega arith)
  first_passes (x ∷ l) d h =
      split (p x) (λ e. rw e e) (λ e. let k = rw e at h in rw e (first_passes l d (omega arith)))

  -- what passes is not before it
  pub first-before : (l : List A) (i : ℕ) (d : A) → i < length l → p (get_or l i d) ≡ true → first_of p l ≤ i
  unfolding first_of
  first-before [] i d h e = absurd (omega arith)
  first-before (x ∷ l) zero d h e = rw e (omega arith)
  first-before (x ∷ l) (suc i) d h e =
      let r = first-before l i d (omega arith) e in
      split (p x) (λ f. rw f (omega arith)) (λ f. rw f (omega arith))

  pub first_none : (l : List A) → length l ≤ first_of p l → count_of p l ≡ 0
  unfolding first_of sum_of
  first_none [] h = refl
  first_none (x ∷ l) h =
      split (p x) (λ e. let k = rw e at h in absurd (omega arith))
      (λ e. let k = rw e at h in let r = first_none l (omega arith) in rw e (omega arith))

  -- not all fail: one is found
  pub first-room : (l : List A) → count_of (λ x. not (p x)) l < length l → first_of p l < length l
  unfolding first_of sum_of
  first-room [] h = h
  first-room (x ∷ l) h =
      split (p x) (λ e. rw e (omega arith))
      (λ e. let k = rw e at h in let r = first-room l (omega arith) in rw e (omega arith))

  -- one passes at most, and the first that passes is made to fail: then none passes
  pub first-gone : (l : List A) (s d : A) → p s ≡ false → count_of p l ≤ 1 → count_of p (set l (first_of p l) s) ≡ 0
  first-gone l s d e h = split (ltb (first_of p l) (length l)) found none
    where
      found : ltb (first_of p l) (length l) ≡ true → count_of p (set l (first_of p l) s) ≡ 0
      found f =
          let k = ltb-true (first_of p l) (length l) f in
          let z : count_of p (set l (first_of p l) s) + 1 ≡ count_of p l + 0
          = rw (e, first_passes l d k) at (sum_set (λ x. bool_byte (p x)) l (first_of p l) s d k) in
          omega arith

      none : ltb (first_of p l) (length l) ≡ false → count_of p (set l (first_of p l) s) ≡ 0
      none f =
          let k = ltb-false (first_of p l) (length l) f in
          let w : set l (first_of p l) s ≡ l = set_out l (first_of p l) s k in
          rw w (first_none l k)
