-- The walk over the fields as its iterator goes: the next field, by the octets r that it looks at from place a on; the first field that passes
-- the search's test; and where the last whole field ends.
-- Assumes nothing.
use Rattle.std.specs.Prelude.{refl, true, false, ltb, leb, not, ◌==◌, Option, Some, None, zero, suc, ℕ, ◌+◌, ◌-◌, ◌%◌, ◌<◌, ◌≤◌, List, [], ◌∷◌, ◌≡◌, length, take, drop, get_or}
use Rattle.std.proofs.Common.{◌∙◌, sym, ap, arith, add-zero, le-ltb, lt-ltb, leb-true, leb-false, length-take, length-drop}
use borrow.Author.Tests.{ne_eqb}
use Rattle.std.proofs.lemmas.List.{get_or-drop}
use Rattle.std.proofs.Math.Seq.{take-length}
use mathlib.Core.Logic.{◌⊎◌, inl, inr}
use Rattle.base_octets.specs.BigEndian.{number_of}
use Rattle.std.specs.List.{AllWithin, HoldsAt, last_or}
use Rattle.base_octets.specs.Choice.{split}
use Rattle.std.specs.Iterator.{Yields, YieldsFirst, Drains}
use Rattle.wire_fields.specs.declared.Fields.{Fields}
use Rattle.wire_fields.specs.Search.{named, first_in}
use Rattle.wire_fields.specs.Walk.{Field, found, size_at, fields_at, fields_from, fields_past, fields_next, over_from, over_long, overruns}

pub rest_is : (s r : List ℕ) (a : ℕ) → r ≡ take (length s - a) (drop a s) → r ≡ drop a s
rest_is s r a e = e ∙ rw (← length-drop a s) (take-length (drop a s))

pub behind_length : (r : List ℕ) → length (take (length r - 4) (drop 4 r)) ≡ length r - 4
behind_length r = simp (length-take, length-drop) (omega arith)

module _ (s r : List ℕ) (a size : ℕ) (e : r ≡ drop a s) (n : size ≡ number_of (get_or r 1 0 ∷ get_or r 2 0 ∷ [])) (h : 4 ≤ length r) where
  size_is : size ≡ size_at s a
  unfolding size_at
  size_is = n ∙ rw (e, get_or-drop a s 1 0, get_or-drop a s 2 0)

  long : length r ≡ length s - a
  long = rw e (length-drop a s)

  pub ahead_past : length r - 4 < size → fields_at s a ≡ []
  ahead_past g = let z = size_is in let l = long in fields_past s a (omega arith) (omega arith)

  pub ahead_next : size ≤ length r - 4
      → fields_at s a ≡ record { kind = get_or r 0 0; instance = get_or r 3 0 % 16; found = found (a + 4) size } ∷ fields_at s (a + 4 + size)
  ahead_next g = let z = size_is in let l = long in
      rw (z, e, get_or-drop a s 0 0, get_or-drop a s 3 0, add-zero) (fields_next s a (omega arith) (omega arith))

-- a place past the end
pub far : (s : List ℕ) (a : ℕ) → (length s < a) ⊎ (length s < length s) → length s < a + 4
far s a (inl h) = omega arith
far s a (inr h) = absurd (omega arith)

-- the search in the words of one over a list
module _ (kind inst : ℕ) where
  pub none_is : (l : List Field) → AllWithin (λ f. named f kind inst ≡ false) l 0 (length l) → first_in l kind inst ≡ None
  unfolding first_in named
  none_is [] h = refl
  none_is (x ∷ l) h =
      let e : named x kind inst ≡ false = h 0 x (omega arith) (omega arith) in
      rw e (none_is l (λ k d p q. h (suc k) d (omega arith) (omega arith)))

  pub some_is : (l : List Field) (f : Field) (i : ℕ) → named f kind inst ≡ true → i < length l → HoldsAt (λ g. g ≡ f) l i → AllWithin (λ f. named f kind inst ≡ false) l 0 i
      → first_in l kind inst ≡ Some f.found
  unfolding first_in named
  some_is [] f i t b h a = absurd (omega arith)
  some_is (x ∷ l) f zero t b h a = let e : x ≡ f = h x in rw (e, t) refl
  some_is (x ∷ l) f (suc i) t b h a =
      let e : named x kind inst ≡ false = a 0 x (omega arith) (omega arith) in
      rw e (some_is l f i t (omega arith) (λ d. h d) (λ k d p q. a (suc k) d (omega arith) (omega arith)))

-- ---- where the whole fields end: without one, at d
end_of : Field → ℕ
end_of f = f.found.start + f.found.size

past : ℕ → List Field → ℕ
past d [] = d
past d (f ∷ l) = past (end_of f) l

ends : (l : List ℕ) (skip at d n : ℕ) → d ≡ at + skip → n ≡ at + length l → skip ≤ length l
    → (over_from l skip ≡ ltb (past d (fields_from l skip at)) n) × (past d (fields_from l skip at) ≤ n)
unfolding over_from fields_from past end_of
ends [] zero at d n e f h = (sym (le-ltb _ _ (omega arith)), omega arith)
ends [] (suc skip) at d n e f h = absurd (omega arith)
ends (x ∷ l) (suc skip) at d n e f h = ends l skip (suc at) d n (omega arith) (omega arith) (omega arith)
ends (t ∷ []) zero at d n e f h = (sym (lt-ltb _ _ (omega arith)), omega arith)
ends (t ∷ a ∷ []) zero at d n e f h = (sym (lt-ltb _ _ (omega arith)), omega arith)
ends (t ∷ a ∷ b ∷ []) zero at d n e f h = (sym (lt-ltb _ _ (omega arith)), omega arith)
ends (t ∷ a ∷ b ∷ i ∷ l) zero at d n e f h =
    split (leb (number_of (a ∷ b ∷ [])) (length l))
    (λ k. let g = leb-true _ _ k in rw k (ends l (number_of (a ∷ b ∷ [])) (at + 4) (at + 4 + number_of (a ∷ b ∷ [])) n (omega arith) (omega arith) (omega arith)))
    (λ k. let g = leb-false _ _ k in rw k (over_long l (number_of (a ∷ b ∷ [])) (omega arith) ∙ sym (lt-ltb _ _ (omega arith)), omega arith))

last_some : (l : List Field) (f g : Field) → last_or (Some f) l ≡ Some g → past (end_of f) l ≡ end_of g
unfolding past
last_some [] f g e = let k : f ≡ g = cc in ap end_of k
last_some (x ∷ l) f g e = last_some l x g e

never_none : (l : List Field) (f : Field) → last_or (Some f) l ≡ None → ⊥
never_none [] f e = let z : ◌≡◌ {A = ℕ} 0 1 = cc in omega arith
never_none (x ∷ l) f e = never_none l x e

last_is : (l : List Field) (g : Field) → last_or None l ≡ Some g → past 0 l ≡ end_of g
unfolding past
last_is [] g e = let z : ◌≡◌ {A = ℕ} 0 1 = cc in absurd (omega arith)
last_is (x ∷ l) g e = last_some l x g e

last_none : (l : List Field) → last_or None l ≡ None → past 0 l ≡ 0
unfolding past
last_none [] e = refl
last_none (x ∷ l) e = absurd (never_none l x e)

module _ (s : List ℕ) where
  all : (over_from s 0 ≡ ltb (past 0 (fields_at s 0)) (length s)) × (past 0 (fields_at s 0) ≤ length s)
  unfolding fields_at
  all = ends s 0 0 0 (length s) refl (omega arith) (omega arith)

  pub last_within : (f : Field) → last_or None (fields_at s 0) ≡ Some f → f.found.start + f.found.size ≤ length s
  unfolding end_of
  last_within f e = rw (last_is (fields_at s 0) f e) at all.1

  pub last_over : (f : Field) → last_or None (fields_at s 0) ≡ Some f → overruns s ≡ ltb (f.found.start + f.found.size) (length s)
  unfolding overruns end_of
  last_over f e = rw (last_is (fields_at s 0) f e) at all.0

  pub none_over : last_or None (fields_at s 0) ≡ None → overruns s ≡ ltb 0 (length s)
  unfolding overruns
  none_over e = rw (last_none (fields_at s 0) e) at all.0

-- a walk that came to its end gave all that was left
drained : (rest : Fields → List Field) (xs : List Field) (f g : Fields) → Yields (YieldsFirst rest) f xs g → rest g ≡ [] → rest f ≡ xs
drained rest [] f g y e = ap rest y ∙ e
drained rest (x ∷ xs) f g y e = y.1 ∙ ap (λ (l : List Field). x ∷ l) (drained rest xs y.0 g y.2 e)

pub last_left_of : (rest : Fields → List Field) (f : Fields) (r : Option Field)
    → ((xs : List Field) × Drains (YieldsFirst rest) f xs × (r ≡ last_or None xs)) → last_or None (rest f) ≡ r
last_left_of rest f r h = let w = h.1.1 in rw (drained rest h.0 f w.0 w.1 w.2.0) (sym h.2)

pub some_left : (n : ℕ) → not (n == 0) ≡ ltb 0 n
some_left zero = refl
some_left (suc n) = rw (ne_eqb (suc n) 0 (λ e. omega arith), lt-ltb 0 (suc n) (omega arith))
