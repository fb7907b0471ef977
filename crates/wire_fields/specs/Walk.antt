-- The fields that stand one after the other in a run of octets: type, 2-octet length, instance in the low 4 bits, value.
-- A walk over them counts the octets of a value down, so that it goes from octet to octet and needs no measure; a value that
-- is still being counted when the octets end has run past the end.
-- Assumes nothing.
use Rattle.std.specs.Prelude.{ℕ, zero, suc, ◌+◌, ◌%◌, ◌<◌, ◌≤◌, Bool, true, false, List, [], ◌∷◌, ◌≡◌, refl, length, take, drop, get_or, leb}
use Rattle.std.proofs.Common.{◌∙◌, add-zero, add-suc, suc-add, arith, drop_of_length-le, drop-cons, drop-drop}
use Rattle.std.proofs.Math.ListN.{length-drop}
use borrow.Author.Tests.{le-leb, lt-leb}
use Rattle.base_octets.specs.Choice.{pick}
use Rattle.base_octets.specs.BigEndian.{number_of}
pub use Rattle.wire_fields.specs.declared.Field.{Field}
use Rattle.wire_fields.specs.declared.Found.{Found}

-- where a value starts, and how many octets it has
abbrev pub found : ℕ → ℕ → Found
found start size = record { start = start; size = size }

-- the octets of a value that starts at a and has n of them
abbrev pub part : List ℕ → ℕ → ℕ → List ℕ
part s a n = take n (drop a s)

-- the octets left, how many of them belong to the value before, and their place: the whole fields from there on
unfoldable pub fields_from : List ℕ → ℕ → ℕ → List Field
fields_from [] skip at = []
fields_from (x ∷ l) (suc skip) at = fields_from l skip (suc at)
fields_from (t ∷ []) zero at = []
fields_from (t ∷ a ∷ []) zero at = []
fields_from (t ∷ a ∷ b ∷ []) zero at = []
fields_from (t ∷ a ∷ b ∷ i ∷ l) zero at =
    pick (leb (number_of (a ∷ b ∷ [])) (length l))
    (record { kind = t; instance = i % 16; found = found (at + 4) (number_of (a ∷ b ∷ [])) } ∷ fields_from l (number_of (a ∷ b ∷ [])) (at + 4))
    []

-- whether a field runs past the end; 1 to 3 octets left over do too
unfoldable pub over_from : List ℕ → ℕ → Bool
over_from [] zero = false
over_from [] (suc skip) = true
over_from (x ∷ l) (suc skip) = over_from l skip
over_from (t ∷ []) zero = true
over_from (t ∷ a ∷ []) zero = true
over_from (t ∷ a ∷ b ∷ []) zero = true
over_from (t ∷ a ∷ b ∷ i ∷ l) zero = over_from l (number_of (a ∷ b ∷ []))

unfoldable pub fields_of : List ℕ → List Field
fields_of s = fields_from s 0 0

unfoldable pub overruns : List ℕ → Bool
overruns s = over_from s 0

-- the length that the field at a place states
unfoldable pub size_at : List ℕ → ℕ → ℕ
size_at s p = number_of (get_or s (p + 1) 0 ∷ get_or s (p + 2) 0 ∷ [])

-- ---- laws: octets that belong to the value before are passed over
fields_skip : (l : List ℕ) (k at : ℕ) → k ≤ length l → fields_from l k at ≡ fields_from (drop k l) 0 (at + k)
unfolding fields_from
fields_skip l zero at h = rw add-zero
fields_skip [] (suc k) at h = absurd (omega arith)
fields_skip (x ∷ l) (suc k) at h = rw (add-suc, ← suc-add) (fields_skip l k (suc at) (omega arith))

over_skip : (l : List ℕ) (k : ℕ) → k ≤ length l → over_from l k ≡ over_from (drop k l) 0
unfolding over_from
over_skip l zero h = refl
over_skip [] (suc k) h = absurd (omega arith)
over_skip (x ∷ l) (suc k) h = over_skip l k (omega arith)

pub over_long : (l : List ℕ) (k : ℕ) → length l < k → over_from l k ≡ true
unfolding over_from
over_long l zero h = absurd (omega arith)
over_long [] (suc k) h = refl
over_long (x ∷ l) (suc k) h = over_long l k (omega arith)

-- ---- a start of a field that is cut
over_few : (l : List ℕ) → 0 < length l → length l < 4 → over_from l 0 ≡ true
unfolding over_from
over_few [] h g = absurd (omega arith)
over_few (a ∷ []) h g = refl
over_few (a ∷ b ∷ []) h g = refl
over_few (a ∷ b ∷ c ∷ []) h g = refl
over_few (a ∷ b ∷ c ∷ d ∷ l) h g = absurd (omega arith)

fields_few : (l : List ℕ) (at : ℕ) → length l < 4 → fields_from l 0 at ≡ []
unfolding fields_from
fields_few [] at g = refl
fields_few (a ∷ []) at g = refl
fields_few (a ∷ b ∷ []) at g = refl
fields_few (a ∷ b ∷ c ∷ []) at g = refl
fields_few (a ∷ b ∷ c ∷ d ∷ l) at g = absurd (omega arith)

one_next : (s : List ℕ) (p q : ℕ) → p < length s → q ≡ suc p → drop p s ≡ get_or s p 0 ∷ drop q s
one_next s p q h e = rw e (drop-cons s p 0 h)

-- the four octets before a value, where they are there
pub four_next : (s : List ℕ) (p : ℕ) → p + 4 ≤ length s → drop p s ≡ get_or s p 0 ∷ get_or s (p + 1) 0 ∷ get_or s (p + 2) 0 ∷ get_or s (p + 3) 0 ∷ drop (p + 4) s
four_next s p h =
    let e0 = one_next s p (p + 1) (omega arith) (omega arith) in
    let e1 = one_next s (p + 1) (p + 2) (omega arith) (omega arith) in
    let e2 = one_next s (p + 2) (p + 3) (omega arith) (omega arith) in
    let e3 = one_next s (p + 3) (p + 4) (omega arith) (omega arith) in
    cc

-- ---- the walks in the words of one that has come to place p
unfoldable pub fields_at : List ℕ → ℕ → List Field
fields_at s p = fields_from (drop p s) 0 p

unfoldable pub over_at : List ℕ → ℕ → Bool
over_at s p = over_from (drop p s) 0

pub fields_start : (s : List ℕ) → fields_of s ≡ fields_at s 0
unfolding fields_of fields_at
fields_start s = refl

pub over_start : (s : List ℕ) → overruns s ≡ over_at s 0
unfolding overruns over_at
over_start s = refl

module _ (s : List ℕ) (p : ℕ) where
  pub over_end : length s ≤ p → over_at s p ≡ false
  unfolding over_at over_from
  over_end h = rw (drop_of_length-le s)

  pub over_cut : p < length s → length s < p + 4 → over_at s p ≡ true
  unfolding over_at
  over_cut h g = over_few (drop p s) (omega (arith, length-drop p s)) (omega (arith, length-drop p s))

  pub over_past : p + 4 ≤ length s → length s < p + 4 + size_at s p → over_at s p ≡ true
  unfolding over_at over_from size_at
  over_past h g = rw (four_next s p h) (over_long (drop (p + 4) s) (size_at s p) (omega (arith, length-drop (p + 4) s)))

  pub over_next : p + 4 ≤ length s → p + 4 + size_at s p ≤ length s → over_at s p ≡ over_at s (p + 4 + size_at s p)
  unfolding over_at over_from size_at
  over_next h g = rw (four_next s p h) (over_skip (drop (p + 4) s) (size_at s p) (omega (arith, length-drop (p + 4) s)) ∙ rw drop-drop)

  pub fields_cut : length s < p + 4 → fields_at s p ≡ []
  unfolding fields_at
  fields_cut g = fields_few (drop p s) p (omega (arith, length-drop p s))

  pub fields_past : p + 4 ≤ length s → length s < p + 4 + size_at s p → fields_at s p ≡ []
  unfolding fields_at fields_from size_at
  fields_past h g =
      let t = lt-leb (size_at s p) (length (drop (p + 4) s)) (omega (arith, length-drop (p + 4) s)) in
      rw (four_next s p h, t)

  pub fields_next : p + 4 ≤ length s → p + 4 + size_at s p ≤ length s
      → fields_at s p ≡ record { kind = get_or s p 0; instance = get_or s (p + 3) 0 % 16; found = found (p + 4) (size_at s p) } ∷ fields_at s (p + 4 + size_at s p)
  unfolding fields_at fields_from size_at
  fields_next h g =
      let t = le-leb (size_at s p) (length (drop (p + 4) s)) (omega (arith, length-drop (p + 4) s)) in
      let o = fields_skip (drop (p + 4) s) (size_at s p) (p + 4) (omega (arith, length-drop (p + 4) s)) in
      rw (four_next s p h, t, o) (rw drop-drop)
