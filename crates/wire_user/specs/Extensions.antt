-- The extension headers of a user datagram, which follow one another until next type 0: how the walk over them ends, and after
-- how many octets.
-- Assumes nothing.
use Rattle.std.specs.Prelude.{ℕ, zero, suc, ◌+◌, ◌-◌, ◌*◌, ◌<◌, ◌≤◌, Bool, true, ◌||◌, ◌≡◌, refl, drop, get_or, eqb, leb, ltb}
use Rattle.std.proofs.Math.Bool.{false}
use mathlib.Core.List.{List, [], ◌∷◌}
use Rattle.std.proofs.Common.{sym, arith}
use Rattle.std.proofs.Math.ListN.{length, length-drop}
use borrow.Author.Tests.{eq-eqb, ne_eqb, le-leb, lt-leb, ltb-false}
use Rattle.base_octets.specs.Number.{taken, part_cut, must_understand}
use Rattle.base_octets.specs.Choice.{pick, split, tests, impossible}

-- the number and how many octets lie before the payload: all of them where there is a refusal
pub record Walk : Type 0 where
  pub number : ℕ
  pub size : ℕ

-- a length counts units of 4 octets
abbrev pub length_unit : ℕ
length_unit = 4

-- from this type on an extension must be understood, and none is
abbrev pub first_must : ℕ
first_must = 128

abbrev pub refused : ℕ → List ℕ → Walk
refused number l = record { number = number; size = length l }

-- how many octets the extension header in front of l says it has; where there is none, 0
abbrev pub extent : List ℕ → ℕ
extent l = get_or l 0 0 * length_unit

-- its length is 0, or it is cut
unfoldable pub unfit : List ℕ → Bool
unfit l = eqb (extent l) 0 || ltb (length l) (extent l)

-- its last octet is the type of the next
abbrev pub next_type : List ℕ → ℕ
next_type l = get_or l (extent l - 1) 0

abbrev pub beyond : ℕ → Walk → Walk
beyond n w = record { number = w.number; size = n + w.size }

-- the type is judged before the length
abbrev pub by_type : ℕ → List ℕ → Walk → Walk
by_type type l w = pick (eqb type 0) (record { number = taken; size = 0 }) (pick (leb first_must type) (refused must_understand l) w)

-- at most n headers
unfoldable pub walk_of : ℕ → List ℕ → ℕ → Walk
walk_of zero l type = by_type type l (refused part_cut l)
walk_of (suc n) l type =
    by_type type l (pick (unfit l) (refused part_cut l) (beyond (extent l) (walk_of n (drop (extent l) l) (next_type l))))

-- the walk over l, whose first extension header has this type; there are never more headers than octets
unfoldable pub extensions_of : List ℕ → ℕ → Walk
extensions_of l type = walk_of (length l) l type

-- ---- laws
pub extent_none : (l : List ℕ) → length l ≡ 0 → extent l ≡ 0
extent_none [] e = refl
extent_none (x ∷ l) e = absurd (omega arith)

unfit_none : (l : List ℕ) → length l ≡ 0 → unfit l ≡ true
unfolding unfit
unfit_none l e = rw (eq-eqb (extent l) 0 (extent_none l e))

-- an extent that is neither 0 nor too long
pub fit : (l : List ℕ) (n : ℕ) → (eqb n 0 || ltb (length l) n) ≡ false → (0 < n) × (n ≤ length l)
fit l n e =
    split (eqb n 0) (λ a. impossible (sym (rw a at e)))
    (λ a. let b : ltb (length l) n ≡ false = rw a at e in (omega (arith, tests), ltb-false (length l) n b))

pub fit_extent : (l : List ℕ) → unfit l ≡ false → (0 < extent l) × (extent l ≤ length l)
unfolding unfit
fit_extent l e = fit l (extent l) e

-- as many headers as octets are enough
enough : (n m : ℕ) (l : List ℕ) (type : ℕ) → length l ≤ n → length l ≤ m → walk_of n l type ≡ walk_of m l type
unfolding walk_of
enough zero zero l type a b = refl
enough zero (suc m) l type a b = rw (unfit_none l (omega arith))
enough (suc n) zero l type a b = rw (unfit_none l (omega arith))
enough (suc n) (suc m) l type a b =
    split (unfit l) (λ u. rw u)
    (λ u.
    let f = fit_extent l u in
    let s = length-drop (extent l) l in
    rw (enough n m (drop (extent l) l) (next_type l) (omega arith) (omega arith)))

pub ext_end : (l : List ℕ) (type : ℕ) → type ≡ 0 → extensions_of l type ≡ record { number = taken; size = 0 }
unfolding extensions_of walk_of
ext_end [] type e = rw (eq-eqb type 0 e)
ext_end (x ∷ l) type e = rw (eq-eqb type 0 e)

module _ (type : ℕ) (some : type ≡ 0 → ⊥) where
  pub ext_must : (l : List ℕ) → first_must ≤ type → extensions_of l type ≡ refused must_understand l
  unfolding extensions_of walk_of
  ext_must [] h = rw (ne_eqb type 0 some, le-leb first_must type h)
  ext_must (x ∷ l) h = rw (ne_eqb type 0 some, le-leb first_must type h)

  pub ext_unfit : (l : List ℕ) (n : ℕ) → type < first_must → n ≡ extent l → (eqb n 0 || ltb (length l) n) ≡ true → extensions_of l type ≡ refused part_cut l
  unfolding extensions_of walk_of unfit
  ext_unfit [] n h e u = rw (ne_eqb type 0 some, lt-leb first_must type h)
  ext_unfit (x ∷ l) n h e u = let v = rw e at u in rw (ne_eqb type 0 some, lt-leb first_must type h, v)

  pub ext_next : (l : List ℕ) (n : ℕ) → type < first_must → n ≡ extent l → (eqb n 0 || ltb (length l) n) ≡ false
      → extensions_of l type ≡ beyond n (extensions_of (drop n l) (get_or l (n - 1) 0))
  unfolding extensions_of walk_of unfit
  ext_next l n h e u =
      let v : unfit l ≡ false = rw e at u in
      let f = fit_extent l v in
      let s = length-drop (extent l) l in
      rw e (stepped l h v f)
    where
      stepped : (l : List ℕ) → type < first_must → unfit l ≡ false → (0 < extent l) × (extent l ≤ length l)
          → walk_of (length l) l type ≡ beyond (extent l) (walk_of (length (drop (extent l) l)) (drop (extent l) l) (next_type l))
      stepped [] h v f = absurd (omega arith)
      stepped (x ∷ l) h v f =
          let s = length-drop (extent (x ∷ l)) (x ∷ l) in
          rw (
            ne_eqb type 0 some,
            lt-leb first_must type h,
            v,
            enough (length l) (length (drop (extent (x ∷ l)) (x ∷ l))) (drop (extent (x ∷ l)) (x ∷ l)) (next_type (x ∷ l)) (omega arith) (omega arith),
          )

-- the walk stays within the octets
within : (n : ℕ) (l : List ℕ) (type : ℕ) → (walk_of n l type).size ≤ length l
unfolding walk_of
within zero l type = split (eqb type 0) (λ a. rw a (omega arith)) (λ a. split (leb first_must type) (λ b. rw (a, b) (omega arith)) (λ b. rw (a, b) (omega arith)))
within (suc n) l type =
    split (eqb type 0) (λ a. rw a (omega arith))
    (λ a. split (leb first_must type) (λ b. rw (a, b) (omega arith))
    (λ b. split (unfit l) (λ u. rw (a, b, u) (omega arith))
    (λ u.
    let f = fit_extent l u in
    let s = length-drop (extent l) l in
    let r = within n (drop (extent l) l) (next_type l) in
    rw (a, b, u) (omega arith))))

pub ext_within : (l : List ℕ) (type : ℕ) → (extensions_of l type).size ≤ length l
unfolding extensions_of
ext_within l type = within (length l) l type

-- and where it is refused it has them all
all_of : (n : ℕ) (l : List ℕ) (type : ℕ) → ((walk_of n l type).number ≡ taken → ⊥) → (walk_of n l type).size ≡ length l
unfolding walk_of
all_of zero l type h =
    split (eqb type 0) (λ a. absurd (h (rw a)))
    (λ a. split (leb first_must type) (λ b. rw (a, b)) (λ b. rw (a, b)))
all_of (suc n) l type h =
    split (eqb type 0) (λ a. absurd (h (rw a)))
    (λ a. split (leb first_must type) (λ b. rw (a, b))
    (λ b. split (unfit l) (λ u. rw (a, b, u))
    (λ u.
    let f = fit_extent l u in
    let s = length-drop (extent l) l in
    let r = all_of n (drop (extent l) l) (next_type l) (λ z. h (rw (a, b, u) z)) in
    rw (a, b, u) (omega arith))))

pub ext_refused : (l : List ℕ) (type : ℕ) → ((extensions_of l type).number ≡ taken → ⊥) → (extensions_of l type).size ≡ length l
unfolding extensions_of
ext_refused l type h = all_of (length l) l type h
