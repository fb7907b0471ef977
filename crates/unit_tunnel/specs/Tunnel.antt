-- Tunnel numbers: the number of a place in one of its uses, for control and for user packets; who holds a number; the next use.
-- Assumes nothing.
use Rattle.std.specs.Prelude.{ℕ, ◌+◌, ◌-◌, ◌*◌, ◌/◌, ◌%◌, ◌<◌, ◌≤◌, Bool, false, ◌&&◌, ◌≡◌, Option, Some, None}
use Rattle.std.proofs.Math.Bool.{true}
use Rattle.std.proofs.Common.{sym, ◌∙◌, ap, div-add-mod'}
use Rattle.std.proofs.Math.Nat.{mul-add-div_right, mul-add-mod_self_right, mod-eq_of_lt, div-eq_of_lt, mul-le-mul_right}
use native.Mathlib.Omega.{arith}
use Rattle.std.proofs.Math.Dec.{leb, ltb}
use borrow.Author.Tests.{le-leb, lt-ltb, le-ltb}
use Rattle.base_octets.specs.Choice.{pick, split, and_left, and_right, tests}
use Rattle.unit_tunnel.specs.Numbering.{places, base, control_offset, user_offset, last_use, teids, base_some, last_some, control_fits, user_fits, offsets_apart, teids_hold}
use Rattle.unit_tunnel.specs.declared.Holder.{Holder}

-- the number of a place in its use-th use
unfoldable pub number_at : ℕ → ℕ → ℕ → ℕ
number_at offset usage place = usage * base + (offset + place)

abbrev pub control_number : ℕ → ℕ → ℕ
control_number usage place = number_at control_offset usage place

abbrev pub user_number : ℕ → ℕ → ℕ
user_number usage place = number_at user_offset usage place

-- whether a number is that of a place in some use, and of which
unfoldable pub numbers : ℕ → ℕ → Bool
numbers offset n = leb offset (n % base) && ltb (n % base) (offset + places) && leb 1 (n / base)

abbrev pub held_at : ℕ → ℕ → Option Holder
held_at place usage = Some (record { place = place; usage = usage })

-- who holds a number: that place in that use, or none
unfoldable pub holder_of : ℕ → ℕ → Option Holder
holder_of offset n = pick (numbers offset n) (held_at (n % base - offset) (n / base)) None

-- taking a place steps its use by one; after the last comes 1
unfoldable pub next_use : ℕ → ℕ
next_use usage = pick {A = ℕ} (ltb usage last_use) (usage + 1) 1

-- ---- laws of the number
module _ (offset usage place : ℕ) (fits : offset + places ≤ base) (p : place < places) where
  -- for every use that a place can have it fits its 32 bits
  pub number_fits : usage ≤ last_use → number_at offset usage place < teids
  unfolding number_at
  number_fits u =
      let a = mul-le-mul_right base u in
      let t = teids_hold in
      omega arith

  pub number_is : usage ≤ last_use → number_at offset usage place % teids ≡ number_at offset usage place
  number_is u = mod-eq_of_lt (number_fits u)

  pub number_place : number_at offset usage place % base ≡ offset + place
  unfolding number_at
  number_place = mul-add-mod_self_right usage base (offset + place) ∙ mod-eq_of_lt (omega arith)

  pub number_use : number_at offset usage place / base ≡ usage
  unfolding number_at
  number_use = mul-add-div_right base_some usage (offset + place) ∙ rw (div-eq_of_lt {n = offset + place} {m = base} (omega arith)) (omega arith)

  -- it gives back its place and its use
  pub number_holder : 1 ≤ usage → holder_of offset (number_at offset usage place) ≡ held_at place usage
  unfolding holder_of numbers
  number_holder l =
      let a : leb offset (offset + place) ≡ true = le-leb offset (offset + place) (omega arith) in
      let b : ltb (offset + place) (offset + places) ≡ true = lt-ltb (offset + place) (offset + places) (omega arith) in
      let d : leb 1 usage ≡ true = le-leb 1 usage l in
      let e : offset + place - offset ≡ place = omega arith in
      rw (number_place, number_use, a, b, d, e)

-- two numbers of one kind are equal only for equal place and use
pub number_same : (offset u p v q : ℕ) → offset + places ≤ base → p < places → q < places → number_at offset u p ≡ number_at offset v q → (u ≡ v) × (p ≡ q)
number_same offset u p v q fits hp hq e =
    let a : offset + p ≡ offset + q = sym (number_place offset u p fits hp) ∙ rw e (number_place offset v q fits hq) in
    (sym (number_use offset u p fits hp) ∙ rw e (number_use offset v q fits hq), omega arith)

-- a control number is never a user number
pub kinds_apart : (u p v q : ℕ) → p < places → q < places → control_number u p ≡ user_number v q → ⊥
kinds_apart u p v q hp hq e =
    let o = offsets_apart in
    let a : control_offset + p ≡ user_offset + q
    = sym (number_place control_offset u p control_fits hp) ∙ rw e (number_place user_offset v q user_fits hq) in
    omega arith

-- ---- laws of the holder
-- a holder is held at one place, in one use
pub held_same : (place p usage u : ℕ) → held_at place usage ≡ held_at p u → (place ≡ p) × (usage ≡ u)
held_same place p usage u e =
    let h : ◌≡◌ {A = Holder} (record { place = place; usage = usage }) (record { place = p; usage = u }) = cc in
    (ap (λ (x : Holder). x.place) h, ap (λ (x : Holder). x.usage) h)

-- what a held number tells: its place, its use, and that it is theirs
pub record Held (offset n place usage : ℕ) : Type 0 where
  pub place_in : place < places
  pub used : 1 ≤ usage
  pub number : number_at offset usage place ≡ n

pub holder_held : (offset n place usage : ℕ) → holder_of offset n ≡ held_at place usage → Held offset n place usage
unfolding holder_of numbers number_at
holder_held offset n place usage e = split (numbers offset n) held none
  where
    held : numbers offset n ≡ true → Held offset n place usage
    held t =
        let f = held_same (n % base - offset) place (n / base) usage (rw t at e) in
        let a = f.0 in
        let b = f.1 in
        let l : leb offset (n % base) ≡ true = search (and_left, and_right) in
        let k : ltb (n % base) (offset + places) ≡ true = search (and_left, and_right) in
        let o : leb 1 (n / base) ≡ true = search (and_left, and_right) in
        let d = div-add-mod' n base in
        record { place_in = omega (arith, tests); used = omega (arith, tests); number = rw (← b) (omega (arith, tests)) }

    none : numbers offset n ≡ false → Held offset n place usage
    none t =
        let f : ◌≡◌ {A = Option Holder} None (held_at place usage) = rw t at e in
        let z : ◌≡◌ {A = ℕ} 0 1 = cc in
        absurd (omega arith)

-- ---- laws of the next use
pub next_range : (usage : ℕ) → (1 ≤ next_use usage) × (next_use usage ≤ last_use)
unfolding next_use
next_range usage =
    let l = last_some in
    split (ltb usage last_use) (λ e. rw e (omega arith, omega (arith, tests))) (λ e. rw e (omega arith, omega arith))

pub next_step : (usage : ℕ) → usage < last_use → next_use usage ≡ usage + 1
unfolding next_use
next_step usage h = rw (lt-ltb usage last_use h)

pub next_round : (usage : ℕ) → last_use ≤ usage → next_use usage ≡ 1
unfolding next_use
next_round usage h = rw (le-ltb usage last_use h)
