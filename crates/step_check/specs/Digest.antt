-- The digest of a record: its key in the low 58 bits, then a bit each for a request that is due and for an awaited number, and its access
-- point in the top two. A free record has 0, and one that is not as the rules want it has every bit, that above the key too. Of a good
-- record the digest says what the survey of the rules asks.
-- Assumes nothing.
use Rattle.std.specs.Prelude.{◌≡◌, ℕ, ◌+◌, ◌*◌, ◌/◌, ◌%◌, ◌<◌, ◌≤◌, Bool, true, false, not, ◌&&◌, leb, ◌==◌, bit_or, nat_eq, nat_le, nat_lt, refl}
use Rattle.std.proofs.Common.{sym, ◌∙◌, ap}
use native.Mathlib.Omega.{arith}
use borrow.Author.Tests.{eqb-true, eqb-false, eq-eqb, ne_eqb, leb-true, le-leb}
use Rattle.base_octets.specs.Choice.{pick, split, impossible, and_left, and_right, tests}
use Rattle.unit_tunnel.specs.Numbering.{last_use}
use Rattle.unit_session.specs.declared.OwnRequest.{OwnRequest}
use Rattle.unit_session.specs.declared.Session.{Session}
use Rattle.unit_session.specs.declared.Bounds.{Bounds}
use Rattle.unit_session.specs.OwnRequest.{idle, last_number}
use Rattle.unit_session.specs.Session.{free_ok, is_free, is_closing, is_due, blank, record_ok, held_ok, phase_ok, read_ok, imsis, blank_at}
use Rattle.unit_session.specs.Keep.{live_of}
use Rattle.unit_session.specs.Wide.{or_none, words}
use Rattle.step_keys.specs.Survey.{key_of, point_unit, weight_of, awaits_none}

-- the bits of a digest: the key has the low ones, the access point the top two
abbrev pub key_bit : ℕ
key_bit = 288230376151711744

abbrev pub due_bit : ℕ
due_bit = 576460752303423488

abbrev pub await_bit : ℕ
await_bit = 1152921504606846976

abbrev pub point_bit : ℕ
point_bit = 4611686018427387904

-- what of a request under way stands above its sends and its timer: the bits of its number past the range
abbrev pub past_range : ℕ
past_range = 36028797018963968

-- what is above the key: whether its request is due, whether it awaits a number, and the access point
unfoldable pub flags_of : Session → ℕ
flags_of s = pick {A = ℕ} (is_due s) due_bit 0 + pick {A = ℕ} (awaits_none s) 0 await_bit + s.point % 4 * point_bit

-- every bit
unfoldable pub spoilt : ℕ
spoilt = 18446744073709551615

unfoldable pub digest_of : Bounds → Session → ℕ
digest_of b s = pick {A = ℕ} (record_ok b s) (pick {A = ℕ} (is_free s) 0 (key_of s % key_bit + flags_of s)) spoilt

-- the two ways to it, by whether the record is free
unfoldable pub free_digest : Bool → ℕ
free_digest ok = pick {A = ℕ} ok 0 spoilt

unfoldable pub taken_digest : Bounds → Session → ℕ
taken_digest b s = pick {A = ℕ} (nat_le s.usage last_use && (held_ok b s && phase_ok b s)) (key_of s % key_bit + flags_of s) spoilt

pub digest_free : (b : Bounds) (s : Session) (ok : Bool) → ok ≡ free_ok s → is_free s ≡ true → free_digest ok ≡ digest_of b s
unfolding digest_of free_digest free_ok record_ok
digest_free b s ok e n = rw (e, n)

pub digest_taken : (b : Bounds) (s : Session) → is_free s ≡ false → taken_digest b s ≡ digest_of b s
unfolding digest_of taken_digest record_ok
digest_taken b s n = rw n

-- a place that was never taken
pub digest_blank : (b : Bounds) → 0 ≡ digest_of b (blank_at 0)
unfolding digest_of record_ok is_free blank blank_at last_use idle
digest_blank b = refl

-- a live record's request: none is under way
unfoldable pub rests_ok : OwnRequest → Bool
rests_ok r = nat_le r.number last_number && r.sends == 0 && r.timer == 0

-- the same as the test of one number: the bits of the number above its range, the sends and the timer
pub rests_bits : (r : OwnRequest) → (bit_or (bit_or (r.number / (last_number + 1) * past_range) (r.sends * 256)) r.timer == 0) ≡ rests_ok r
unfolding rests_ok last_number
rests_bits r = rw (or_none (bit_or (r.number / (last_number + 1) * past_range) (r.sends * 256)) r.timer, or_none (r.number / (last_number + 1) * past_range) (r.sends * 256), range, sends)
  where
    range : nat_eq (r.number / (last_number + 1) * past_range) 0 ≡ nat_le r.number last_number
    range = split (nat_le r.number last_number)
        (λ e. let h = leb-true r.number last_number e in rw e (eq-eqb (r.number / (last_number + 1) * past_range) 0 (omega arith)))
        (λ e. rw e (ne_eqb (r.number / (last_number + 1) * past_range) 0 (λ z. impossible (sym e ∙ le-leb r.number last_number (omega arith)))))

    sends : nat_eq (r.sends * 256) 0 ≡ (r.sends == 0)
    sends = split (r.sends == 0)
        (λ e. let h = eqb-true r.sends 0 e in rw e (eq-eqb (r.sends * 256) 0 (omega arith)))
        (λ e. let h = eqb-false r.sends 0 e in rw e (ne_eqb (r.sends * 256) 0 (λ z. h (omega arith))))

-- ---- what is read off a digest
abbrev pub key_in : ℕ → ℕ
key_in d = d % key_bit

abbrev pub point_in : ℕ → ℕ
point_in d = d / point_bit

unfoldable pub weight_in : ℕ → ℕ
weight_in d = pick {A = ℕ} (key_in d == 0) 0 (point_unit (point_in d))

-- a bit is not set, or the digest has no key: it is that of a free place
abbrev pub clear : ℕ → ℕ → Bool
clear bit d = d / bit % 2 == 0

unfoldable pub unset : ℕ → ℕ → Bool
unset bit d = pick (key_in d == 0) true (clear bit d)

-- no number is awaited
abbrev pub quiet_in : ℕ → Bool
quiet_in d = unset await_bit d

-- nothing is due
abbrev pub idle_in : ℕ → Bool
idle_in d = unset due_bit d

pub due_bits : (d : ℕ) → (not (key_in d == 0) && not (clear due_bit d)) ≡ not (idle_in d)
unfolding unset
due_bits d = split (key_in d == 0) (λ e. rw e) (λ e. rw e)

abbrev pub good_in : ℕ → Bool
good_in d = unset key_bit d

-- the place of a key's mark among 1,024
unfoldable pub mark_of : ℕ → ℕ
mark_of x = x % words * 1023530803 % words / 4194304

-- it is in the low 32 bits of the digest
pub mark_key : (d : ℕ) → mark_of (key_in d) ≡ mark_of d
unfolding mark_of
mark_key d = let e : key_in d % words ≡ d % words = omega arith in rw e

pub mark_small : (x : ℕ) → mark_of x < 1024
unfolding mark_of
mark_small x = omega arith

-- ---- of a good record
-- a session's key has 58 bits, and is not 0
pub key_range : (b : Bounds) (s : Session) → record_ok b s ≡ true → is_free s ≡ false → (key_of s < key_bit) × (1 ≤ key_of s)
unfolding key_of held_ok read_ok imsis
key_range b s e n =
    let h = (live_of b s e n).held in
    let i : nat_lt s.imsi 1000000000000000 ≡ true = search (and_left, and_right) depth 9 in
    let l : leb 5 s.ebi ≡ true = search (and_left, and_right) depth 9 in
    let m : leb s.ebi 15 ≡ true = search (and_left, and_right) depth 9 in
    (rw n (omega (arith, tests)), rw n (omega (arith, tests)))

pub point_range : (b : Bounds) (s : Session) → b.parties ≤ 4 → record_ok b s ≡ true → is_free s ≡ false → s.point < 4
unfolding held_ok read_ok
point_range b s f e n =
    let h = (live_of b s e n).held in
    let p : nat_lt s.point b.parties ≡ true = search (and_left, and_right) depth 9 in
    omega (arith, tests)

-- each flag is a bit of its own
flags_parts : (s : Session) → (flags_of s / key_bit % 2 ≡ 0) × ((flags_of s / due_bit % 2 ≡ pick {A = ℕ} (is_due s) 1 0)
    × ((flags_of s / await_bit % 2 ≡ pick {A = ℕ} (awaits_none s) 0 1) × ((flags_of s / point_bit ≡ s.point % 4) × (flags_of s % key_bit ≡ 0))))
unfolding flags_of
flags_parts s =
    split (is_due s)
    (λ d. split (awaits_none s) (λ q. rw (d, q) (omega arith, (omega arith, (omega arith, (omega arith, omega arith))))) (λ q. rw (d, q) (omega arith, (omega arith, (omega arith, (omega arith, omega arith))))))
    (λ d. split (awaits_none s) (λ q. rw (d, q) (omega arith, (omega arith, (omega arith, (omega arith, omega arith))))) (λ q. rw (d, q) (omega arith, (omega arith, (omega arith, (omega arith, omega arith))))))

free_silent : (b : Bounds) (s : Session) → record_ok b s ≡ true → is_free s ≡ true → awaits_none s ≡ true
unfolding record_ok blank awaits_none
free_silent b s e n =
    let f : (nat_le s.usage last_use && blank s) ≡ true = rw n at e in
    let g : blank s ≡ true = and_right (nat_le s.usage last_use) (blank s) f in
    search (and_left, and_right) depth 12

free_idle : (s : Session) → is_free s ≡ true → is_due s ≡ false
unfolding is_due is_closing is_free
free_idle s n = let z = eqb-true s.state 0 n in rw z

-- what the digest of a session is made of
module _ (b : Bounds) (s : Session) (ok : record_ok b s ≡ true) (taken : is_free s ≡ false) where
  pub digest_is : digest_of b s ≡ key_of s + flags_of s
  unfolding digest_of
  digest_is = let k = (key_range b s ok taken).0 in let m : key_of s % key_bit ≡ key_of s = omega arith in rw (ok, taken, m)

  key_part : key_in (digest_of b s) ≡ key_of s
  key_part = let d = digest_is in let k = (key_range b s ok taken).0 in let f = (flags_parts s).1.1.1.1 in omega arith

  point-part : b.parties ≤ 4 → point_in (digest_of b s) ≡ s.point
  point-part four = let d = digest_is in let k = (key_range b s ok taken).0 in let f = (flags_parts s).1.1.1.0 in let z = (flags_parts s).1.1.1.1 in let p = point_range b s four ok taken in omega arith

  silent-part : digest_of b s / await_bit % 2 ≡ pick {A = ℕ} (awaits_none s) 0 1
  silent-part = let d = digest_is in let k = (key_range b s ok taken).0 in let f = (flags_parts s).1.1.0 in let z = (flags_parts s).1.1.1.1 in omega arith

  due_part : digest_of b s / due_bit % 2 ≡ pick {A = ℕ} (is_due s) 1 0
  due_part = let d = digest_is in let k = (key_range b s ok taken).0 in let f = (flags_parts s).1.0 in let z = (flags_parts s).1.1.1.1 in omega arith

  good_part : digest_of b s / key_bit % 2 ≡ 0
  good_part = let d = digest_is in let k = (key_range b s ok taken).0 in let f = (flags_parts s).0 in let z = (flags_parts s).1.1.1.1 in omega arith

free_none : (b : Bounds) (s : Session) → record_ok b s ≡ true → is_free s ≡ true → digest_of b s ≡ 0
unfolding digest_of
free_none b s ok n = rw (ok, n)

free_key : (s : Session) → is_free s ≡ true → key_of s ≡ 0
unfolding key_of
free_key s n = rw n

module _ (b : Bounds) (s : Session) (ok : record_ok b s ≡ true) where
  pub key_in_lem : key_in (digest_of b s) ≡ key_of s
  key_in_lem = split (is_free s) (λ n. rw (free_none b s ok n, free_key s n)) (λ n. key_part b s ok n)

  -- a free record has 0, no other has
  pub free_in_lem : nat_eq (digest_of b s) 0 ≡ is_free s
  free_in_lem = split (is_free s) (λ n. rw (free_none b s ok n, n))
      (λ n. let k = (key_range b s ok n).1 in let d = digest_is b s ok n in rw n (ne_eqb (digest_of b s) 0 (λ z. omega arith)))

  -- a bit of a taken one
  bit_in : (bit : ℕ) → is_free s ≡ false → unset bit (digest_of b s) ≡ clear bit (digest_of b s)
  unfolding unset
  bit_in bit n = let k = (key_range b s ok n).1 in rw (key_part b s ok n, ne_eqb (key_of s) 0 (λ y. omega arith))

  none_in : (bit : ℕ) → is_free s ≡ true → unset bit (digest_of b s) ≡ true
  unfolding unset
  none_in bit n = rw (free_none b s ok n)

  pub quiet_in_lem : quiet_in (digest_of b s) ≡ awaits_none s
  quiet_in_lem = split (is_free s) (λ n. none_in await_bit n ∙ sym (free_silent b s ok n))
      (λ n. bit_in await_bit n ∙ rw (silent-part b s ok n) (split (awaits_none s) (λ e. rw e) (λ e. rw e)))

  pub idle_in_lem : idle_in (digest_of b s) ≡ not (is_due s)
  idle_in_lem = split (is_free s) (λ n. rw (none_in due_bit n, free_idle s n))
      (λ n. bit_in due_bit n ∙ rw (due_part b s ok n) (split (is_due s) (λ e. rw e) (λ e. rw e)))

  pub weight_in_lem : b.parties ≤ 4 → weight_in (digest_of b s) ≡ weight_of s
  unfolding weight_in weight_of
  weight_in_lem four = split (is_free s) (λ n. rw (free_none b s ok n, n))
      (λ n. let k = (key_range b s ok n).1 in
      let z : nat_eq (key_in (digest_of b s)) 0 ≡ false = rw (key_part b s ok n) (ne_eqb (key_of s) 0 (λ y. omega arith)) in
      rw (z, n) (ap point_unit (point-part b s ok n four)))

bad_spoilt : (b : Bounds) (s : Session) → record_ok b s ≡ false → digest_of b s ≡ spoilt
unfolding digest_of
bad_spoilt b s e = rw e

spoilt_bad : good_in spoilt ≡ false
unfolding spoilt unset
spoilt_bad = refl

pub good_in_lem : (b : Bounds) (s : Session) → good_in (digest_of b s) ≡ record_ok b s
good_in_lem b s = split (record_ok b s)
    (λ e. rw e (split (is_free s) (λ n. none_in b s e key_bit n)
    (λ n. bit_in b s e key_bit n ∙ eq-eqb (digest_of b s / key_bit % 2) 0 (good_part b s e n))))
    (λ e. rw (bad_spoilt b s e, e) spoilt_bad)
