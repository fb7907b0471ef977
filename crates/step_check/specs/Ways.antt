-- The digest of a record that is taken, by the tests that make it, in their order.
-- Assumes nothing.
use Rattle.std.specs.Prelude.{◌≡◌, ℕ, ◌+◌, ◌*◌, ◌/◌, ◌%◌, ◌<◌, Bool, true, false, not, ◌&&◌, leb, ◌==◌, ◌≢◌, bit_or, nat_eq, nat_le, nat_lt}
use Rattle.std.proofs.Math.Path.{refl, sym}
use Rattle.std.proofs.Common.{◌∙◌, arith}
use borrow.Author.Tests.{eqb-true, eqb-false, eq-eqb, ne_eqb, leb-true, not-true, not-false}
use Rattle.base_octets.specs.Choice.{pick, split, impossible, and_left, and_right, tests}
use Rattle.unit_tunnel.specs.Numbering.{last_use}
use Rattle.unit_session.specs.declared.OwnRequest.{OwnRequest}
use Rattle.unit_session.specs.declared.Session.{Session}
use Rattle.unit_session.specs.declared.Bounds.{Bounds}
use Rattle.unit_session.specs.OwnRequest.{last_number, request_ok}
use Rattle.unit_session.specs.Session.{is_free, is_closing, is_due, held_ok, phase_ok, read_ok, imsis}
use Rattle.unit_session.specs.Phase.{live_phase, other_phase}
use Rattle.unit_session.specs.Wide.{long_words}
use Rattle.step_keys.specs.Survey.{key_of, awaits_none}
use Rattle.step_check.specs.Digest.{flags_of, spoilt, taken_digest, rests_ok, rests_bits, key_bit, due_bit, await_bit, point_bit, past_range}

-- ---- a record that is taken
-- what a session holds has a key of 58 bits
held_key : (b : Bounds) (s : Session) → held_ok b s ≡ true → key_of s < key_bit
unfolding key_of held_ok read_ok imsis
held_key b s h =
    let i : nat_lt s.imsi 1000000000000000 ≡ true = search (and_left, and_right) depth 9 in
    let m : leb s.ebi 15 ≡ true = search (and_left, and_right) depth 9 in
    split (is_free s) (λ n. rw n (omega arith)) (λ n. rw n (omega (arith, tests)))

-- a request with which nothing is under way, and one with which something is
rests_off : (r : OwnRequest) → rests_ok r ≡ true → ((r.sends == 0) ≡ true) × ((r.timer == 0) ≡ true)
unfolding rests_ok
rests_off r e =
    let s : nat_eq r.sends 0 ≡ true = search (and_left, and_right) in
    let t : nat_eq r.timer 0 ≡ true = search (and_left, and_right) in
    (s, t)

rests_fit : (r : OwnRequest) (resend most : ℕ) → rests_ok r ≡ true → request_ok 0 resend most r ≡ true
unfolding rests_ok request_ok
rests_fit r resend most e =
    let n : leb r.number last_number ≡ true = search (and_left, and_right) in
    let t = eqb-true r.timer 0 (rests_off r e).1 in
    rw (n, (rests_off r e).0, t)

rests_on : (r : OwnRequest) (resend most : ℕ) → rests_ok r ≡ false → request_ok 0 resend most r ≡ true → (r.sends == 0) ≡ false
unfolding rests_ok request_ok
rests_on r resend most e f = split (r.sends == 0)
    (λ z. impossible (sym e ∙ still z))
    (λ z. z)
  where
    still : nat_eq r.sends 0 ≡ true → (nat_le r.number last_number && r.sends == 0 && r.timer == 0) ≡ true
    still z =
        let g = rw z at f in
        let n : leb r.number last_number ≡ true = and_left (nat_le r.number last_number) (nat_le r.timer 0) g in
        let t = leb-true r.timer 0 (and_right (nat_le r.number last_number) (nat_le r.timer 0) g) in
        rw (n, z, eq-eqb r.timer 0 (omega arith))

-- whether a request is due
due_yes : (s : Session) → s.state ≡ 2 → (s.own.timer == 0) ≡ true → is_due s ≡ true
unfolding is_due is_closing
due_yes s h t = rw (eq-eqb s.state 2 h, t)

due_live : (s : Session) → s.state ≡ 1 → is_due s ≡ false
unfolding is_due is_closing
due_live s h = rw (ne_eqb s.state 2 (λ z. omega arith))

due_later : (s : Session) → s.state ≡ 2 → (s.own.timer ≢ 0) → is_due s ≡ false
unfolding is_due is_closing
due_later s h t = rw (eq-eqb s.state 2 h, ne_eqb s.own.timer 0 t)

module _ (b : Bounds) (s : Session) (held : Bool) (is : held ≡ held_ok b s) where
  pub taken_unheld : not (nat_le s.usage last_use && held) ≡ true → spoilt ≡ taken_digest b s
  unfolding taken_digest
  taken_unheld e = rw (← is) (first (nat_le s.usage last_use) held (not-true (nat_le s.usage last_use && held) e))
    where
      first : (a h : Bool) → (a && h) ≡ false → spoilt ≡ pick {A = ℕ} (a && (h && phase_ok b s)) (key_of s % key_bit + flags_of s) spoilt
      first true h f = rw f
      first false h f = refl

  module _ (on : not (nat_le s.usage last_use && held) ≡ false) where
    phased : taken_digest b s ≡ pick {A = ℕ} (phase_ok b s) (key_of s % key_bit + flags_of s) spoilt
    unfolding taken_digest
    phased = rw (← is) (first (nat_le s.usage last_use) held (not-false (nat_le s.usage last_use && held) on))
      where
        first : (a h : Bool) → (a && h) ≡ true
            → pick {A = ℕ} (a && (h && phase_ok b s)) (key_of s % key_bit + flags_of s) spoilt ≡ pick {A = ℕ} (phase_ok b s) (key_of s % key_bit + flags_of s) spoilt
        first true true f = refl
        first true false f = impossible f
        first false h f = impossible f

    small : key_of s < key_bit
    small = held_key b s (sym is ∙ and_right (nat_le s.usage last_use) held (not-false (nat_le s.usage last_use && held) on))

    -- key and access point
    abbrev quiet : ℕ
    quiet = (key_of s + s.point % 4 * point_bit) % long_words

    -- nothing is under way
    module _ (rests : rests_ok s.own ≡ true) where
      still : awaits_none s ≡ true
      unfolding awaits_none
      still = (rests_off s.own rests).0

      pub taken_live : s.state ≡ 1 → quiet ≡ taken_digest b s
      unfolding flags_of rests_ok
      taken_live h =
          let k = small in
          let p : phase_ok b s ≡ true = live_phase b s h ∙ rests in
          rw (phased, p, still, due_live s h) (omega arith)

      pub taken_due : (s.state ≢ 1) → s.state ≡ 2 → (quiet + due_bit) % long_words ≡ taken_digest b s
      unfolding flags_of is_closing
      taken_due n h =
          let k = small in
          let p : phase_ok b s ≡ true = other_phase b s n ∙ rw (rests_fit s.own b.resend b.sends rests) (eq-eqb s.state 2 h) in
          rw (phased, p, still, due_yes s h (rests_off s.own rests).1) (omega arith)

    -- neither live nor closing
    pub taken_odd : (s.state ≢ 1) → (s.state ≢ 2) → spoilt ≡ taken_digest b s
    unfolding is_closing
    taken_odd n m = let p : phase_ok b s ≡ false = other_phase b s n ∙ rw (ne_eqb s.state 2 m) (shut (request_ok 0 b.resend b.sends s.own)) in rw (phased, p)
      where
        shut : (a : Bool) → (a && false) ≡ false
        shut true = refl
        shut false = refl

    -- something is under way: of a closing place, and as it may be
    module _ (busy : rests_ok s.own ≡ false) where
      abbrev fit : Bool
      fit = request_ok 0 b.resend b.sends s.own && s.state == 2

      phase_fit : phase_ok b s ≡ fit
      unfolding is_closing rests_ok
      phase_fit = split (s.state == 1)
          (λ h. let e = eqb-true s.state 1 h in
          live_phase b s e ∙ busy ∙ sym (rw e (shut (request_ok 0 b.resend b.sends s.own))))
          (λ h. other_phase b s (eqb-false s.state 1 h))
        where
          shut : (a : Bool) → (a && false) ≡ false
          shut true = refl
          shut false = refl

      pub taken-unfit : not fit ≡ true → spoilt ≡ taken_digest b s
      taken-unfit e = rw (phased, phase_fit, not-true fit e)

      module _ (fits : not fit ≡ false) where
        closing : s.state ≡ 2
        closing = eqb-true s.state 2 (and_right (request_ok 0 b.resend b.sends s.own) (s.state == 2) (not-false fit fits))

        loud : awaits_none s ≡ false
        unfolding awaits_none
        loud = rests_on s.own b.resend b.sends busy (and_left (request_ok 0 b.resend b.sends s.own) (s.state == 2) (not-false fit fits))

        pub taken_again : s.own.timer ≡ 0 → (quiet + (due_bit + await_bit)) % long_words ≡ taken_digest b s
        unfolding flags_of
        taken_again h = let k = small in rw (phased, phase_fit, not-false fit fits, loud, due_yes s closing (eq-eqb s.own.timer 0 h)) (omega arith)

        pub taken_waits : (s.own.timer ≢ 0) → (quiet + await_bit) % long_words ≡ taken_digest b s
        unfolding flags_of
        taken_waits h = let k = small in rw (phased, phase_fit, not-false fit fits, loud, due_later s closing h) (omega arith)

-- what is under way, as one number
pub rests_yes : (r : OwnRequest) → bit_or (bit_or (r.number / (last_number + 1) * past_range) (r.sends * 256)) r.timer ≡ 0 → rests_ok r ≡ true
rests_yes r e = sym (rests_bits r) ∙ eq-eqb (bit_or (bit_or (r.number / (last_number + 1) * past_range) (r.sends * 256)) r.timer) 0 e

pub rests_no : (r : OwnRequest) → (bit_or (bit_or (r.number / (last_number + 1) * past_range) (r.sends * 256)) r.timer ≢ 0) → rests_ok r ≡ false
rests_no r e = sym (rests_bits r) ∙ ne_eqb (bit_or (bit_or (r.number / (last_number + 1) * past_range) (r.sends * 256)) r.timer) 0 e
