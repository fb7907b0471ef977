-- A request of the unit's own under way: the Delete Bearer of a closing place, or the echo. It is sent, counted down by ticks,
-- sent again, and given up. One definition serves the places and the echo; they differ in how long the first send is waited for:
-- a place sends at once, the echo after E ticks.
-- Assumes nothing.
use Rattle.std.specs.Prelude.{◌≡◌, ℕ, ◌+◌, ◌-◌, ◌%◌, ◌<◌, ◌≤◌, Bool, true, false, not, ◌&&◌, leb, ◌==◌, ◌≢◌, nat_eq, nat_le, refl}
use Rattle.std.proofs.Common.{sym, arith}
use borrow.Author.Tests.{eqb-true, eqb-false, eq-eqb, ne_eqb, le-leb}
use Rattle.base_octets.specs.Choice.{pick, split, and_left, and_right, tests, impossible}
use Rattle.unit_session.specs.declared.OwnRequest.{OwnRequest}

-- own sequence numbers count 0 to 8,388,607 and round
unfoldable pub last_number : ℕ
last_number = 8388607

-- nothing sent, nothing waited for
unfoldable pub idle : OwnRequest
idle = record { timer = 0; sends = 0; number = 0 }

-- in range: before the first send the timer is at most `first`; after it at most T, and with N sends it is over 0
unfoldable pub request_ok : ℕ → ℕ → ℕ → OwnRequest → Bool
request_ok first t n r =
    nat_le r.number last_number
    && pick (r.sends == 0) (nat_le r.timer first)
    (nat_le r.timer t && nat_le r.sends n && not (r.sends == n && r.timer == 0))

-- its number is awaited: it was sent, and neither answered nor given up
unfoldable pub awaits : ℕ → OwnRequest → Bool
awaits k r = not (r.sends == 0) && r.number == k

-- sent: the timer is set to T; the first send takes the number k, a resend keeps its own
unfoldable pub sent_once : ℕ → ℕ → OwnRequest → OwnRequest
sent_once t k r = record { timer = t; sends = (r.sends + 1) % 256; number = pick {A = ℕ} (r.sends == 0) k r.number }

-- a tick: counted down; at zero it is due, and due things are not counted
unfoldable pub counted_down : OwnRequest → OwnRequest
counted_down r = record { timer = r.timer - 1; sends = r.sends; number = r.number }

-- this tick is the last after N sends: it gives the request up
unfoldable pub spent : ℕ → OwnRequest → Bool
spent n r = r.timer == 1 && nat_le n r.sends

-- ---- the range as facts on numbers
pub record InRange (first t n : ℕ) (r : OwnRequest) : Type 0 where
  pub known : r.number ≤ last_number
  pub before : r.sends ≡ 0 → r.timer ≤ first
  pub timed : 0 < r.sends → r.timer ≤ t
  pub most : 0 < r.sends → r.sends ≤ n
  pub full : 0 < r.sends → r.sends ≡ n → 0 < r.timer

pub range_of : (first t n : ℕ) (r : OwnRequest) → request_ok first t n r ≡ true → InRange first t n r
unfolding request_ok
range_of first t n r e = split (r.sends == 0) none some
  where
    none : nat_eq r.sends 0 ≡ true → InRange first t n r
    none z =
        let f : (nat_le r.number last_number && nat_le r.timer first) ≡ true = rw z at e in
        let a : leb r.number last_number ≡ true = search (and_left, and_right) in
        let b : leb r.timer first ≡ true = search (and_left, and_right) in
        let s = eqb-true r.sends 0 z in
        record {
          known = omega (arith, tests);
          before = λ h. omega (arith, tests);
          timed = λ h. absurd (omega arith);
          most = λ h. absurd (omega arith);
          full = λ h. absurd (omega arith);
        }

    some : nat_eq r.sends 0 ≡ false → InRange first t n r
    some z =
        let f : (nat_le r.number last_number && (nat_le r.timer t && nat_le r.sends n && not (r.sends == n && r.timer == 0))) ≡ true = rw z at e in
        let a : leb r.number last_number ≡ true = search (and_left, and_right) in
        let b : leb r.timer t ≡ true = search (and_left, and_right) in
        let d : leb r.sends n ≡ true = search (and_left, and_right) in
        let g : not (r.sends == n && r.timer == 0) ≡ true = search (and_left, and_right) in
        let s = eqb-false r.sends 0 z in
        record {
          known = omega (arith, tests);
          before = λ h. absurd (s h);
          timed = λ h. omega (arith, tests);
          most = λ h. omega (arith, tests);
          full = λ h q. split (r.timer == 0)
              (λ y. impossible (rw (eq-eqb r.sends n q, y) at g))
              (λ y. omega (arith, tests));
        }

pub range_to : (first t n : ℕ) (r : OwnRequest) → InRange first t n r → request_ok first t n r ≡ true
unfolding request_ok
range_to first t n r i =
    rw (le-leb r.number last_number i.known)
    (split (r.sends == 0)
    (λ z. rw z (le-leb r.timer first (i.before (eqb-true r.sends 0 z))))
    (λ z. let p : 0 < r.sends = omega (arith, tests) in
    rw (z, le-leb r.timer t (i.timed p), le-leb r.sends n (i.most p)) (last p)))
  where
    last : 0 < r.sends → not (r.sends == n && r.timer == 0) ≡ true
    last p =
        split (r.sends == n)
        (λ q. let f = i.full p (eqb-true r.sends n q) in rw (q, ne_eqb r.timer 0 (λ y. omega arith)))
        (λ q. rw q)

-- ---- what sending and ticking make of it
module _ (first t n : ℕ) where
  pub request_idle : request_ok first t n idle ≡ true
  unfolding idle
  request_idle = range_to first t n idle (record { known = omega arith; before = λ h. omega arith; timed = λ h. omega arith; most = λ h. absurd (omega arith); full = λ h. absurd (omega arith) })

  -- what is due is sent: T to wait, one send more, and still in range
  pub request_sent : (k : ℕ) (r : OwnRequest) → 1 ≤ t → 1 ≤ n → n ≤ 255 → k ≤ last_number → r.timer ≡ 0 → request_ok first t n r ≡ true → request_ok first t n (sent_once t k r) ≡ true
  unfolding sent_once
  request_sent k r ht hn hm hk z e =
      let i = range_of first t n r e in
      let a = i.known in
      let room : r.sends < n = split (r.sends == 0) (λ q. omega (arith, tests))
      (λ q. let p : 0 < r.sends = omega (arith, tests) in let m = i.most p in
      split (r.sends == n) (λ y. let f = i.full p (eqb-true r.sends n y) in absurd (omega arith)) (λ y. omega (arith, tests))) in
      range_to first t n (sent_once t k r) (record {
        known = split (r.sends == 0) (λ q. rw q hk) (λ q. rw q a);
        before = λ h. absurd (omega arith);
        timed = λ h. omega arith;
        most = λ h. omega arith;
        full = λ h q. ht;
      })

  pub request_down : (r : OwnRequest) → spent n r ≡ false → request_ok first t n r ≡ true → request_ok first t n (counted_down r) ≡ true
  unfolding counted_down spent
  request_down r s e =
      let i = range_of first t n r e in
      range_to first t n (counted_down r) (record {
        known = i.known;
        before = λ h. let b = i.before h in omega arith;
        timed = λ h. let b = i.timed h in omega arith;
        most = i.most;
        full = λ h q. let f = i.full h q in
            split (r.timer == 1)
            (λ y. impossible (sym (rw (y, le-leb n r.sends (omega arith)) at s)))
            (λ y. omega (arith, tests));
      })

-- ---- the number that is awaited
pub awaits_down : (k : ℕ) (r : OwnRequest) → awaits k (counted_down r) ≡ awaits k r
unfolding awaits counted_down
awaits_down k r = refl

-- the first send waits for the new number and no other; a resend for its own as before
pub awaits-first : (t k j : ℕ) (r : OwnRequest) → r.sends ≡ 0 → awaits j (sent_once t k r) ≡ (k == j)
unfolding awaits sent_once
awaits-first t k j r z = rw (z)

pub awaits_again : (t k j : ℕ) (r : OwnRequest) → (r.sends ≢ 0) → r.sends < 255 → awaits j (sent_once t k r) ≡ awaits j r
unfolding awaits sent_once
awaits_again t k j r z h = rw (ne_eqb r.sends 0 z, ne_eqb ((r.sends + 1) % 256) 0 (λ q. omega arith))
