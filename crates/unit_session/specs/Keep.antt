-- Each way of changing a record keeps the rules of one record, and what it does to the three weights that the table's rules add up:
-- being on an access point, having an IMSI and EBI, awaiting a number.
-- Assumes nothing.
use Rattle.std.specs.Prelude.{◌≡◌, ℕ, ◌-◌, ◌≤◌, Bool, true, false, ◌&&◌, ◌||◌, leb, ◌==◌, ◌≢◌, nat_eq, nat_le, nat_lt}
use Rattle.std.proofs.Math.Path.{refl}
use native.Mathlib.Omega.{arith}
use mir.Val.{bool_byte}
use borrow.Author.Tests.{eqb-true, eqb-false, ne_eqb, le-leb, leb-true}
use Rattle.base_octets.specs.Choice.{pick, split, and_left, and_right, tests}
use Rattle.unit_tunnel.specs.Numbering.{last_use}
use Rattle.unit_tunnel.specs.Tunnel.{next_use, next_range}
use Rattle.unit_session.specs.declared.Session.{Session}
use Rattle.unit_session.specs.declared.Bounds.{Bounds}
use Rattle.unit_session.specs.declared.Opening.{Opening}
use Rattle.unit_session.specs.declared.Peers.{Peers}
use Rattle.unit_session.specs.OwnRequest.{last_number, idle, request_ok, awaits, sent_once, counted_down, spent, request_idle, request_sent, request_down}
use Rattle.unit_session.specs.Session.{is_free, is_closing, has_id, is_on, waits_for, read_ok, blank, held_ok, phase_ok, record_ok, blank_at, freed, opened, moved, turned, closed, sent, ticked, is_due, imsis, last_created}

-- a Create that may be opened, as the record's rule will have it
unfoldable pub opening_ok : Bounds → Opening → Bool
opening_ok b o = read_ok b.parties o.point o.imsi o.ebi o.control o.user o.created

-- ---- the rules of a record that is free, and of one that is not
pub ok_usage : (b : Bounds) (s : Session) → record_ok b s ≡ true → s.usage ≤ last_use
unfolding record_ok
ok_usage b s e = leb-true s.usage last_use (and_left (nat_le s.usage last_use) (pick (is_free s) (blank s) (held_ok b s && phase_ok b s)) e)

pub ok_blank : (b : Bounds) (u : ℕ) → u ≤ last_use → record_ok b (blank_at u) ≡ true
unfolding record_ok blank_at is_free blank idle
ok_blank b u h = rw (le-leb u last_use h)

pub record Live (b : Bounds) (s : Session) : Type 0 where
  pub taken : is_free s ≡ false
  pub usage : s.usage ≤ last_use
  pub held : held_ok b s ≡ true
  pub phase : phase_ok b s ≡ true

pub live_of : (b : Bounds) (s : Session) → record_ok b s ≡ true → is_free s ≡ false → Live b s
unfolding record_ok
live_of b s e n =
    let f : (nat_le s.usage last_use && (held_ok b s && phase_ok b s)) ≡ true = rw n at e in
    let h : held_ok b s ≡ true = search (and_left, and_right) in
    let p : phase_ok b s ≡ true = search (and_left, and_right) in
    record { taken = n; usage = ok_usage b s e; held = h; phase = p }

pub live_to : (b : Bounds) (s : Session) → Live b s → record_ok b s ≡ true
unfolding record_ok
live_to b s v = rw (v.taken, le-leb s.usage last_use v.usage, v.held, v.phase)

-- the own request of a session is in range
pub own_ok : (b : Bounds) (s : Session) → record_ok b s ≡ true → is_free s ≡ false → request_ok 0 b.resend b.sends s.own ≡ true
unfolding phase_ok
own_ok b s e n =
    let p = (live_of b s e n).phase in
    and_left (request_ok 0 b.resend b.sends s.own) (is_closing s || s.state == 1 && s.own.sends == 0) p

-- nothing is under way at a free place
pub free_timer : (b : Bounds) (s : Session) → record_ok b s ≡ true → is_free s ≡ true → s.own.timer ≡ 0
unfolding record_ok blank
free_timer b s e n =
    let f : (nat_le s.usage last_use && blank s) ≡ true = rw n at e in
    let g : blank s ≡ true = and_right (nat_le s.usage last_use) (blank s) f in
    let t : nat_eq s.own.timer 0 ≡ true = search (and_left, and_right) depth 12 in
    eqb-true s.own.timer 0 t

-- what is not counted down stays as it is
pub ticked_still : (n : ℕ) (s : Session) → s.own.timer ≡ 0 → ticked n s ≡ s
unfolding ticked spent counted_down turned
ticked_still n s z =
    let a : nat_eq s.own.timer 1 ≡ false = ne_eqb s.own.timer 1 (λ q. omega arith) in
    let d : s.own.timer - 1 ≡ s.own.timer = omega arith in
    rw (a, d)

-- ---- each change
module _ (b : Bounds) (s : Session) (ok : record_ok b s ≡ true) where
  pub ok_freed : record_ok b (freed s) ≡ true
  unfolding freed
  ok_freed = ok_blank b s.usage (ok_usage b s ok)

  pub ok_opened : (o : Opening) → opening_ok b o ≡ true → record_ok b (opened o s) ≡ true
  unfolding opening_ok opened held_ok phase_ok is_free is_closing idle
  ok_opened o e = live_to b (opened o s) (record {
    taken = refl;
    usage = (next_range s.usage).1;
    held = rw (le-leb 1 (next_use s.usage) (next_range s.usage).0) e;
    phase = rw (request_idle 0 b.resend b.sends);
  })

  pub ok_moved : (p : Peers) → is_free s ≡ false → (p.control ≢ 0) → (p.user ≢ 0) → record_ok b (moved p s) ≡ true
  unfolding moved held_ok read_ok phase_ok is_free is_closing
  ok_moved p n hc hu =
      let v = live_of b s ok n in
      let h = v.held in
      let u : leb 1 s.usage ≡ true = search (and_left, and_right) depth 9 in
      let a : nat_lt s.point b.parties ≡ true = search (and_left, and_right) depth 9 in
      let i : nat_lt s.imsi imsis ≡ true = search (and_left, and_right) depth 9 in
      let l : leb 5 s.ebi ≡ true = search (and_left, and_right) depth 9 in
      let m : leb s.ebi 15 ≡ true = search (and_left, and_right) depth 9 in
      let c : leb s.created last_created ≡ true = search (and_left, and_right) depth 9 in
      live_to b (moved p s) (record {
        taken = n;
        usage = v.usage;
        held = rw (u, a, i, l, m, ne_eqb p.control 0 hc, ne_eqb p.user 0 hu, c);
        phase = v.phase;
      })

  pub ok_closed : record_ok b (closed s) ≡ true
  unfolding closed is_free is_closing turned held_ok phase_ok
  ok_closed = split (s.state == 1) (λ q. rw q (marked q)) (λ q. rw q ok)
    where
      marked : nat_eq s.state 1 ≡ true → record_ok b (turned 2 s.own s) ≡ true
      marked q =
          let n : nat_eq s.state 0 ≡ false = ne_eqb s.state 0 (λ x. omega (arith, tests)) in
          let v = live_of b s ok n in
          let r = own_ok b s ok n in
          live_to b (turned 2 s.own s) (record { taken = refl; usage = v.usage; held = v.held; phase = rw r })

  pub ok_sent : (k : ℕ) → 1 ≤ b.resend → 1 ≤ b.sends → b.sends ≤ 255 → k ≤ last_number → is_due s ≡ true → record_ok b (sent b.resend k s) ≡ true
  unfolding is_due is_free is_closing sent turned held_ok phase_ok
  ok_sent k ht hn hm hk d =
      let x : nat_eq s.state 2 ≡ true = search (and_left, and_right) in
      let z : nat_eq s.own.timer 0 ≡ true = search (and_left, and_right) in
      let n : nat_eq s.state 0 ≡ false = ne_eqb s.state 0 (λ q. omega (arith, tests)) in
      let v = live_of b s ok n in
      let r = own_ok b s ok n in
      live_to b (sent b.resend k s) (record {
        taken = n;
        usage = v.usage;
        held = v.held;
        phase = rw (request_sent 0 b.resend b.sends k s.own ht hn hm hk (eqb-true s.own.timer 0 z) r, x);
      })

  pub ok_ticked : record_ok b (ticked b.sends s) ≡ true
  unfolding ticked is_free is_closing turned held_ok phase_ok counted_down
  ok_ticked = split (s.own.timer == 0)
      (λ z. rw (ticked_still b.sends s (eqb-true s.own.timer 0 z)) ok)
      (λ z. split (is_free s)
      (λ n. absurd (eqb-false s.own.timer 0 z (free_timer b s ok n)))
      (λ n. down n))
    where
      down : is_free s ≡ false → record_ok b (ticked b.sends s) ≡ true
      down n =
          let v = live_of b s ok n in
          let p = v.phase in
          let r = own_ok b s ok n in
          let g : (s.state == 2 || s.state == 1 && s.own.sends == 0) ≡ true = search (and_left, and_right) in
          split (spent b.sends s.own)
          (λ x. rw x ok_freed)
          (λ x. rw x (live_to b (turned s.state (counted_down s.own) s) (record {
            taken = n;
            usage = v.usage;
            held = v.held;
            phase = rw (request_down 0 b.resend b.sends s.own x r, g);
          })))

-- ---- the three weights
-- a record that weighs no more than another: whatever the access point, the IMSI and EBI, the number
pub record Lighter (s d : Session) : Type 0 where
  pub ons : (a : ℕ) → bool_byte (is_on a s) ≤ bool_byte (is_on a d)
  pub ids : (imsi ebi : ℕ) → bool_byte (has_id imsi ebi s) ≤ bool_byte (has_id imsi ebi d)
  pub waits : (k : ℕ) → bool_byte (waits_for k s) ≤ bool_byte (waits_for k d)

module _ (s : Session) where
  pub lighter_same : Lighter s s
  lighter_same = record { ons = λ a. omega arith; ids = λ i e. omega arith; waits = λ k. omega arith }

  pub lighter_freed : Lighter (freed s) s
  unfolding freed blank_at is_on has_id waits_for is_free awaits idle
  lighter_freed = record { ons = λ a. omega arith; ids = λ i e. omega arith; waits = λ k. omega arith }

  pub lighter_moved : (p : Peers) → Lighter (moved p s) s
  unfolding moved is_on has_id waits_for is_free
  lighter_moved p = record { ons = λ a. omega arith; ids = λ i e. omega arith; waits = λ k. omega arith }

  pub lighter_closed : Lighter (closed s) s
  unfolding closed turned is_on has_id waits_for is_free
  lighter_closed =
      split (s.state == 1)
      (λ q. let n : nat_eq s.state 0 ≡ false = ne_eqb s.state 0 (λ x. omega (arith, tests)) in
      rw q (record { ons = λ a. rw n (omega arith); ids = λ i e. rw n (omega arith); waits = λ k. omega arith }))
      (λ q. rw q lighter_same)

  pub lighter_ticked : (n : ℕ) → Lighter (ticked n s) s
  unfolding ticked turned is_on has_id waits_for is_free awaits counted_down
  lighter_ticked n =
      split (spent n s.own)
      (λ q. rw q lighter_freed)
      (λ q. rw q (record { ons = λ a. omega arith; ids = λ i e. omega arith; waits = λ k. omega arith }))

-- a session that is opened is on its access point alone, has its IMSI and EBI alone, and awaits nothing
module _ (o : Opening) (s : Session) where
  pub opened_on : (a : ℕ) → is_on a (opened o s) ≡ (o.point == a)
  unfolding opened is_on is_free
  opened_on a = refl

  pub opened_id : (imsi ebi : ℕ) → has_id imsi ebi (opened o s) ≡ (o.imsi == imsi && o.ebi == ebi)
  unfolding opened has_id is_free
  opened_id imsi ebi = refl

  pub opened_waits : (k : ℕ) → waits_for k (opened o s) ≡ false
  unfolding opened waits_for awaits idle
  opened_waits k = refl

-- sending changes neither the access point nor the IMSI and EBI
module _ (t k : ℕ) (s : Session) where
  pub sent_on : (a : ℕ) → is_on a (sent t k s) ≡ is_on a s
  unfolding sent turned is_on is_free
  sent_on a = refl

  pub sent_waits : (j : ℕ) → waits_for j (sent t k s) ≡ awaits j (sent_once t k s.own)
  unfolding sent turned waits_for
  sent_waits j = refl

  pub sent_id : (imsi ebi : ℕ) → has_id imsi ebi (sent t k s) ≡ has_id imsi ebi s
  unfolding sent turned has_id is_free
  sent_id imsi ebi = refl
