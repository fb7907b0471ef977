-- That what specs/Resends.antt says holds, and what that rests on.
-- Assumes nothing.
use Rattle.std.specs.Prelude.{ℕ, ◌+◌, ◌*◌, ◌<◌, ◌≤◌, Bool, true, false, not, ◌&&◌, ◌||◌, ◌≡◌, refl, length, eqb}
use mathlib.Core.List.{List, [], ◌∷◌}
use Rattle.std.proofs.Common.{sym, ◌∙◌, ap}
use native.Mathlib.Omega.{arith}
use Rattle.std.proofs.Math.Dec.{leb}
use borrow.Author.Tests.{eqb-true, eqb-false, ne_eqb, eq-eqb, lt-ltb, le-ltb, leb-true}
use mir.Val.{bool_byte}
use Rattle.base_octets.specs.Choice.{split, impossible, and_left, and_right, tests}
use Rattle.base_octets.specs.Every.{every}
use Rattle.base_octets.specs.Sums.{sum_of}
use Rattle.unit_tunnel.specs.Numbering.{places}
use Rattle.unit_plan.specs.declared.Plan.{Plan}
use Rattle.unit_plan.specs.Plan.{accepted}
use Rattle.unit_session.specs.declared.Session.{Session}
use Rattle.unit_session.specs.OwnRequest.{spent}
use Rattle.unit_session.specs.Session.{is_free, is_due, closed, sent, ticked, turned}
use Rattle.unit_table.specs.Change.{nobody, changed_here}
use Rattle.unit_table.specs.Own.{due_place}
use Rattle.unit_table.specs.Number.{taken_number}
use Rattle.call_own.specs.Outcome.{least_reply}
use Rattle.call_own.specs.Calls.{place_sent, due_sent, send_of}
use Rattle.call_store.specs.Stored.{State}
use Rattle.call_store.specs.Laws.{send_sound}
use Rattle.promise_demands.specs.Run.{left, Event, tick, close, step, run, of_octets, Start}
use Rattle.promise_demands.proofs.Run.{start_accepted, kept_table, kept_store, send_is}
use Rattle.promise_demands.proofs.Stays.{step_start, run_start}
use Rattle.promise_demands.specs.Bounds.{at}
use Rattle.promise_demands.proofs.Ticks.{place-ticked}
use Rattle.promise_demands.specs.Place.{gone}
use Rattle.promise_demands.specs.InTime.{is_tick, ticks_in, prompt, ever_gone}
use Rattle.promise_demands.proofs.InTime.{in_range, closing_taken, step_spends, use_is, closes, live-idle, closed_now, rules, there}
use Rattle.promise_demands.specs.Resends.{Sends, Resends, ResendsWhole}

-- ---- proofs
pub or_no : (a b : Bool) → (a || b) ≡ false → (a ≡ false) × (b ≡ false)
or_no true b e = impossible (sym e)
or_no false b e = (refl, e)

module _ (p : Plan) (i : ℕ) (h : i < places) (a : accepted p ≡ true) (usage : ℕ) where
  -- what holds of the place from call to call
  record There (m : ℕ) (s : State) : Type 0 where
    good : Start p s
    closing : (at s i).state ≡ 2
    same_use : (at s i).usage ≡ usage
    spaced : (at s i).own.sends * p.resend ≡ m + (at s i).own.timer

  there_step : (m : ℕ) (e : Event) (s : State) → of_octets e ≡ true → not (is_tick e && is_due (at s i)) ≡ true → gone usage (at (step e s) i) ≡ false → There m s
      → There (m + bool_byte (is_tick e)) (step e s)
  there_step m e s o n f t =
      let k = step_spends p i h e s t.good a t.closing n (rw t.same_use f) in
      let l = k.spends in
      let q = t.spaced in
      record {
        good = step_start p e s o t.good;
        closing = k.closing;
        same_use = use_is p i h usage (at (step e s) i) f;
        spaced = omega arith;
      }

  there_run : (m : ℕ) (es : List Event) (s : State) → every of_octets es ≡ true → prompt i es s ≡ true → ever_gone i usage es s ≡ false → There m s
      → There (m + ticks_in es) (run es s)
  unfolding run prompt ever_gone ticks_in sum_of every
  there_run m [] s o f g t = rw (add_none m) t
    where
      add_none : (m : ℕ) → m + 0 ≡ m
      add_none m = omega arith
  there_run m (e ∷ es) s o f g t =
      let x = or_no (gone usage (at s i)) (ever_gone i usage es (step e s)) g in
      rw (← more)
      (there_run (m + bool_byte (is_tick e)) es (step e s) (and_right (of_octets e) (every of_octets es) o) (and_right (not (is_tick e && is_due (at s i))) (prompt i es (step e s)) f) x.1
      (there_step m e s (and_left (of_octets e) (every of_octets es) o) (and_left (not (is_tick e && is_due (at s i))) (prompt i es (step e s)) f) (still es (step e s) x.1) t))
    where
      more : m + bool_byte (is_tick e) + ticks_in es ≡ m + (bool_byte (is_tick e) + ticks_in es)
      more = omega arith

      still : (es : List Event) (s : State) → ever_gone i usage es s ≡ false → gone usage (at s i) ≡ false
      still [] s g = g
      still (e ∷ es) s g = (or_no (gone usage (at s i)) (ever_gone i usage es (step e s)) g).0

  module _ (later : List Event) (s : State) (t : There (ticks_in later) s) where
    taken : is_free (at s i) ≡ false
    taken = closing_taken p i h (at s i) t.closing

    last : is_due (at s i) ≡ false → spent p.sends s.node.echo ≡ false → gone usage (at (step tick s) i) ≡ true → ticks_in later + 1 ≡ p.sends * p.resend
    unfolding ticked turned spent gone is_free places
    last d q g = split (eqb (at s i).own.timer 1 && leb p.sends (at s i).own.sends) yes no
      where
        e : at (step tick s) i ≡ ticked p.sends (at s i)
        e = place-ticked p s t.good.rules t.good.plan (rules p i h s t.good).size i h q

        yes : (eqb (at s i).own.timer 1 && leb p.sends (at s i).own.sends) ≡ true → ticks_in later + 1 ≡ p.sends * p.resend
        yes z =
            let one = eqb-true (at s i).own.timer 1 (and_left (eqb (at s i).own.timer 1) (leb p.sends (at s i).own.sends) z) in
            let n = leb-true p.sends (at s i).own.sends (and_right (eqb (at s i).own.timer 1) (leb p.sends (at s i).own.sends) z) in
            let r = in_range p i h s t.good i taken in
            let m = split (eqb (at s i).own.sends 0) (λ x. let y = eqb-true (at s i).own.sends 0 x in most-none y) (λ x. let y = eqb-false (at s i).own.sends 0 x in r.most (omega arith)) in
            let same : (at s i).own.sends ≡ p.sends = omega arith in
            let l = t.spaced in
            rw (← same) (omega arith)
          where
            most-none : (at s i).own.sends ≡ 0 → (at s i).own.sends ≤ p.sends
            most-none y = omega arith

        no : (eqb (at s i).own.timer 1 && leb p.sends (at s i).own.sends) ≡ false → ticks_in later + 1 ≡ p.sends * p.resend
        no z =
            let w = rw (e, z, t.same_use, ne_eqb (at s i).state 0 (λ x. let c = t.closing in omega arith), eq-eqb usage usage refl) at g in
            impossible w

    number : (e : Event) → of_octets e ≡ true → not (is_tick e && is_due (at s i)) ≡ true → gone usage (at (step e s) i) ≡ false
        → 1 ≤ (at s i).own.sends → (at (step e s) i).own.number ≡ (at s i).own.number
    number e o n f m = (step_spends p i h e s t.good a t.closing n (rw t.same_use f)).number m

    octets : (reply : List ℕ) → least_reply ≤ length reply → (s.node.echo.timer ≡ 0 → ⊥) → due_place s.table ≡ i → Sends i s reply
    unfolding Sends send_of due_sent place_sent left least_reply sent turned
    octets reply room n e =
        let k = taken_number s.node.next s.node.echo s.table in
        rw (send_sound s.node s.table s.store (kept_store s t.good.rules) reply, send_is s t.good.rules reply, le-ltb (length reply) least_reply room, kept_table s t.good.rules, ne_eqb s.node.echo.timer 0 n, e, lt-ltb i (length s.table) (there p i h s t.good), changed_here (sent s.node.plan.resend k) i s.table nobody (there p i h s t.good))
        (refl, refl)

    resends : Resends p i usage later s
    resends = record {
      spaced = t.spaced;
      waits = split (eqb (at s i).own.sends 0) (λ x. let b = (in_range p i h s t.good i taken).before (eqb-true (at s i).own.sends 0 x) in omega arith) (λ x. let y = eqb-false (at s i).own.sends 0 x in (in_range p i h s t.good i taken).timed (omega arith));
      most = split (eqb (at s i).own.sends 0) (λ x. omega (arith, tests)) (λ x. let y = eqb-false (at s i).own.sends 0 x in (in_range p i h s t.good i taken).most (omega arith));
      last = last;
      number = number;
      octets = octets;
    }

-- closed where it is live: nothing has been sent
closed_there : (p : Plan) (i : ℕ) (h : i < places) (a : accepted p ≡ true) (s : State) → Start p s → (at s i).state ≡ 1
    → There p i h a (at s i).usage 0 (step (close i) s)
unfolding of_octets closed turned
closed_there p i h a s g c =
    let n = closed_now (at s i) c in
    let q = live-idle p i h s g c in
    record {
      good = step_start p (close i) s refl g;
      closing = ap (λ (x : Session). x.state) e ∙ n.0;
      same_use = rw (e, eq-eqb (at s i).state 1 c);
      spaced = rw (e, n.1, q.0, q.1) (omega arith);
    }
  where
    e : at (step (close i) s) i ≡ closed (at s i)
    e = closes p i h s g c

pub resends_whole : ResendsWhole
unfolding ResendsWhole
resends_whole p s es r i h c later o f g =
    resends p i h a usage later (run later then) (rw none at (there_run p i h a usage 0 later then o f g (closed_there p i h a (run es s) (run_start p s es r) c)))
  where
    none : 0 + ticks_in later ≡ ticks_in later
    none = omega arith

    a : accepted p ≡ true
    a = start_accepted p s r.start

    then : State
    then = step (close i) (run es s)

    usage : ℕ
    usage = (at (run es s) i).usage
