-- That what specs/InTime.antt says holds, and what that rests on.
-- Assumes nothing.
use Rattle.std.specs.Prelude.{ℕ, ◌+◌, ◌-◌, ◌*◌, ◌%◌, ◌<◌, ◌≤◌, not, ◌&&◌, ◌≡◌, refl, length, get_or, ltb}
use Rattle.std.proofs.Math.Bool.{true, false}
use mathlib.Core.List.{List, [], ◌∷◌}
use Rattle.std.proofs.Common.{sym, ◌∙◌, ap, mul-le-mul_right}
use native.Mathlib.Omega.{arith}
use Rattle.std.proofs.Math.Dec.{eqb}
use borrow.Author.Tests.{eqb-true, eqb-false, eq-eqb, ne_eqb, ltb-true, not-true}
use mir.Val.{bool_byte}
use Rattle.base_octets.specs.Choice.{split, impossible, and_left, and_right, or_true, tests}
use Rattle.base_octets.specs.Every.{every}
use Rattle.base_octets.specs.Search.{first_of, first_passes}
use Rattle.base_octets.specs.Sums.{sum_of}
use Rattle.unit_tunnel.specs.Numbering.{places}
use Rattle.unit_plan.specs.declared.Plan.{Plan}
use Rattle.unit_plan.specs.Limits.{most_sends}
use Rattle.unit_plan.specs.Plan.{accepted, accepted_figures}
use Rattle.unit_session.specs.declared.OwnRequest.{OwnRequest}
use Rattle.unit_session.specs.declared.Session.{Session}
use Rattle.unit_session.specs.OwnRequest.{request_ok, spent, sent_once, counted_down, InRange, range_of}
use Rattle.unit_session.specs.Session.{is_free, is_closing, is_due, closed, sent, ticked, turned, phase_ok, freed}
use Rattle.unit_session.specs.Keep.{own_ok, live_of}
use Rattle.unit_table.specs.Rules.{bounds_of, Rules, rules_of, keeps_rules}
use Rattle.unit_table.specs.Change.{at_changed, nobody, record_ok_lem, changed_here}
use Rattle.unit_table.specs.Number.{taken_number}
use Rattle.unit_table.specs.Own.{due_place}
use Rattle.call_own.specs.OnSession.{on_at}
use Rattle.call_own.specs.Outcome.{bare_on, on_session, least_reply, no_reply}
use Rattle.call_own.specs.Calls.{close_on, close_of, echo_sent, place_sent, due_sent, send_of}
use Rattle.call_store.specs.Stored.{State}
use Rattle.promise_demands.specs.Run.{left, Event, control, user, down, tick, send, close, line, step, run, of_octets, Start}
use Rattle.promise_demands.proofs.Run.{line_step, start_accepted, kept_table, send_is, close_is, control_either}
use Rattle.promise_demands.proofs.Stays.{step_start, run_start}
use Rattle.promise_demands.specs.Bounds.{at}
use Rattle.promise_demands.proofs.Ticks.{place-ticked, all_freed}
use Rattle.promise_demands.specs.Place.{gone, Same, After}
use Rattle.promise_demands.proofs.Place.{freed-gone, control_at, same_after}
use Rattle.promise_demands.specs.InTime.{is_tick, ticks_in, prompt, ever_gone, FreedInTime, Spends}

same_spends : (t : ℕ) (s x : Session) → s.state ≡ 2 → Same s x → Spends t 0 s x
same_spends t s x c m = record { closing = m.state ∙ c; spends = rw m.own (omega arith); number = λ o. rw m.own }

closed_spends : (t : ℕ) (s : Session) → s.state ≡ 2 → Spends t 0 s (closed s)
unfolding closed
closed_spends t s c = rw (ne_eqb s.state 1 (λ z. omega arith)) (record { closing = c; spends = omega arith; number = λ o. refl })

sent_spends : (t k : ℕ) (s : Session) → s.state ≡ 2 → s.own.timer ≡ 0 → s.own.sends < 255 → Spends t 0 s (sent t k s)
unfolding sent turned sent_once
sent_spends t k s c z h =
    let m : (s.own.sends + 1) % 256 ≡ s.own.sends + 1 = omega arith in
    record { closing = c; spends = rw m (omega arith); number = λ o. rw (ne_eqb s.own.sends 0 (λ z. omega arith)) }

ticked_spends : (t n : ℕ) (s : Session) → s.state ≡ 2 → is_due s ≡ false → gone s.usage (ticked n s) ≡ false → Spends t 1 s (ticked n s)
unfolding ticked turned counted_down is_due is_closing
ticked_spends t n s c d g =
    split (spent n s.own)
    (λ q. let f : gone s.usage (freed s) ≡ false = rw q at g in impossible (sym f ∙ freed-gone s.usage s))
    (λ q. rw q (record { closing = c; spends = less; number = λ o. refl }))
  where
    runs : s.own.timer ≡ 0 → ⊥
    runs z = impossible (sym (rw (eq-eqb s.state 2 c, eq-eqb s.own.timer 0 z) at d))

    less : s.own.timer - 1 + 1 + s.own.sends * t ≡ s.own.timer + s.own.sends * t
    less = split (eqb s.own.timer 0) (λ z. absurd (runs (eqb-true s.own.timer 0 z))) (λ z. let y = eqb-false s.own.timer 0 z in omega arith)

module _ (p : Plan) (i : ℕ) (h : i < places) where
  pub rules : (s : State) → Start p s → Rules s.node.plan s.node.echo s.node.next s.table
  rules s g = rules_of s.node s.table (kept_table s g.rules)

  pub there : (s : State) → Start p s → i < length s.table
  unfolding places
  there s g = let z = (rules s g).size in omega arith

  -- the own request of a place that is not free is in range
  pub in_range : (s : State) → Start p s → (j : ℕ) → is_free (at s j) ≡ false → InRange 0 p.resend p.sends (at s j).own
  unfolding bounds_of
  in_range s g j f =
      rw (← g.plan)
      (range_of 0 s.node.plan.resend s.node.plan.sends (at s j).own
      (own_ok (bounds_of s.node.plan) (at s j) (record_ok_lem s.node.plan s.node.echo s.node.next s.table (rules s g) j) f))

  pub closing_taken : (x : Session) → x.state ≡ 2 → is_free x ≡ false
  unfolding is_free
  closing_taken x c = ne_eqb x.state 0 (λ z. omega arith)

  -- no more sends than N, which is 10 at most
  few : (s : State) → Start p s → accepted p ≡ true → (at s i).state ≡ 2 → (at s i).own.sends < 255
  unfolding most_sends
  few s g a c =
      let r = in_range s g i (closing_taken (at s i) c) in
      let n = (accepted_figures p a).last in
      split (eqb (at s i).own.sends 0) (λ z. omega (arith, tests)) (λ z. let m = r.most (omega (arith, tests)) in omega arith)

  pub due_timer : (x : Session) → is_due x ≡ true → x.own.timer ≡ 0
  unfolding is_due
  due_timer x d = eqb-true x.own.timer 0 (and_right (is_closing x) (eqb x.own.timer 0) d)

  same_here : (s : State) → (at s i).state ≡ 2 → Spends p.resend 0 (at s i) (at s i)
  same_here s c = record { closing = c; spends = omega arith; number = λ o. refl }

  send_here : (s : State) → Start p s → accepted p ≡ true → (reply : List ℕ) → (at s i).state ≡ 2 → Spends s.node.plan.resend 0 (at s i) (at (step (send reply) s) i)
  unfolding left send_of due_sent echo_sent place_sent no_reply due_place
  send_here s g a reply c =
      rw (send_is s g.rules reply)
      (split (ltb (length reply) least_reply) (λ x. rw x same)
      (λ x. split (eqb s.node.echo.timer 0) (λ z. rw (x, k, z) same)
      (λ z. split (ltb (first_of is_due s.table) (length s.table))
      (λ d. rw (x, k, z, d)
      (at_changed (Spends s.node.plan.resend 0 (at s i)) (sent s.node.plan.resend (taken_number s.node.next s.node.echo s.table)) s.table i (first_of is_due s.table) (there s g) same
      (λ e. sent_spends s.node.plan.resend (taken_number s.node.next s.node.echo s.table) (at s i) c (due e d) (few s g a c))))
      (λ d. rw (x, k, z, d) same))))
    where
      k : keeps_rules s.node s.table ≡ true
      k = kept_table s g.rules

      same : Spends s.node.plan.resend 0 (at s i) (at s i)
      same = record { closing = c; spends = omega arith; number = λ o. refl }

      due : i ≡ first_of is_due s.table → ltb (first_of is_due s.table) (length s.table) ≡ true → (at s i).own.timer ≡ 0
      due e d = due_timer (at s i) (rw e (first_passes is_due s.table nobody (ltb-true (first_of is_due s.table) (length s.table) d)))

  close_here : (s : State) → Start p s → (j : ℕ) → (at s i).state ≡ 2 → Spends p.resend 0 (at s i) (at (step (close j) s) i)
  unfolding left close_of close_on bare_on
  close_here s g j c =
      rw (close_is s g.rules j, kept_table s g.rules)
      (on_at s.node s.table j close_on [] (Spends p.resend 0 (at s i)) i (there s g) (same_here s c)
      (λ e. rw (closing_taken (at s i) c) (closed_spends p.resend (at s i) c)))

  tick_here : (s : State) → Start p s → (at s i).state ≡ 2 → is_due (at s i) ≡ false → gone (at s i).usage (at (step tick s) i) ≡ false
      → Spends p.resend 1 (at s i) (at (step tick s) i)
  unfolding places
  tick_here s g c d f =
      split (spent p.sends s.node.echo)
      (λ q. let e = all_freed p s g.rules g.plan (rules s g).size i h q in impossible (sym (rw e at f) ∙ freed-gone (at s i).usage (at s i)))
      (λ q. let e = place-ticked p s g.rules g.plan (rules s g).size i h q in rw e (ticked_spends p.resend p.sends (at s i) c d (rw e at f)))

  control_here : (s : State) → Start p s → (d reply : List ℕ) → After (at s i) (at (step (control d reply) s) i)
  control_here s g d reply =
      control_either (λ n t. After (at s i) (get_or t i nobody)) s (same_after (at s i)) d reply (control_at i s.node s.table (there s g) d reply)

  user_here : (s : State) → (d reply : List ℕ) → (at s i).state ≡ 2 → Spends p.resend 0 (at s i) (at (step (user d reply) s) i)
  unfolding step
  user_here s d reply c = same_here s c

  down_here : (s : State) → (packet out : List ℕ) → (at s i).state ≡ 2 → Spends p.resend 0 (at s i) (at (step (down packet out) s) i)
  unfolding step
  down_here s packet out c = same_here s c

  pub step_spends : (e : Event) (s : State) → Start p s → accepted p ≡ true → (at s i).state ≡ 2 → not (is_tick e && is_due (at s i)) ≡ true
      → gone (at s i).usage (at (step e s) i) ≡ false → Spends p.resend (bool_byte (is_tick e)) (at s i) (at (step e s) i)
  unfolding is_tick
  step_spends (control d reply) s g a c n f = same_spends p.resend (at s i) (at (step (control d reply) s) i) c (control_here s g d reply f)
  step_spends (user d reply) s g a c n f = user_here s d reply c
  step_spends (down packet out) s g a c n f = down_here s packet out c
  step_spends tick s g a c n f = tick_here s g c (not-true (is_due (at s i)) n) f
  step_spends (send reply) s g a c n f = rw (← g.plan) (send_here s g a reply c)
  step_spends (close j) s g a c n f = close_here s g j c
  step_spends (line j reply) s g a c n f = rw (line_step j reply s) (same_here s c)

  -- what is gone now has been gone
  ever_now : (usage : ℕ) (es : List Event) (s : State) → gone usage (at s i) ≡ true → ever_gone i usage es s ≡ true
  unfolding ever_gone
  ever_now usage [] s e = e
  ever_now usage (x ∷ es) s e = rw e

  pub use_is : (usage : ℕ) (x : Session) → gone usage x ≡ false → x.usage ≡ usage
  unfolding gone
  use_is usage x e =
      split (eqb x.usage usage) (λ q. eqb-true x.usage usage q)
      (λ q. impossible (sym (rw q at e) ∙ or_true (is_free x)))

  -- it cannot have used up all its sends and still be there
  in_time_lem : (s : State) → Start p s → accepted p ≡ true → (at s i).state ≡ 2 → p.sends * p.resend + (at s i).own.timer ≤ (at s i).own.sends * p.resend → ⊥
  in_time_lem s g a c m =
      let f = accepted_figures p a in
      let one = f.first in
      let t = f.resends in
      let r = in_range s g i (closing_taken (at s i) c) in
      split (eqb (at s i).own.sends p.sends)
      (λ q. let e = eqb-true (at s i).own.sends p.sends q in
      let z = r.full (omega arith) e in
      let y : p.sends * p.resend + (at s i).own.timer ≤ p.sends * p.resend = rw e at m in
      omega arith)
      (λ q. let n : (at s i).own.sends + 1 ≤ p.sends = split (eqb (at s i).own.sends 0) (λ z. omega (arith, tests)) (λ z. let w = r.most (omega (arith, tests)) in omega (arith, tests)) in
      let y = mul-le-mul_right p.resend n in
      omega arith)

  gone_by : (usage : ℕ) (es : List Event) (s : State) → Start p s → accepted p ≡ true → every of_octets es ≡ true → (at s i).state ≡ 2 → prompt i es s ≡ true
      → p.sends * p.resend + (at s i).own.timer ≤ ticks_in es + (at s i).own.sends * p.resend → ever_gone i usage es s ≡ true
  unfolding ever_gone prompt ticks_in sum_of every
  gone_by usage [] s g a o c f m = absurd (in_time_lem s g a c (omega arith))
  gone_by usage (e ∷ es) s g a o c f m =
      split (gone usage (at s i)) (λ x. rw x)
      (λ x. rw x
      (split (gone usage (at (step e s) i))
      (λ y. ever_now usage es (step e s) y)
      (λ y. let w = use_is usage (at s i) x in
      let k = step_spends e s g a c (and_left (not (is_tick e && is_due (at s i))) (prompt i es (step e s)) f) (rw w y) in
      let l = k.spends in
      gone_by usage es (step e s) (step_start p e s (and_left (of_octets e) (every of_octets es) o) g) a (and_right (of_octets e) (every of_octets es) o) k.closing
      (and_right (not (is_tick e && is_due (at s i))) (prompt i es (step e s)) f) (omega arith))))

  -- the close: a live place is closing then, and nothing has been sent
  pub closes : (s : State) → Start p s → (at s i).state ≡ 1 → at (step (close i) s) i ≡ closed (at s i)
  unfolding left close_of on_session close_on bare_on is_free
  closes s g c =
      rw (close_is s g.rules i, kept_table s g.rules, changed_here (λ x. (close_on x).session) i s.table nobody (there s g), ne_eqb (at s i).state 0 (λ z. omega arith))

  pub live-idle : (s : State) → Start p s → (at s i).state ≡ 1 → ((at s i).own.sends ≡ 0) × ((at s i).own.timer ≡ 0)
  unfolding phase_ok is_closing is_free bounds_of
  live-idle s g c =
      let f : is_free (at s i) ≡ false = ne_eqb (at s i).state 0 (λ z. omega arith) in
      let v = (live_of (bounds_of s.node.plan) (at s i) (record_ok_lem s.node.plan s.node.echo s.node.next s.table (rules s g) i) f).phase in
      let n : eqb (at s i).state 2 ≡ false = ne_eqb (at s i).state 2 (λ z. omega arith) in
      let w : (request_ok 0 s.node.plan.resend s.node.plan.sends (at s i).own && (eqb (at s i).state 1 && eqb (at s i).own.sends 0)) ≡ true = rw n at v in
      let z : eqb (at s i).own.sends 0 ≡ true = search (and_left, and_right) in
      let q = eqb-true (at s i).own.sends 0 z in
      (q, (let b = (in_range s g i f).before q in omega arith))

pub closed_now : (s : Session) → s.state ≡ 1 → ((closed s).state ≡ 2) × ((closed s).own ≡ s.own)
unfolding closed turned
closed_now s c = rw (eq-eqb s.state 1 c) (refl, refl)

-- closed where it is live, and N × T ticks later
closed-gone : (p : Plan) (i : ℕ) (h : i < places) (s : State) → Start p s → (at s i).state ≡ 1 → (later : List Event) → every of_octets later ≡ true
    → prompt i later (step (close i) s) ≡ true → p.sends * p.resend ≤ ticks_in later → ever_gone i (at s i).usage later (step (close i) s) ≡ true
unfolding of_octets
closed-gone p i h s g c later o f m =
    gone_by p i h (at s i).usage later (step (close i) s) (step_start p (close i) s refl g) (start_accepted p s g) o
    (ap (λ (x : Session). x.state) e ∙ n.0) f
    (rw (ap (λ (x : OwnRequest). x.sends) own ∙ q.0, ap (λ (x : OwnRequest). x.timer) own ∙ q.1) (omega arith))
  where
    e : at (step (close i) s) i ≡ closed (at s i)
    e = closes p i h s g c

    n : ((closed (at s i)).state ≡ 2) × ((closed (at s i)).own ≡ (at s i).own)
    n = closed_now (at s i) c

    own : (at (step (close i) s) i).own ≡ (at s i).own
    own = ap (λ (x : Session). x.own) e ∙ n.1

    q : ((at s i).own.sends ≡ 0) × ((at s i).own.timer ≡ 0)
    q = live-idle p i h s g c

pub freed_in_time : FreedInTime
unfolding FreedInTime
freed_in_time p s es r i h c later o f m = closed-gone p i h (run es s) (run_start p s es r) c later o f (omega arith)
