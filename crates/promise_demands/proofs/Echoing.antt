-- That what specs/Echoing.antt says holds, and what that rests on.
-- Assumes nothing.
use Rattle.std.specs.Prelude.{ℕ, ◌+◌, ◌*◌, ◌%◌, ◌<◌, ◌≤◌, false, ◌&&◌, ◌≡◌, length, ltb, Option}
use Rattle.std.proofs.Math.Bool.{Bool, true, not}
use mathlib.Core.List.{List, [], ◌∷◌}
use Rattle.std.proofs.Math.Path.{refl}
use Rattle.std.proofs.Common.{sym, ◌∙◌, ap}
use native.Mathlib.Omega.{arith}
use Rattle.std.proofs.Math.Dec.{eqb, leb}
use borrow.Author.Tests.{eqb-true, eqb-false, eq-eqb, ne_eqb, le-ltb, leb-true, not-true, not-false}
use mir.Val.{bool_byte}
use Rattle.base_octets.specs.Choice.{split, impossible, and_left, and_right, tests}
use Rattle.base_octets.specs.Every.{every}
use Rattle.base_octets.specs.Sums.{sum_of}
use Rattle.unit_plan.specs.declared.Plan.{Plan}
use Rattle.unit_plan.specs.Limits.{most_sends}
use Rattle.unit_plan.specs.Plan.{accepted_figures}
use Rattle.unit_session.specs.declared.Session.{Session}
use Rattle.unit_session.specs.declared.OwnRequest.{OwnRequest}
use Rattle.unit_session.specs.OwnRequest.{spent, sent_once, counted_down, InRange, range_of}
use Rattle.unit_table.specs.declared.Node.{Node}
use Rattle.unit_table.specs.Rules.{keeps_rules, rules_of}
use Rattle.unit_table.specs.Own.{rested, echo_ticked, due_place}
use Rattle.unit_table.specs.Recovery.{hearing}
use Rattle.unit_table.specs.Number.{taken_number}
use Rattle.call_own.specs.Outcome.{on_session, least_reply, no_reply}
use Rattle.call_own.specs.Calls.{timed, tick_of, close_of, echo_sent, place_sent, due_sent, send_of}
use Rattle.call_control.specs.Echoes.{heard_by, heard_plan, heard_rest, echo_ended, echo_reply_taken}
use Rattle.call_asked.specs.declared.Asked.TheVariants as A
use Rattle.call_asked.specs.Asked.{asked_of}
use Rattle.call_control.specs.Control.{asked_taken, control_taken}
use Rattle.call_store.specs.Stored.{State}
use Rattle.call_store.specs.Laws.{send_sound}
use Rattle.promise_demands.specs.Run.{left, Event, control, user, down, tick, send, close, line, step, run, of_octets, Start}
use Rattle.promise_demands.proofs.Run.{line_step, start_accepted, kept_table, kept_store, send_is, tick_is, control_either, close_either}
use Rattle.promise_demands.proofs.Stays.{asked_part, step_start}
use Rattle.promise_demands.specs.InTime.{is_tick, ticks_in}
use Rattle.promise_demands.specs.Echoing.{at_rest, echo_prompt, under_way, SendsEcho, Echoes, EchoWhole}

-- ---- proofs
heard-echo : (r : Option ℕ) (node : Node) (t : List Session) → (heard_by r node t).node.echo ≡ node.echo
unfolding hearing
heard-echo = heard_rest (λ (n : Node). n.echo) (λ value node. refl)

-- one that is counted down and was not at rest is not
still : (r : OwnRequest) → at_rest r ≡ false → eqb r.timer 0 ≡ false → at_rest (counted_down r) ≡ false
unfolding at_rest counted_down
still r b z = split (eqb r.sends 0) (λ q. impossible (sym (rw (q, z) at b))) (λ q. rw q)

-- ---- the echo through one call: its timer and sends spend just the ticks, and a number that was sent stays
record Spends (t ticks : ℕ) (r x : OwnRequest) : Type 0 where
  spends : x.timer + ticks + r.sends * t ≡ r.timer + x.sends * t
  number : 1 ≤ r.sends → x.number ≡ r.number

same_spends : (t : ℕ) (r x : OwnRequest) → x ≡ r → Spends t 0 r x
same_spends t r x e = record { spends = rw e (omega arith); number = λ o. rw e }

sent_spends : (t k : ℕ) (r : OwnRequest) → r.timer ≡ 0 → r.sends < 255 → Spends t 0 r (sent_once t k r)
unfolding sent_once
sent_spends t k r z h =
    let m : (r.sends + 1) % 256 ≡ r.sends + 1 = omega arith in
    record { spends = rw m (omega arith); number = λ o. rw (ne_eqb r.sends 0 (λ q. omega arith)) }

down_spends : (t : ℕ) (r : OwnRequest) → eqb r.timer 0 ≡ false → Spends t 1 r (counted_down r)
unfolding counted_down
down_spends t r n = let z = eqb-false r.timer 0 n in record { spends = omega arith; number = λ o. refl }

module _ (p : Plan) where
  in_range : (s : State) → Start p s → InRange p.interval p.resend p.sends s.node.echo
  in_range s g =
      rw (← g.plan)
      (range_of s.node.plan.interval s.node.plan.resend s.node.plan.sends s.node.echo (rules_of s.node s.table (kept_table s g.rules)).echoes)

  few : (s : State) → Start p s → s.node.echo.sends < 255
  unfolding most_sends
  few s g =
      let r = in_range s g in
      let n = (accepted_figures p (start_accepted p s g)).last in
      split (eqb s.node.echo.sends 0) (λ z. omega (arith, tests)) (λ z. let m = r.most (omega (arith, tests)) in omega arith)

  -- an echo at rest waits E ticks, which are some
  rests : (s : State) → Start p s → (r : OwnRequest) → at_rest (rested p.interval r) ≡ true
  unfolding at_rest rested
  rests s g r = let e = (accepted_figures p (start_accepted p s g)).echoes in rw (ne_eqb p.interval 0 (λ z. omega arith))

  reply_rests : (s : State) → Start p s → (r : Option ℕ) (reply : List ℕ) → at_rest (asked_taken s.node s.table (A.EchoReply r) reply).answer.node.echo ≡ true
  unfolding asked_taken echo_reply_taken echo_ended timed no_reply
  reply_rests s g r reply = by (heard_by r s.node s.table).node.plan.interval (ap (λ (x : Plan). x.interval) (heard_plan r s.node s.table ∙ g.plan))
    where
      by : (m : ℕ) → m ≡ p.interval → at_rest (rested m (heard_by r s.node s.table).node.echo) ≡ true
      by m e = rw e (rests s g (heard_by r s.node s.table).node.echo)

  taken_here : (s : State) → Start p s → (d reply : List ℕ) → at_rest (control_taken s.node s.table d reply).answer.node.echo ≡ false
      → (control_taken s.node s.table d reply).answer.node.echo ≡ s.node.echo
  unfolding control_taken no_reply
  taken_here s g d reply n =
      let k = kept_table s g.rules in
      split (ltb (length reply) least_reply) (λ a. rw a)
      (λ a. rw (a, k)
      (asked_part (λ x. x.echo) heard-echo s.node s.table (asked_of s.node d) reply
      (λ r e. let b = rw (a, k, e) at n in impossible (sym b ∙ reply_rests s g r reply))))

  control_here : (s : State) → Start p s → (d reply : List ℕ) → at_rest (step (control d reply) s).node.echo ≡ false → (step (control d reply) s).node.echo ≡ s.node.echo
  control_here s g d reply =
      control_either (λ n t. at_rest n.echo ≡ false → n.echo ≡ s.node.echo) s (λ n. refl) d reply (taken_here s g d reply)

  tick_here : (s : State) → Start p s → eqb s.node.echo.timer 0 ≡ false → at_rest (step tick s).node.echo ≡ false → (step tick s).node.echo ≡ counted_down s.node.echo
  unfolding left tick_of no_reply timed echo_ticked
  tick_here s g z n =
      let e = tick_is s g.rules in
      let k = kept_table s g.rules in
      split (spent s.node.plan.sends s.node.echo)
      (λ q. let b = rw (e, k, q) at n in impossible (sym b ∙ given_up_lem))
      (λ q. rw (e, k, q))
    where
      given_up_lem : at_rest (rested s.node.plan.interval s.node.echo) ≡ true
      given_up_lem = rw g.plan (rests s g s.node.echo)

  send_here : (s : State) → Start p s → (reply : List ℕ) → Spends p.resend 0 s.node.echo (step (send reply) s).node.echo
  unfolding left send_of due_sent echo_sent place_sent no_reply timed
  send_here s g reply =
      rw (send_is s g.rules reply)
      (split (ltb (length reply) least_reply) (λ x. rw x same)
      (λ x. split (eqb s.node.echo.timer 0)
      (λ z. rw (x, k, z) (rw g.plan (sent_spends p.resend (taken_number s.node.next s.node.echo s.table) s.node.echo (eqb-true s.node.echo.timer 0 z) (few s g))))
      (λ z. split (ltb (due_place s.table) (length s.table)) (λ d. rw (x, k, z, d) same) (λ d. rw (x, k, z, d) same))))
    where
      k : keeps_rules s.node s.table ≡ true
      k = kept_table s g.rules

      same : Spends p.resend 0 s.node.echo s.node.echo
      same = same_spends p.resend s.node.echo s.node.echo refl

  user_here : (s : State) (d reply : List ℕ) → (step (user d reply) s).node.echo ≡ s.node.echo
  unfolding step
  user_here s d reply = refl

  down_here : (s : State) (packet out : List ℕ) → (step (down packet out) s).node.echo ≡ s.node.echo
  unfolding step
  down_here s packet out = refl

  closed-echo : (s : State) → (i : ℕ) → (close_of s.node s.table i).answer.node.echo ≡ s.node.echo
  unfolding close_of on_session no_reply
  closed-echo s i = split (keeps_rules s.node s.table) (λ e. rw e) (λ e. rw e)

  close_here : (s : State) → (i : ℕ) → (step (close i) s).node.echo ≡ s.node.echo
  close_here s i = close_either (λ n t. n.echo ≡ s.node.echo) s refl i (closed-echo s i)

  step_spends : (e : Event) (s : State) → Start p s → not (is_tick e && eqb s.node.echo.timer 0) ≡ true → at_rest (step e s).node.echo ≡ false
      → Spends p.resend (bool_byte (is_tick e)) s.node.echo (step e s).node.echo
  unfolding is_tick
  step_spends (control d reply) s g n f = same_spends p.resend s.node.echo _ (control_here s g d reply f)
  step_spends (user d reply) s g n f = same_spends p.resend s.node.echo _ (user_here s d reply)
  step_spends (down packet out) s g n f = same_spends p.resend s.node.echo _ (down_here s packet out)
  step_spends tick s g n f = rw (tick_here s g (not-true (eqb s.node.echo.timer 0) n) f) (down_spends p.resend s.node.echo (not-true (eqb s.node.echo.timer 0) n))
  step_spends (send reply) s g n f = send_here s g reply
  step_spends (close i) s g n f = same_spends p.resend s.node.echo _ (close_here s i)
  step_spends (line i reply) s g n f = same_spends p.resend s.node.echo _ (ap (λ (x : State). x.node.echo) (line_step i reply s))

  -- ---- from call to call
  record There (m : ℕ) (s : State) : Type 0 where
    good : Start p s
    spaced : s.node.echo.sends * p.resend ≡ m + s.node.echo.timer
    busy : at_rest s.node.echo ≡ false

  there_run : (m : ℕ) (es : List Event) (s : State) → every of_octets es ≡ true → echo_prompt es s ≡ true → under_way es s ≡ true → There m s → There (m + ticks_in es) (run es s)
  unfolding run echo_prompt under_way ticks_in sum_of every
  there_run m [] s o f w t = rw none t
    where
      none : m + 0 ≡ m
      none = omega arith
  there_run m (e ∷ es) s o f w t =
      rw (← more)
      (there_run (m + bool_byte (is_tick e)) es (step e s) (and_right (of_octets e) (every of_octets es) o) (and_right prompts (echo_prompt es (step e s)) f)
      (and_right (not (at_rest (step e s).node.echo)) (under_way es (step e s)) w) stepped)
    where
      prompts : Bool
      prompts = not (is_tick e && eqb s.node.echo.timer 0)

      busy : at_rest (step e s).node.echo ≡ false
      busy = not-true (at_rest (step e s).node.echo) (and_left (not (at_rest (step e s).node.echo)) (under_way es (step e s)) w)

      stepped : There (m + bool_byte (is_tick e)) (step e s)
      stepped =
          let k = (step_spends e s t.good (and_left prompts (echo_prompt es (step e s)) f) busy).spends in
          let l = t.spaced in
          record { good = step_start p e s (and_left (of_octets e) (every of_octets es) o) t.good; spaced = omega arith; busy = busy }

      more : m + bool_byte (is_tick e) + ticks_in es ≡ m + (bool_byte (is_tick e) + ticks_in es)
      more = omega arith

  module _ (later : List Event) (s : State) (t : There (ticks_in later) s) where
    most : s.node.echo.sends ≤ p.sends
    most = split (eqb s.node.echo.sends 0) (λ x. omega (arith, tests)) (λ x. let y = eqb-false s.node.echo.sends 0 x in (in_range s t.good).most (omega arith))

    waits : s.node.echo.timer ≤ p.resend
    unfolding at_rest
    waits =
        split (eqb s.node.echo.sends 0)
        (λ x. let b = rw x at t.busy in let z = eqb-true s.node.echo.timer 0 (not-false (eqb s.node.echo.timer 0) b) in omega arith)
        (λ x. let y = eqb-false s.node.echo.sends 0 x in (in_range s t.good).timed (omega arith))

    last : eqb s.node.echo.timer 0 ≡ false → at_rest (step tick s).node.echo ≡ true → ticks_in later + 1 ≡ p.sends * p.resend
    unfolding left tick_of no_reply timed echo_ticked spent
    last z n = split (eqb s.node.echo.timer 1 && leb p.sends s.node.echo.sends) yes no
      where
        yes : (eqb s.node.echo.timer 1 && leb p.sends s.node.echo.sends) ≡ true → ticks_in later + 1 ≡ p.sends * p.resend
        yes q =
            let one = eqb-true s.node.echo.timer 1 (and_left (eqb s.node.echo.timer 1) (leb p.sends s.node.echo.sends) q) in
            let m = leb-true p.sends s.node.echo.sends (and_right (eqb s.node.echo.timer 1) (leb p.sends s.node.echo.sends) q) in
            let u = most in
            let same : s.node.echo.sends ≡ p.sends = omega arith in
            let l = t.spaced in
            rw (← same) (omega arith)

        no : (eqb s.node.echo.timer 1 && leb p.sends s.node.echo.sends) ≡ false → ticks_in later + 1 ≡ p.sends * p.resend
        no q =
            let a = rw (tick_is s t.good.rules, kept_table s t.good.rules, t.good.plan, q) at n in
            impossible (sym (still s.node.echo t.busy z) ∙ a)

    octets : (reply : List ℕ) → least_reply ≤ length reply → s.node.echo.timer ≡ 0 → SendsEcho s reply
    unfolding SendsEcho send_of due_sent echo_sent left least_reply timed
    octets reply room z =
        rw (send_sound s.node s.table s.store (kept_store s t.good.rules) reply, send_is s t.good.rules reply, le-ltb (length reply) least_reply room, kept_table s t.good.rules, eq-eqb s.node.echo.timer 0 z) (refl, refl)

    echoes : Echoes p later s
    echoes = record {
      spaced = t.spaced;
      waits = waits;
      most = most;
      last = last;
      number = λ e n f m. (step_spends e s t.good n f).number m;
      octets = octets;
    }

pub echo_whole : EchoWhole
unfolding EchoWhole at_rest
echo_whole p s g none due later o f w =
    echoes p later (run later s) (rw zero at (there_run p 0 later s o f w (record {
      good = g;
      spaced = rw (none, due) (omega arith);
      busy = rw (none, due);
    })))
  where
    zero : 0 + ticks_in later ≡ ticks_in later
    zero = omega arith
