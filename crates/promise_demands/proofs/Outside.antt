-- That what specs/Outside.antt says holds, and what that rests on.
-- Assumes nothing.
use Rattle.std.specs.Prelude.{ℕ, ◌<◌, false, ◌&&◌, List, [], ◌≡◌, refl, length, eqb, ltb, Option}
use Rattle.std.proofs.Math.Bool.{true, not}
use Rattle.std.proofs.Common.{sym, ◌∙◌, arith}
use Rattle.std.proofs.Math.ListN.{get_or}
use borrow.Author.Tests.{eqb-true, ne_eqb, lt-ltb, ltb-true, ltb-false}
use Rattle.base_octets.specs.Number.{taken}
use Rattle.base_octets.specs.Choice.{split, and_left, impossible}
use Rattle.base_octets.specs.Search.{first_of, first_passes}
use Rattle.unit_tunnel.specs.Numbering.{places, control_offset}
use Rattle.unit_plan.specs.declared.Plan.{Plan}
use Rattle.unit_plan.specs.Limits.{no_plan}
use Rattle.unit_sharing.specs.Sharing.{admits}
use Rattle.unit_session.specs.declared.Session.{Session}
use Rattle.unit_session.specs.OwnRequest.{spent}
use Rattle.unit_session.specs.Session.{is_free, is_closing, is_due, has_id, freed, sent, turned}
use Rattle.unit_table.specs.declared.Node.{Node}
use Rattle.unit_table.specs.Rules.{keeps_rules, rules_of, live}
use Rattle.unit_table.specs.Change.{nobody, changed_at, changed_here}
use Rattle.unit_table.specs.Find.{place_found, owner_of}
use Rattle.unit_table.specs.Number.{taken_number}
use Rattle.unit_table.specs.Own.{due_place, fresh_node}
use Rattle.unit_store.specs.Row.{store_rows, number_in, octets_in}
use Rattle.unit_store.specs.Store.{store_ok}
use Rattle.wire_requests.specs.declared.Create as C
use Rattle.call_asked.specs.declared.Asked.{Asked}
use Rattle.call_asked.specs.declared.Asked.TheVariants as A
use Rattle.call_asked.specs.Asked.{asked_of}
use Rattle.call_own.specs.Outcome.{least_reply, no_reply, no_places, all_places, one_place, between, two_places, session_place, on_session, on_owner, replied}
use Rattle.call_own.specs.Calls.{timed, fresh_answer, fresh_of, quiet, tick_places, tick_of, close_of, echo_sent, place_sent, due_sent, send_of}
use Rattle.call_own.specs.Outside.{OthersStay, fresh_others, tick_others, close_others, send_others}
use Rattle.call_line.specs.Line.{line_by, line_of}
use Rattle.call_control.specs.Echoes.{restarts_by, heard_places, echo_taken, echo_reply_taken}
use Rattle.call_control.specs.Amends.{cause_taken}
use Rattle.call_control.specs.Creates.{is_repeat, opened_places, create_places, create_taken}
use Rattle.call_control.specs.Control.{asked_taken, control_taken}
use Rattle.call_control.proofs.Outside.{control_others}
use Rattle.call_store.specs.Stored.{keeps, broken_number, close_stored, send_stored, line_stored, fresh_stored, tick_stored, is_kept, kept_for, control_stored}
use Rattle.call_store.specs.Laws.{control_by}
use Rattle.promise_demands.specs.Outside.{Lies, Changes, SentFor, OutsideStays}

-- ---- proofs
none_lies : Lies no_places
none_lies = record { ordered = omega arith; last = omega arith }

all_lies : Lies all_places
all_lies = record { ordered = omega arith; last = omega arith }

one_lies : (i : ℕ) → Lies (one_place i)
unfolding one_place
one_lies i = split (ltb i places)
    (λ e. let h = ltb-true i places e in rw e (record { ordered = omega arith; last = omega arith }))
    (λ e. rw e none_lies)

two_lies : (i j : ℕ) → Lies (two_places i j)
unfolding two_places between
two_lies i j = split (ltb i places)
    (λ e. split (ltb j places)
    (λ f. let h = ltb-true i places e in
    let g = ltb-true j places f in
    split (ltb i j)
    (λ t. let m = ltb-true i j t in rw (e, f, t) (record { ordered = omega arith; last = omega arith }))
    (λ t. let m = ltb-false i j t in rw (e, f, t) (record { ordered = omega arith; last = omega arith })))
    (λ f. rw (e, f) (one_lies i)))
    (λ e. rw e (one_lies j))

session_lies : (t : List Session) (i : ℕ) → Lies (session_place t i)
unfolding session_place
session_lies t i = split (is_free (get_or t i nobody)) (λ e. rw e none_lies) (λ e. rw e (one_lies i))

heard_lies : (r : Option ℕ) (node : Node) → Lies (heard_places r node)
unfolding heard_places
heard_lies r node = split (restarts_by r node) (λ e. rw e all_lies) (λ e. rw e none_lies)

opened_lies : (c : C.Create) (seq : ℕ) (node : Node) (t : List Session) (i : ℕ) → Lies (opened_places c seq node t i)
unfolding opened_places
opened_lies c seq node t i = split (ltb i (length t) && is_repeat c seq (get_or t i nobody)) (λ e. rw e none_lies)
    (λ e. split (admits node.plan (live (changed_at freed i t)) c.point)
    (λ a. rw (e, a) (two_lies i (first_of is_free (changed_at freed i t))))
    (λ a. rw (e, a) (one_lies i)))

create_lies : (c : C.Create) (seq : ℕ) (node : Node) (t : List Session) → Lies (create_places c seq node t)
unfolding create_places
create_lies c seq node t =
    split (restarts_by c.recovery node) (λ e. rw e all_lies) (λ e. rw e (opened_lies c seq node t (first_of (has_id c.imsi c.ebi) t)))

fresh_lies : (p : Plan) (t : List Session) → Lies (fresh_of p t).answer.span
unfolding fresh_of fresh_answer no_reply
fresh_lies p t = split (eqb (length t) places) (λ e. rw e all_lies) (λ e. rw e none_lies)

module _ (node : Node) (t : List Session) where
  asked_lies : (a : Asked) (reply : List ℕ) → Lies (asked_taken node t a reply).answer.span
  unfolding asked_taken echo_taken echo_reply_taken cause_taken on_owner on_session no_reply create_taken
  asked_lies (A.Silent number) reply = none_lies
  asked_lies A.Version reply = none_lies
  asked_lies (A.Echo r seq) reply = heard_lies r node
  asked_lies (A.EchoReply r) reply = heard_lies r node
  asked_lies (A.Create c seq) reply = create_lies c seq node t
  asked_lies (A.Refused w to seq) reply = none_lies
  asked_lies (A.Session teid seq x) reply = session_lies t (place_found (owner_of control_offset teid.0 t) t)

  control_lies : (d reply : List ℕ) → Lies (control_taken node t d reply).answer.span
  unfolding control_taken no_reply
  control_lies d reply =
      split (ltb (length reply) least_reply) (λ a. rw a none_lies)
      (λ a. split (keeps_rules node t) (λ e. rw (a, e) (asked_lies (asked_of node d) reply)) (λ e. rw (a, e) none_lies))

  tick_lies : Lies (tick_of node t).answer.span
  unfolding tick_of tick_places no_reply
  tick_lies = split (keeps_rules node t)
      (λ e. split (quiet t && not (spent node.plan.sends node.echo)) (λ q. rw (e, q) none_lies) (λ q. rw (e, q) all_lies))
      (λ e. rw e none_lies)

  close_lies : (i : ℕ) → Lies (close_of node t i).answer.span
  unfolding close_of on_session no_reply
  close_lies i = split (keeps_rules node t) (λ e. rw e (session_lies t i)) (λ e. rw e none_lies)

  send_lies : (reply : List ℕ) → Lies (send_of node t reply).answer.span
  unfolding send_of due_sent echo_sent place_sent no_reply
  send_lies reply =
      split (ltb (length reply) least_reply) (λ a. rw a none_lies)
      (λ a. split (keeps_rules node t)
      (λ e. split (eqb node.echo.timer 0) (λ z. rw (a, e, z) none_lies)
      (λ z. split (ltb (due_place t) (length t)) (λ d. rw (a, e, z, d) (one_lies (due_place t))) (λ d. rw (a, e, z, d) none_lies)))
      (λ e. rw (a, e) none_lies))

  line_none : (place : ℕ) (reply : List ℕ) → (line_of node t place reply).answer.span ≡ no_places
  unfolding line_of line_by
  line_none place reply =
      split (ltb (length reply) least_reply) (λ a. rw a)
      (λ a. split (keeps_rules node t)
      (λ e. split (ltb place (length t)) (λ h. rw (a, e, h)) (λ h. rw (a, e, h)))
      (λ e. rw (a, e)))

  -- ---- what is sent
  abbrev k : ℕ
  k = taken_number node.next node.echo t

  echo_for : (reply : List ℕ) → SentFor node t reply (echo_sent node t k reply)
  unfolding echo_sent timed
  echo_for reply = record { echo = λ e. refl; live = λ h. absurd (omega arith); bearer = λ h. absurd (omega arith) }

  due_taken : first_of is_due t < length t → is_free (get_or t (first_of is_due t) nobody) ≡ false
  unfolding is_due is_closing is_free
  due_taken h =
      let s = get_or t (first_of is_due t) nobody in
      let d : is_due s ≡ true = first_passes is_due t nobody h in
      let x = eqb-true s.state 2 (and_left (is_closing s) (eqb s.own.timer 0) d) in
      ne_eqb s.state 0 (λ q. omega arith)

  place_for_lem : (reply : List ℕ) → keeps_rules node t ≡ true → due_place t < length t
      → SentFor node t reply (place_sent node t k (due_place t) (get_or t (due_place t) nobody) reply)
  unfolding place_sent one_place due_place sent turned
  place_for_lem reply e h =
      let size = (rules_of node t e).size in
      let i = due_place t in
      rw (lt-ltb i places (omega arith)) (record {
        echo = λ q. absurd (omega arith);
        live = λ q. due_taken h;
        bearer = λ q. rw (changed_here (sent node.plan.resend k) i t nobody h);
      })

  send_for : (reply : List ℕ) → (send_of node t reply).answer.number ≡ taken → SentFor node t reply (send_of node t reply)
  unfolding send_of due_sent no_reply
  send_for reply =
      split (ltb (length reply) least_reply) (λ a. rw a (λ n. absurd (omega arith)))
      (λ a. split (keeps_rules node t)
      (λ e. split (eqb node.echo.timer 0) (λ z. rw (a, e, z) (λ n. echo_for reply))
      (λ z. split (ltb (due_place t) (length t))
      (λ d. rw (a, e, z, d) (λ n. place_for_lem reply e (ltb-true (due_place t) (length t) d)))
      (λ d. rw (a, e, z, d) (λ n. absurd (omega arith)))))
      (λ e. rw (a, e) (λ n. absurd (omega arith))))

-- ---- the same with the store: document 01's call, or nothing changed
module _ (node : Node) (t : List Session) where
  bare_changes : (n : ℕ) (x : Node) (reply : List ℕ) → Changes (no_reply n x t reply) t
  unfolding OthersStay no_reply
  bare_changes n x reply = record { others = λ i e. refl; lies = none_lies }

  again_changes : (n : ℕ) (m reply : List ℕ) → Changes (replied n node t m reply) t
  unfolding OthersStay
  again_changes n m reply = record { others = λ i e. refl; lies = none_lies }

  control_changes : (w : List (List ℕ)) (d reply : List ℕ) → Changes (control_stored node t w d reply).call t
  control_changes w d reply =
      control_by node t w d reply (λ o. Changes o t)
      (λ h. bare_changes 1 node reply) (λ h e. bare_changes 2 node reply)
      (λ h e f. again_changes (number_in (kept_for d w)) (octets_in (kept_for d w)) reply)
      (λ h e f. record { others = control_others node t d reply; lies = control_lies node t d reply })

  again_none : (w : List (List ℕ)) (d reply : List ℕ) → keeps node t w ≡ true → is_kept d w ≡ true → (control_stored node t w d reply).call.answer.span ≡ no_places
  unfolding no_reply
  again_none w d reply k e =
      control_by node t w d reply (λ o. o.answer.span ≡ no_places) (λ h. refl) (λ h f. refl) (λ h f g. refl) (λ h f g. impossible (sym g ∙ e))

  tick_changes : (w : List (List ℕ)) → Changes (tick_stored node t w).call t
  unfolding tick_stored
  tick_changes w =
      split (store_ok w) (λ s. rw s (record { others = tick_others node t; lies = tick_lies node t })) (λ s. rw s (bare_changes 2 node []))

  close_changes : (w : List (List ℕ)) (place : ℕ) → Changes (close_stored node t w place) t
  unfolding close_stored
  close_changes w place =
      split (store_ok w) (λ s. rw s (record { others = close_others node t place; lies = close_lies node t place })) (λ s. rw s (bare_changes 2 node []))

  send_changes : (w : List (List ℕ)) (reply : List ℕ) → Changes (send_stored node t w reply) t
  unfolding send_stored
  send_changes w reply =
      split (store_ok w) (λ s. rw s (record { others = send_others node t reply; lies = send_lies node t reply }))
      (λ s. rw s (bare_changes (broken_number reply) node reply))

  line_nowhere : (w : List (List ℕ)) (place : ℕ) (reply : List ℕ) → (line_stored node t w place reply).answer.span ≡ no_places
  unfolding line_stored no_reply
  line_nowhere w place reply = split (store_ok w) (λ s. rw s (line_none node t place reply)) (λ s. rw s)

  sent_for : (w : List (List ℕ)) (reply : List ℕ) → (send_stored node t w reply).answer.number ≡ taken → SentFor node t reply (send_stored node t w reply)
  unfolding send_stored no_reply broken_number
  sent_for w reply =
      split (store_ok w) (λ s. rw s (send_for node t reply))
      (λ s. split (ltb (length reply) least_reply) (λ a. rw (s, a) (λ n. absurd (omega arith))) (λ a. rw (s, a) (λ n. absurd (omega arith))))

fresh_changes : (p : Plan) (t : List Session) (w : List (List ℕ)) → Changes (fresh_stored p t w).call t
unfolding fresh_stored
fresh_changes p t w =
    split (eqb (length w) store_rows) (λ s. rw s (record { others = fresh_others p t; lies = fresh_lies p t }))
    (λ s. rw s (bare_changes (fresh_node no_plan) t 2 (fresh_node no_plan) []))

pub outside_stays : OutsideStays
outside_stays = record {
  fresh = fresh_changes;
  control = control_changes;
  again = again_none;
  tick = tick_changes;
  close = close_changes;
  send = send_changes;
  line = line_nowhere;
  sent = sent_for;
}
