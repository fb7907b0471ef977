-- The plan stays: no call changes it, so that after any run the unit goes by the plan it was started with, and a further run may start there.
-- Assumes nothing.
use Rattle.std.specs.Prelude.{ℕ, true, List, [], ◌∷◌, ◌≡◌, length, get_or, eqb, ltb, Option, Some, None}
use Rattle.std.proofs.Math.Path.{refl}
use Rattle.std.proofs.Common.{◌∙◌}
use Rattle.unit_session.specs.declared.Session.{Session}
use Rattle.base_octets.specs.Choice.{split}
use Rattle.unit_plan.specs.declared.Plan.{Plan}
use Rattle.unit_sharing.specs.Sharing.{admits}
use Rattle.unit_session.specs.Session.{is_free, has_id, freed}
use Rattle.unit_table.specs.declared.Node.{Node}
use Rattle.unit_table.specs.Rules.{keeps_rules, live}
use Rattle.unit_table.specs.Change.{nobody, changed_at}
use Rattle.unit_table.specs.Find.{found_in}
use Rattle.unit_table.specs.Own.{due_place}
use Rattle.wire_requests.specs.declared.Create as C
use Rattle.call_own.specs.Outcome.{on_session, on_owner, least_reply, no_reply}
use Rattle.call_own.specs.Calls.{timed, tick_of, close_of, echo_sent, place_sent, due_sent, send_of}
use Rattle.call_control.specs.Echoes.{heard_by, heard_plan, echo_taken, echo_ended, echo_reply_taken}
use Rattle.call_control.specs.Amends.{cause_taken}
use Rattle.call_control.specs.Creates.{accepted_taken, opened_at, shared, is_repeat, settled_at, heard_create, create_taken}
use Rattle.call_store.specs.Stored.{State}
use Rattle.promise_demands.specs.Run.{Event, control, user, down, tick, send, close, line, step, run, of_octets, Start, Run}
use Rattle.promise_demands.proofs.Run.{line_step, step_keeps, run-keeps, control_either, tick_either, send_either, close_either}
use Rattle.call_asked.specs.declared.Asked.{Asked}
use Rattle.call_asked.specs.declared.Asked.TheVariants as A
use Rattle.call_asked.specs.Asked.{asked_of}
use Rattle.call_control.specs.Control.{asked_taken, control_taken}

echo_reply_plan : (node : Node) (t : List Session) (r : Option ℕ) (reply : List ℕ) → (echo_reply_taken node t r reply).answer.node.plan ≡ node.plan
unfolding echo_reply_taken echo_ended timed no_reply
echo_reply_plan node t r reply = heard_plan r node t

-- ---- what is done after Recovery leaves each part of the node
module _ {B : Type 0} (f : Node → B) (c : C.Create) (seq : ℕ) (node₀ : Node) (t₀ : List Session) (reply : List ℕ) where
  shared-part : (node : Node) (t : List Session) → f node ≡ f node₀ → f (shared c seq node t node₀ t₀ reply).answer.node ≡ f node₀
  unfolding shared opened_at accepted_taken cause_taken no_reply
  shared-part node t e = split (admits node.plan (live t) c.point) (λ q. rw q (place (found_in is_free t))) (λ q. rw q e)
    where
      place : (g : Option ℕ) → f (opened_at g c seq node t node₀ t₀ reply).answer.node ≡ f node₀
      place None = refl
      place (Some i) = e

  pub settled-part : (node : Node) (t : List Session) → f node ≡ f node₀ → (g : Option ℕ) → f (settled_at g c seq node t node₀ t₀ reply).answer.node ≡ f node₀
  unfolding settled_at accepted_taken
  settled-part node t e None = shared-part node t e
  settled-part node t e (Some i) =
      split (is_repeat c seq (get_or t i nobody)) (λ x. rw x e) (λ x. rw x (shared-part node (changed_at freed i t) e))

-- ---- a part of the node that no Recovery touches: of all control datagrams only the reply to the unit's own echo can
module _ {B : Type 0} (f : Node → B) (hears : (r : Option ℕ) (node : Node) (t : List Session) → f (heard_by r node t).node ≡ f node) where
  create-part : (node : Node) (t : List Session) (c : C.Create) (seq : ℕ) (reply : List ℕ) → f (create_taken c seq node t reply).answer.node ≡ f node
  unfolding create_taken heard_create
  create-part node t c seq reply =
      settled-part f c seq node t reply (heard_by c.recovery node t).node (heard_by c.recovery node t).table (hears c.recovery node t)
      (found_in (has_id c.imsi c.ebi) (heard_by c.recovery node t).table)

  pub asked_part : (node : Node) (t : List Session) (a : Asked) (reply : List ℕ)
      → ((r : Option ℕ) → a ≡ A.EchoReply r → f (asked_taken node t a reply).answer.node ≡ f node) → f (asked_taken node t a reply).answer.node ≡ f node
  unfolding asked_taken echo_taken cause_taken on_owner on_session no_reply
  asked_part node t (A.Silent number) reply k = refl
  asked_part node t A.Version reply k = refl
  asked_part node t (A.Echo r seq) reply k = hears r node t
  asked_part node t (A.EchoReply r) reply k = k r refl
  asked_part node t (A.Create c seq) reply k = create-part node t c seq reply
  asked_part node t (A.Refused w to seq) reply k = refl
  asked_part node t (A.Session teid seq x) reply k = refl

  pub control_part : (node : Node) (t : List Session) (d reply : List ℕ)
      → ((r : Option ℕ) → asked_of node d ≡ A.EchoReply r → f (asked_taken node t (asked_of node d) reply).answer.node ≡ f node)
      → f (control_taken node t d reply).answer.node ≡ f node
  unfolding control_taken no_reply
  control_part node t d reply k =
      split (ltb (length reply) least_reply) (λ a. rw a)
      (λ a. split (keeps_rules node t) (λ e. rw (a, e) (asked_part node t (asked_of node d) reply k)) (λ e. rw (a, e)))

module _ (node : Node) (t : List Session) where
  control_plan : (d reply : List ℕ) → (control_taken node t d reply).answer.node.plan ≡ node.plan
  unfolding asked_taken
  control_plan d reply = control_part (λ n. n.plan) heard_plan node t d reply (λ r e. rw e (echo_reply_plan node t r reply))

  tick_plan : (tick_of node t).answer.node.plan ≡ node.plan
  unfolding tick_of timed no_reply
  tick_plan = split (keeps_rules node t) (λ e. rw e) (λ e. rw e)

  close_plan : (i : ℕ) → (close_of node t i).answer.node.plan ≡ node.plan
  unfolding close_of on_session no_reply
  close_plan i = split (keeps_rules node t) (λ e. rw e) (λ e. rw e)

  send_plan : (reply : List ℕ) → (send_of node t reply).answer.node.plan ≡ node.plan
  unfolding send_of due_sent echo_sent place_sent timed no_reply
  send_plan reply =
      split (ltb (length reply) least_reply) (λ a. rw a)
      (λ a. split (keeps_rules node t)
      (λ e. split (eqb node.echo.timer 0) (λ z. rw (a, e, z))
      (λ z. split (ltb (due_place t) (length t)) (λ d. rw (a, e, z, d)) (λ d. rw (a, e, z, d))))
      (λ e. rw (a, e)))

user_plan : (d reply : List ℕ) (s : State) → (step (user d reply) s).node.plan ≡ s.node.plan
unfolding step
user_plan d reply s = refl

down_plan : (packet out : List ℕ) (s : State) → (step (down packet out) s).node.plan ≡ s.node.plan
unfolding step
down_plan packet out s = refl

pub step_plan : (e : Event) (s : State) → (step e s).node.plan ≡ s.node.plan
step_plan (control d reply) s = control_either (λ n t. n.plan ≡ s.node.plan) s refl d reply (control_plan s.node s.table d reply)
step_plan (user d reply) s = user_plan d reply s
step_plan (down packet out) s = down_plan packet out s
step_plan tick s = tick_either (λ n t. n.plan ≡ s.node.plan) s refl (tick_plan s.node s.table)
step_plan (send reply) s = send_either (λ n t. n.plan ≡ s.node.plan) s refl reply (send_plan s.node s.table reply)
step_plan (close place) s = close_either (λ n t. n.plan ≡ s.node.plan) s refl place (close_plan s.node s.table place)
step_plan (line place reply) s = rw (line_step place reply s)

pub run_plan : (es : List Event) (s : State) → (run es s).node.plan ≡ s.node.plan
unfolding run
run_plan [] s = refl
run_plan (e ∷ es) s = run_plan es (step e s) ∙ step_plan e s

-- ---- what a start comes to is a start again
pub step_start : (p : Plan) (e : Event) (s : State) → of_octets e ≡ true → Start p s → Start p (step e s)
step_start p e s o g = record { plan = step_plan e s ∙ g.plan; rules = step_keeps e s o g.rules }

pub run_start : (p : Plan) (s : State) (es : List Event) → Run p s es → Start p (run es s)
run_start p s es r = record { plan = run_plan es s ∙ r.start.plan; rules = run-keeps es s r.octets r.start.rules }
