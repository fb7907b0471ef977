-- That what specs/Run.antt says holds, and what that rests on.
-- Assumes nothing.
use Rattle.std.specs.Prelude.{ℕ, true, List, [], ◌∷◌, ◌≡◌, length}
use Rattle.base_octets.specs.Choice.{and_left, and_right, split}
use Rattle.base_octets.specs.Every.{every}
use Rattle.unit_tunnel.specs.Numbering.{places}
use Rattle.unit_plan.specs.declared.Plan.{Plan}
use Rattle.unit_session.specs.declared.Session.{Session}
use Rattle.unit_plan.specs.Plan.{accepted}
use Rattle.unit_table.specs.Rules.{keeps_rules, rules_of}
use Rattle.unit_table.specs.Own.{fresh_node}
use Rattle.unit_table.specs.declared.Node.{Node}
use Rattle.unit_store.specs.Row.{store_rows}
use Rattle.unit_store.specs.Store.{store_ok, aged}
use Rattle.call_own.specs.Outcome.{Outcome, no_reply}
use Rattle.call_own.specs.Calls.{fresh_answer, fresh_held, tick_of, close_of, send_of}
use Rattle.call_control.specs.Control.{control_taken}
use Rattle.call_store.specs.Stored.{State, stored, close_stored, send_stored, fresh_state, fresh_stored, tick_stored}
use Rattle.call_store.specs.Laws.{keeps_table, keeps_store, tick_keeping, send_sound, close_sound, control_by}
use Rattle.call_store.specs.Kept.{close_stored_keeps, send_stored_keeps, tick_stored_keeps, control_stored_keeps, fresh_stored_keeps}
use Rattle.promise_demands.specs.Kept.{LineLeaves}
use Rattle.promise_demands.proofs.Kept.{calls_keep, fresh_comes_to}
use Rattle.promise_demands.specs.Run.{left, left_beside, Event, close, control, down, line, send, tick, user, step, run, of_octets, Kept, Start}

-- ---- fresh under an accepted plan is such a start
pub fresh_plan : (p : Plan) → accepted p ≡ true → (fresh_state p).node.plan ≡ p
unfolding fresh_state fresh_held fresh_answer fresh_node
fresh_plan p a = rw a

pub fresh_start : (p : Plan) → accepted p ≡ true → Start p (fresh_state p)
fresh_start p a = record { plan = fresh_plan p a; rules = fresh_stored_keeps p a }

-- and it is what the call leaves, on as many records as there are places and as many rows as the store has, whatever they hold
pub fresh_left : (p : Plan) (t : List Session) (w : List (List ℕ)) → length t ≡ places → length w ≡ store_rows → left (fresh_stored p t w) ≡ fresh_state p
unfolding left fresh_state fresh_held
fresh_left p t w n m = rw (fresh_comes_to p t w n m)

-- ---- the rules of the table, and those of the store
pub kept_table : (s : State) → Kept s → keeps_rules s.node s.table ≡ true
kept_table s k = keeps_table s.node s.table s.store k

pub kept_store : (s : State) → Kept s → store_ok s.store ≡ true
kept_store s k = keeps_store s.node s.table s.store k

-- ---- the plan of a start is an accepted one
pub start_accepted : (p : Plan) (s : State) → Start p s → accepted p ≡ true
start_accepted p s g = rw (← g.plan) (rules_of s.node s.table (kept_table s g.rules)).planned

-- ---- each call in the words of the call without the store: whatever holds of node and table as they were, and of what that call makes of them,
-- holds of what the call leaves; where the store keeps its rules, all but a control datagram leave just that
module _ (P : Node → List Session → Type 0) (s : State) (same : P s.node s.table) where
  abbrev After : Outcome → Type 0
  After o = P o.answer.node o.table

  pub control_either : (d reply : List ℕ) → After (control_taken s.node s.table d reply)
      → P (step (control d reply) s).node (step (control d reply) s).table
  unfolding step left no_reply
  control_either d reply h = control_by s.node s.table s.store d reply After (λ a. same) (λ a b. same) (λ a b c. same) (λ a b c. h)

  pub tick_either : After (tick_of s.node s.table) → P (step tick s).node (step tick s).table
  unfolding step left no_reply tick_stored
  tick_either h = split (store_ok s.store) (λ e. rw e h) (λ e. rw e same)

  pub send_either : (reply : List ℕ) → After (send_of s.node s.table reply) → P (step (send reply) s).node (step (send reply) s).table
  unfolding step left no_reply send_stored
  send_either reply h = split (store_ok s.store) (λ e. rw e h) (λ e. rw e same)

  pub close_either : (place : ℕ) → After (close_of s.node s.table place) → P (step (close place) s).node (step (close place) s).table
  unfolding step left no_reply close_stored
  close_either place h = split (store_ok s.store) (λ e. rw e h) (λ e. rw e same)

module _ (s : State) (k : Kept s) where
  pub tick_is : step tick s ≡ left (stored (tick_of s.node s.table) (aged s.store))
  unfolding step
  tick_is = rw (tick_keeping s.node s.table s.store k)

  pub send_is : (reply : List ℕ) → step (send reply) s ≡ left_beside s (send_of s.node s.table reply)
  unfolding step
  send_is reply = rw (send_sound s.node s.table s.store (kept_store s k) reply)

  pub close_is : (place : ℕ) → step (close place) s ≡ left_beside s (close_of s.node s.table place)
  unfolding step
  close_is place = rw (close_sound s.node s.table s.store (kept_store s k) place)

-- ---- every call of a run keeps the rules
-- the line of a place changes nothing
pub line_step : (place : ℕ) (reply : List ℕ) (s : State) → step (line place reply) s ≡ s
unfolding step left LineLeaves
line_step place reply s = let e = calls_keep.line s.node s.table s.store place reply in rw (e.0, e.1)

kept_as : (s r : State) → s ≡ r → Kept r → Kept s
kept_as s r e k = rw e k

pub step_keeps : (e : Event) (s : State) → of_octets e ≡ true → Kept s → Kept (step e s)
unfolding step left of_octets
step_keeps (control d reply) s o k = control_stored_keeps s.node s.table s.store k d reply o
step_keeps (user d reply) s o k = k
step_keeps (down packet out) s o k = k
step_keeps tick s o k = tick_stored_keeps s.node s.table s.store k
step_keeps (send reply) s o k = send_stored_keeps s.node s.table s.store k reply
step_keeps (close place) s o k = close_stored_keeps s.node s.table s.store k place
step_keeps (line place reply) s o k = kept_as (step (line place reply) s) s (line_step place reply s) k

pub run-keeps : (es : List Event) (s : State) → every of_octets es ≡ true → Kept s → Kept (run es s)
unfolding run every
run-keeps [] s o k = k
run-keeps (e ∷ es) s o k =
    run-keeps es (step e s) (and_right (of_octets e) (every of_octets es) o) (step_keeps e s (and_left (of_octets e) (every of_octets es) o) k)
