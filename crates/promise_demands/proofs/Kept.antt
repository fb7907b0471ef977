-- That what specs/Kept.antt says holds, and what that rests on.
-- Assumes nothing.
use Rattle.std.specs.Prelude.{ℕ, List, [], ◌≡◌, refl, length, ltb}
use Rattle.std.proofs.Common.{eq-eqb}
use Rattle.unit_session.specs.declared.Session.{Session}
use Rattle.base_octets.specs.Choice.{split}
use Rattle.unit_tunnel.specs.Numbering.{places}
use Rattle.unit_plan.specs.declared.Plan.{Plan}
use Rattle.unit_table.specs.Rules.{keeps_rules}
use Rattle.unit_store.specs.Row.{store_rows}
use Rattle.unit_store.specs.Store.{store_ok}
use Rattle.call_own.specs.Outcome.{least_reply, outcome, no_reply}
use Rattle.call_own.specs.Calls.{fresh_answer, fresh_held}
use Rattle.call_own.specs.Kept.{fresh_leaves}
use Rattle.call_line.specs.Line.{line_by, line_of}
use Rattle.call_store.specs.Stored.{stored, line_stored, empty_store, fresh_state, fresh_stored}
use Rattle.call_store.specs.Laws.{fresh_counted}
use Rattle.call_store.specs.Kept.{close_stored_keeps, send_stored_keeps, tick_stored_keeps, control_stored_keeps, fresh_stored_keeps}
use Rattle.promise_demands.specs.Kept.{FreshKeeps, TickKeeps, CloseKeeps, SendKeeps, ControlKeeps, LineLeaves, CallsKeep}

line_leaves : LineLeaves
unfolding LineLeaves line_stored line_of line_by no_reply
line_leaves node t w place reply =
    split (store_ok w)
    (λ s. split (ltb (length reply) least_reply) (λ a. rw (s, a) (refl, refl))
    (λ a. split (keeps_rules node t)
    (λ b. split (ltb place (length t)) (λ c. rw (s, a, b, c) (refl, refl)) (λ c. rw (s, a, b, c) (refl, refl)))
    (λ b. rw (s, a, b) (refl, refl))))
    (λ s. rw s (refl, refl))

-- what fresh leaves, on as many records and rows as there are to be
pub fresh_comes_to : (plan : Plan) (t : List Session) (w : List (List ℕ)) → length t ≡ places → length w ≡ store_rows
    → fresh_stored plan t w ≡ stored (outcome (fresh_answer plan) (fresh_held plan).table []) empty_store
fresh_comes_to plan t w n m = rw (fresh_counted plan t w m, fresh_leaves plan t n, eq-eqb (length t) places n)

pub calls_keep : CallsKeep
unfolding fresh_state fresh_held FreshKeeps TickKeeps CloseKeeps SendKeeps ControlKeeps
calls_keep = record {
  fresh = λ plan t w n m a. rw (fresh_comes_to plan t w n m) (fresh_stored_keeps plan a);
  tick = tick_stored_keeps;
  close = λ node t w place e. close_stored_keeps node t w e place;
  send = λ node t w reply e. send_stored_keeps node t w e reply;
  control = λ node t w d reply o e. control_stored_keeps node t w e d reply o;
  line = line_leaves;
}
