-- That what specs/Leaves.antt says holds, and what that rests on.
-- Assumes nothing.
use Rattle.std.specs.Prelude.{ℕ, List, [], ◌∷◌, ◌≢◌, ◌≡◌, refl, length, get_or, replicate, eqb, ltb}
use Rattle.std.proofs.Common.{◌∙◌, arith}
use Rattle.std.proofs.lemmas.List.{set-get_or}
use Rattle.base_octets.specs.Choice.{split}
use Rattle.base_octets.specs.Every.{every}
use Rattle.base_octets.specs.Overlay.{overlay}
use Rattle.unit_tunnel.specs.Numbering.{places}
use Rattle.unit_plan.specs.declared.Plan.{Plan}
use Rattle.unit_plan.specs.Limits.{no_plan}
use Rattle.unit_plan.specs.Plan.{accepted}
use Rattle.unit_session.specs.declared.Session.{Session}
use Rattle.unit_session.specs.Session.{is_free}
use Rattle.unit_table.specs.declared.Node.{Node}
use Rattle.unit_table.specs.Rules.{keeps_rules}
use Rattle.unit_table.specs.Change.{nobody, changed_at}
use Rattle.unit_table.specs.Own.{fresh_node, due_place}
use Rattle.unit_store.specs.Row.{store_rows}
use Rattle.unit_store.specs.Store.{store_ok, aged}
use Rattle.call_own.specs.Outcome.{bare_on, on_session, least_reply, no_reply, all_places, session_place, changing}
use Rattle.call_own.specs.Calls.{fresh_answer, fresh_of, tick_of, close_on, close_of, echo_sent, place_sent, due_sent, send_of, fresh_held}
use Rattle.call_line.specs.Line.{line_by, line_of}
use Rattle.call_down.specs.Down.{unwritten, down_lowers}
use Rattle.call_store.specs.Stored.{stored, close_stored, send_stored, line_stored, down_stored, empty_store, fresh_stored, tick_stored, control_stored}
use Rattle.call_store.specs.Laws.{control_kept, control_new}
use Rattle.promise_demands.proofs.UserLeaves.{user_stored_takes}
use Rattle.promise_demands.specs.Comes.{control_silent}
use Rattle.promise_demands.proofs.Comes.{apart, not_is, control_comes, store_stays}
use Rattle.promise_demands.specs.Leaves.{Silent, SilentWith, ControlLeaves, Leaves}

-- ---- proofs
comes_leaves : (node : Node) (t : List Session) (w : List (List ℕ)) (d reply : List ℕ) → ControlLeaves node t w d reply (control_stored node t w d reply)
unfolding no_reply overlay control_silent every
comes_leaves node t w d reply =
    let c = control_comes node t w d reply in
    let n = (control_stored node t w d reply).call.answer.number in
    record {
      silent = λ k. let z : n ≢ 0 = not_is n 0 (0 ∷ 73 ∷ []) (apart n control_silent (0 ∷ 73 ∷ []) refl k) refl in
          let y : n ≢ 73 = not_is n 73 (0 ∷ 73 ∷ []) (apart n control_silent (0 ∷ 73 ∷ []) refl k) refl in
          let e = c.kept z y in
          c.over ∙ rw (c.silent k, e.0, e.1);
      five = λ k. let e = c.kept (λ z. omega arith) (λ z. omega arith) in c.over ∙ rw (c.five k, e.0, e.1, k);
      kept = c.kept;
      room = c.room;
      again = control_kept node t w d reply;
      asked = control_new node t w d reply;
      stays = store_stays node t w d reply;
    }

tick_leaves : (node : Node) (t : List Session) (w : List (List ℕ)) → SilentWith (tick_stored node t w) node t w []
unfolding tick_stored tick_of no_reply
tick_leaves node t w n =
    split (store_ok w) (λ s. split (keeps_rules node t) (λ e. absurd ((rw (s, e) at n) refl)) (λ e. rw (s, e))) (λ s. rw s)

tick_ages : (node : Node) (t : List Session) (w : List (List ℕ)) → (tick_stored node t w).call.answer.number ≡ 0 → (tick_stored node t w).store ≡ aged w
unfolding tick_stored tick_of no_reply
tick_ages node t w n =
    split (store_ok w) (λ s. split (keeps_rules node t) (λ e. rw (s, e)) (λ e. let z = rw (s, e) at n in absurd (omega arith)))
    (λ s. let z = rw s at n in absurd (omega arith))

close_leaves : (node : Node) (t : List Session) (w : List (List ℕ)) (place : ℕ) → Silent (close_stored node t w place) node t []
unfolding close_stored close_of on_session session_place close_on bare_on changed_at no_reply overlay
close_leaves node t w place n =
    split (store_ok w)
    (λ s. split (keeps_rules node t)
    (λ e. split (is_free (get_or t place nobody)) (λ f. rw (s, e, f, set-get_or t place nobody)) (λ f. absurd ((rw (s, e, f) at n) refl)))
    (λ e. rw (s, e)))
    (λ s. rw s)

send_leaves : (node : Node) (t : List Session) (w : List (List ℕ)) (reply : List ℕ) → Silent (send_stored node t w reply) node t reply
unfolding send_stored send_of due_sent echo_sent place_sent no_reply
send_leaves node t w reply n =
    split (store_ok w)
    (λ s. split (ltb (length reply) least_reply) (λ a. rw (s, a))
    (λ a. split (keeps_rules node t)
    (λ e. split (eqb node.echo.timer 0) (λ z. absurd ((rw (s, a, e, z) at n) refl))
    (λ z. split (ltb (due_place t) (length t)) (λ d. absurd ((rw (s, a, e, z, d) at n) refl)) (λ d. rw (s, a, e, z, d))))
    (λ e. rw (s, a, e))))
    (λ s. rw s)

line_leaves : (node : Node) (t : List Session) (w : List (List ℕ)) (place : ℕ) (reply : List ℕ) → Silent (line_stored node t w place reply) node t reply
unfolding line_stored line_of line_by no_reply
line_leaves node t w place reply n =
    split (store_ok w)
    (λ s. split (ltb (length reply) least_reply) (λ a. rw (s, a))
    (λ a. split (keeps_rules node t)
    (λ e. split (ltb place (length t)) (λ h. absurd ((rw (s, a, e, h) at n) refl)) (λ h. rw (s, a, e, h)))
    (λ e. rw (s, a, e))))
    (λ s. rw s)

down_leaves : (node : Node) (t : List Session) (w : List (List ℕ)) (packet out : List ℕ) → (down_stored node t w packet out).written.number ≢ 0
    → down_stored node t w packet out ≡ unwritten (down_stored node t w packet out).written.number out
unfolding down_stored
down_leaves node t w packet out n =
    split (store_ok w) (λ s. rw s ((down_lowers node t packet out).silent (rw s at n))) (λ s. rw s)

-- fresh, by whether the counts are right
fresh_leaves : (plan : Plan) (t : List Session) (w : List (List ℕ)) (n : ℕ) → (fresh_stored plan t w).call.answer.number ≡ n
    → (n ≡ 16 → fresh_stored plan t w ≡ stored (changing all_places (no_reply 16 (fresh_node no_plan) (replicate places nobody) [])) empty_store)
    × (n ≡ 2 → fresh_stored plan t w ≡ stored (no_reply 2 (fresh_node no_plan) t []) w)
    × (n ≡ 0 → (fresh_stored plan t w).store ≡ empty_store)
unfolding fresh_stored fresh_of fresh_answer fresh_held no_reply
fresh_leaves plan t w n m =
    split (eqb (length w) store_rows)
    (λ s. split (eqb (length t) places)
    (λ e. split (accepted plan)
    (λ a. let z = rw (s, e, a) at m in rw (s, e, a) ((λ x. absurd (omega arith)), (λ x. absurd (omega arith)), (λ x. refl)))
    (λ a. let z = rw (s, e, a) at m in rw (s, e, a) ((λ x. refl), (λ x. absurd (omega arith)), (λ x. refl))))
    (λ e. let z = rw (s, e) at m in rw (s, e) ((λ x. absurd (omega arith)), (λ x. refl), (λ x. absurd (omega arith)))))
    (λ s. let z = rw s at m in rw s ((λ x. absurd (omega arith)), (λ x. refl), (λ x. absurd (omega arith))))

pub all_leave : Leaves
all_leave = record {
  control = comes_leaves;
  user = λ node t w d reply. (user_stored_takes node t d reply w).silent;
  not_live = λ node t w d reply. (user_stored_takes node t d reply w).dead;
  down = down_leaves;
  tick = tick_leaves;
  ages = tick_ages;
  close = close_leaves;
  send = send_leaves;
  line = line_leaves;
  sixteen = λ plan t w e. (fresh_leaves plan t w 16 e).0 refl;
  two = λ plan t w e. (fresh_leaves plan t w 2 e).1 refl;
  empty = λ plan t w e. (fresh_leaves plan t w 0 e).2 refl;
}
