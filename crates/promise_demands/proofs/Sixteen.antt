-- That what specs/Sixteen.antt says holds, and what that rests on.
-- Assumes nothing.
use Rattle.std.specs.Prelude.{ℕ, false, ◌≢◌, ◌≡◌, length, eqb}
use mathlib.Core.List.{List, [], ◌∷◌}
use Rattle.std.proofs.Math.Path.{refl, ap}
use Rattle.std.proofs.Common.{◌∙◌, eq-eqb}
use Rattle.base_octets.specs.Choice.{split}
use Rattle.unit_tunnel.specs.Numbering.{places}
use Rattle.unit_plan.specs.declared.Plan.{Plan}
use Rattle.unit_plan.specs.Plan.{accepted, no_plan_refused}
use Rattle.unit_session.specs.declared.Session.{Session}
use Rattle.unit_table.specs.Rules.{keeps_rules}
use Rattle.unit_table.specs.Own.{fresh_node}
use Rattle.unit_store.specs.Row.{store_rows}
use Rattle.call_own.specs.Outcome.{Outcome, least_reply, no_reply}
use Rattle.call_own.specs.Calls.{fresh_answer, fresh_of}
use Rattle.call_user.specs.User.{Took}
use Rattle.call_down.specs.Down.{Output}
use Rattle.call_own.specs.Others.{uncounted}
use Rattle.call_store.specs.Stored.{State, Stored, stored, keeps, broken_number, close_stored, send_stored, line_stored, fresh_stored, tick_stored, control_stored}
use Rattle.call_store.specs.Laws.{broken_table, close_broken, send_broken, line_broken, user_broken, down_shut, tick_broken, control_broken}
use Rattle.promise_demands.specs.Run.{left, Event, control, user, down, tick, send, close, line, step, answered, run, left_beside}
use Rattle.promise_demands.specs.Sixteen.{room, RefusesAll, SixteenThenTwo}

-- ---- laws
module _ (s : State) (broken : keeps s.node s.table s.store ≡ false) where
  as_lent : (o : Stored) (n : ℕ) (reply : List ℕ) → o ≡ stored (no_reply n s.node s.table reply) s.store → (left o ≡ s) × (o.call.answer.number ≡ n)
  unfolding left no_reply
  as_lent o n reply e = (ap left e, ap (λ (x : Stored). x.call.answer.number) e)

  beside : (o : Outcome) (n : ℕ) (reply : List ℕ) → o ≡ no_reply n s.node s.table reply → (left_beside s o ≡ s) × (o.answer.number ≡ n)
  unfolding left no_reply
  beside o n reply e = (ap (left_beside s) e, ap (λ (x : Outcome). x.answer.number) e)

  call : (e : Event) → (step e s ≡ s) × (answered e s ≡ uncounted (room e))
  unfolding step answered room uncounted least_reply broken_number
  call (control d reply) = as_lent (control_stored s.node s.table s.store d reply) (broken_number reply) reply (control_broken s.node s.table s.store d reply broken)
  call (user d reply) = (refl, ap (λ (o : Took). o.number) (user_broken s.node s.table s.store broken d reply))
  call (down packet out) = (refl, ap (λ (o : Output). o.written.number) (down_shut s.node s.table s.store broken packet out))
  call tick = as_lent (tick_stored s.node s.table s.store) 2 [] (tick_broken s.node s.table s.store broken)
  call (send reply) = beside (send_stored s.node s.table s.store reply) (broken_number reply) reply (send_broken s.node s.table s.store broken reply)
  call (close place) = beside (close_stored s.node s.table s.store place) 2 [] (close_broken s.node s.table s.store broken place)
  call (line place reply) = beside (line_stored s.node s.table s.store place reply) (broken_number reply) reply (line_broken s.node s.table s.store broken place reply)

  calls : (es : List Event) → run es s ≡ s
  unfolding run
  calls [] = refl
  calls (e ∷ es) = ap (λ (x : State). run es x) (call e).0 ∙ calls es

  refuses_all : RefusesAll s
  refuses_all = record { stays = calls; two = λ es e. rw (calls es) (call e).1 }

no_points : (plan : Plan) (t : List Session) (w : List (List ℕ)) → (fresh_stored plan t w).call.answer.number ≢ 0
    → keeps_rules (left (fresh_stored plan t w)).node (left (fresh_stored plan t w)).table ≡ false
unfolding left fresh_stored fresh_of fresh_answer fresh_node keeps_rules no_reply
no_points plan t w n =
    split (eqb (length w) store_rows)
    (λ s. split (eqb (length t) places)
    (λ e. split (accepted plan) (λ a. absurd ((rw (s, e, a) at n) refl)) (λ a. rw (s, e, a, no_plan_refused)))
    (λ e. rw (s, e, no_plan_refused)))
    (λ s. rw (s, no_plan_refused))

pub sixteen_then_two : SixteenThenTwo
unfolding fresh_stored fresh_of fresh_answer
sixteen_then_two = record {
  sixteen = λ plan t w n m a. rw (eq-eqb (length w) store_rows m, eq-eqb (length t) places n, a);
  later = λ plan t w n. let o = left (fresh_stored plan t w) in refuses_all o (broken_table o.node o.table o.store (no_points plan t w n));
}
