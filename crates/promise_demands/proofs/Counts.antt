-- That what specs/Counts.antt says holds, and what that rests on.
-- Assumes nothing.
use Rattle.std.specs.Prelude.{ℕ, false, List, [], ◌≡◌, refl, length, eqb}
use Rattle.std.proofs.Common.{◌∙◌, ap, ne_eqb, eqb-true}
use Rattle.base_octets.specs.Choice.{split}
use Rattle.unit_tunnel.specs.Numbering.{places}
use Rattle.unit_plan.specs.declared.Plan.{Plan}
use Rattle.unit_plan.specs.Limits.{no_plan}
use Rattle.unit_session.specs.declared.Session.{Session}
use Rattle.unit_table.specs.declared.Node.{Node}
use Rattle.unit_table.specs.Own.{fresh_node}
use Rattle.unit_store.specs.Row.{store_rows}
use Rattle.unit_store.specs.Store.{store_ok}
use Rattle.call_own.specs.Outcome.{no_reply}
use Rattle.call_own.specs.Calls.{fresh_of}
use Rattle.call_user.specs.User.{silent}
use Rattle.call_own.specs.Others.{uncounted, rules_other}
use Rattle.call_store.specs.Stored.{stored, keeps, broken_number, fresh_stored}
use Rattle.call_store.specs.Laws.{broken_table, broken_store, close_broken, send_broken, line_broken, user_broken, down_shut, tick_broken, control_broken}
use Rattle.promise_demands.specs.Counts.{Other, OthersRefused}

-- another count breaks a rule
rows_other : (w : List (List ℕ)) → eqb (length w) store_rows ≡ false → store_ok w ≡ false
unfolding store_ok
rows_other w e = rw e

breaks : (node : Node) (l : List Session) (w : List (List ℕ)) → Other l w → keeps node l w ≡ false
breaks node l w n =
    split (eqb (length l) places)
    (λ e. broken_store node l w (rows_other w (ne_eqb (length w) store_rows (n (eqb-true (length l) places e)))))
    (λ e. broken_table node l w (rules_other node l e))

-- the number is the same for both
pub broken_is : (reply : List ℕ) → broken_number reply ≡ uncounted (length reply)
unfolding broken_number uncounted
broken_is reply = refl

fresh_other : (plan : Plan) (l : List Session) (w : List (List ℕ)) → Other l w → fresh_stored plan l w ≡ stored (no_reply 2 (fresh_node no_plan) l []) w
unfolding fresh_stored fresh_of
fresh_other plan l w n =
    split (eqb (length w) store_rows)
    (λ e. rw (e, ne_eqb (length l) places (λ f. n f (eqb-true (length w) store_rows e))))
    (λ e. rw e)

pub others_refused : OthersRefused
others_refused = record {
  fresh = fresh_other;
  tick = λ node l w n. tick_broken node l w (breaks node l w n);
  close = λ node l w place n. close_broken node l w (breaks node l w n) place;
  send = λ node l w reply n. send_broken node l w (breaks node l w n) reply ∙ ap (λ (m : ℕ). no_reply m node l reply) (broken_is reply);
  control = λ node l w d reply n. control_broken node l w d reply (breaks node l w n) ∙ ap (λ (m : ℕ). stored (no_reply m node l reply) w) (broken_is reply);
  line = λ node l w place reply n. line_broken node l w (breaks node l w n) place reply ∙ ap (λ (m : ℕ). no_reply m node l reply) (broken_is reply);
  user = λ node l w d reply n. user_broken node l w (breaks node l w n) d reply ∙ ap (λ (m : ℕ). silent m (length d) reply) (broken_is reply);
  down = λ node l w packet out n. down_shut node l w (breaks node l w n) packet out;
}
