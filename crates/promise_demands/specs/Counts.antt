-- Any other count of lent records than there are places, or of lent rows than the store has: what the calls answer, and that the records, the
-- rows, the node and the reply buffer are as lent. Of fresh the node is the one that a refused plan leaves.
-- Assumes nothing.
use Rattle.std.specs.Prelude.{ℕ, List, [], ◌≡◌, length}
use Rattle.unit_tunnel.specs.Numbering.{places}
use Rattle.unit_plan.specs.declared.Plan.{Plan}
use Rattle.unit_plan.specs.Limits.{no_plan}
use Rattle.unit_session.specs.declared.Session.{Session}
use Rattle.unit_table.specs.declared.Node.{Node}
use Rattle.unit_table.specs.Own.{fresh_node}
use Rattle.unit_store.specs.Row.{store_rows}
use Rattle.call_own.specs.Outcome.{no_reply}
use Rattle.call_user.specs.User.{silent}
use Rattle.call_down.specs.Down.{unwritten}
use Rattle.call_own.specs.Others.{uncounted}
use Rattle.call_store.specs.Stored.{stored, close_stored, send_stored, line_stored, user_stored, down_stored, fresh_stored, tick_stored, control_stored}

-- not both as many as they are to be
abbrev pub Other : List Session → List (List ℕ) → Type 0
Other l w = length l ≡ places → length w ≡ store_rows → ⊥

pub record OthersRefused : Type 0 where
  pub fresh : (plan : Plan) (l : List Session) (w : List (List ℕ)) → Other l w → fresh_stored plan l w ≡ stored (no_reply 2 (fresh_node no_plan) l []) w
  pub tick : (node : Node) (l : List Session) (w : List (List ℕ)) → Other l w → tick_stored node l w ≡ stored (no_reply 2 node l []) w
  pub close : (node : Node) (l : List Session) (w : List (List ℕ)) (place : ℕ) → Other l w → close_stored node l w place ≡ no_reply 2 node l []
  pub send : (node : Node) (l : List Session) (w : List (List ℕ)) (reply : List ℕ) → Other l w
      → send_stored node l w reply ≡ no_reply (uncounted (length reply)) node l reply
  pub control : (node : Node) (l : List Session) (w : List (List ℕ)) (d reply : List ℕ) → Other l w
      → control_stored node l w d reply ≡ stored (no_reply (uncounted (length reply)) node l reply) w
  pub line : (node : Node) (l : List Session) (w : List (List ℕ)) (place : ℕ) (reply : List ℕ) → Other l w
      → line_stored node l w place reply ≡ no_reply (uncounted (length reply)) node l reply
  pub user : (node : Node) (l : List Session) (w : List (List ℕ)) (d reply : List ℕ) → Other l w
      → user_stored node l w d reply ≡ silent (uncounted (length reply)) (length d) reply
  pub down : (node : Node) (l : List Session) (w : List (List ℕ)) (packet out : List ℕ) → Other l w → down_stored node l w packet out ≡ unwritten 2 out
