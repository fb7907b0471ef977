-- What the lists of numbers come to: on a table that keeps its rules neither 2 nor 11 comes; on one that breaks them 2 comes and nothing
-- else is done, unless the reply buffer is short, which is 1 and is asked first. The store counts as table: its rules are among them.
-- Assumes nothing.
use Rattle.std.specs.Prelude.{ℕ, ◌<◌, ◌≤◌, true, false, List, [], ◌≡◌, length}
use Rattle.unit_session.specs.declared.Session.{Session}
use Rattle.unit_tunnel.specs.Numbering.{places}
use Rattle.unit_plan.specs.declared.Plan.{Plan}
use Rattle.unit_table.specs.declared.Node.{Node}
use Rattle.unit_store.specs.Row.{store_rows}
use Rattle.call_own.specs.Outcome.{least_reply, no_reply}
use Rattle.call_user.specs.User.{silent}
use Rattle.call_down.specs.Down.{unwritten}
use Rattle.call_store.specs.Stored.{stored, keeps, close_stored, send_stored, line_stored, user_stored, down_stored, fresh_stored, tick_stored, control_stored}
use Rattle.promise_demands.specs.Numbers.{FreshNumbers, TickNumbers, CloseNumbers, SendNumbers, ControlNumbers, LineNumbers}
use Rattle.promise_demands.specs.UserNumbers.{UserNumbers, DownNumbers}

abbrev pub Kept : Node → List Session → List (List ℕ) → Type 0
Kept node t w = keeps node t w ≡ true

-- a rule of the table or one of the store
abbrev pub Broken : Node → List Session → List (List ℕ) → Type 0
Broken node t w = keeps node t w ≡ false

-- ---- each call answers a number of its list
pub record NumbersKnown : Type 0 where
  pub fresh : FreshNumbers
  pub tick : TickNumbers
  pub close : CloseNumbers
  pub send : SendNumbers
  pub control : ControlNumbers
  pub line : LineNumbers
  pub user : UserNumbers
  pub down : DownNumbers

-- ---- 11, "admitted, no free place": no datagram brings it about
unfoldable pub NoEleven : Type 0
NoEleven = (node : Node) (t : List Session) (w : List (List ℕ)) (d reply : List ℕ) → Kept node t w → (control_stored node t w d reply).call.answer.number ≡ 11 → ⊥

-- ---- 2, "table breaks its rules": never on a table that keeps them; fresh has no table to be broken, but a count of records and one of rows
pub record TwoNever : Type 0 where
  pub fresh : (plan : Plan) (t : List Session) (w : List (List ℕ)) → length t ≡ places → length w ≡ store_rows
      → (fresh_stored plan t w).call.answer.number ≡ 2 → ⊥
  pub tick : (node : Node) (t : List Session) (w : List (List ℕ)) → Kept node t w → (tick_stored node t w).call.answer.number ≡ 2 → ⊥
  pub close : (node : Node) (t : List Session) (w : List (List ℕ)) (place : ℕ) → Kept node t w → (close_stored node t w place).answer.number ≡ 2 → ⊥
  pub send : (node : Node) (t : List Session) (w : List (List ℕ)) (reply : List ℕ) → Kept node t w → (send_stored node t w reply).answer.number ≡ 2 → ⊥
  pub control : (node : Node) (t : List Session) (w : List (List ℕ)) (d reply : List ℕ) → Kept node t w
      → (control_stored node t w d reply).call.answer.number ≡ 2 → ⊥
  pub line : (node : Node) (t : List Session) (w : List (List ℕ)) (place : ℕ) (reply : List ℕ) → Kept node t w
      → (line_stored node t w place reply).answer.number ≡ 2 → ⊥
  pub user : (node : Node) (t : List Session) (w : List (List ℕ)) (d reply : List ℕ) → Kept node t w → (user_stored node t w d reply).number ≡ 2 → ⊥
  pub down : (node : Node) (t : List Session) (w : List (List ℕ)) (packet out : List ℕ) → Kept node t w
      → (down_stored node t w packet out).written.number ≡ 2 → ⊥

-- always on one that breaks them: no reply, the table, the store and the buffer as lent, nothing handed up
pub record TwoAlways : Type 0 where
  pub tick : (node : Node) (t : List Session) (w : List (List ℕ)) → Broken node t w → tick_stored node t w ≡ stored (no_reply 2 node t []) w
  pub close : (node : Node) (t : List Session) (w : List (List ℕ)) (place : ℕ) → Broken node t w → close_stored node t w place ≡ no_reply 2 node t []
  pub send : (node : Node) (t : List Session) (w : List (List ℕ)) (reply : List ℕ) → least_reply ≤ length reply → Broken node t w
      → send_stored node t w reply ≡ no_reply 2 node t reply
  pub control : (node : Node) (t : List Session) (w : List (List ℕ)) (d reply : List ℕ) → least_reply ≤ length reply → Broken node t w
      → control_stored node t w d reply ≡ stored (no_reply 2 node t reply) w
  pub line : (node : Node) (t : List Session) (w : List (List ℕ)) (place : ℕ) (reply : List ℕ) → least_reply ≤ length reply → Broken node t w
      → line_stored node t w place reply ≡ no_reply 2 node t reply
  pub user : (node : Node) (t : List Session) (w : List (List ℕ)) (d reply : List ℕ) → least_reply ≤ length reply → Broken node t w
      → user_stored node t w d reply ≡ silent 2 (length d) reply
  -- which has no reply buffer that could be short
  pub down : (node : Node) (t : List Session) (w : List (List ℕ)) (packet out : List ℕ) → Broken node t w → down_stored node t w packet out ≡ unwritten 2 out

-- a short reply buffer comes before it
pub record OneFirst : Type 0 where
  pub send : (node : Node) (t : List Session) (w : List (List ℕ)) (reply : List ℕ) → length reply < least_reply → send_stored node t w reply ≡ no_reply 1 node t reply
  pub control : (node : Node) (t : List Session) (w : List (List ℕ)) (d reply : List ℕ) → length reply < least_reply
      → control_stored node t w d reply ≡ stored (no_reply 1 node t reply) w
  pub line : (node : Node) (t : List Session) (w : List (List ℕ)) (place : ℕ) (reply : List ℕ) → length reply < least_reply
      → line_stored node t w place reply ≡ no_reply 1 node t reply
  pub user : (node : Node) (t : List Session) (w : List (List ℕ)) (d reply : List ℕ) → length reply < least_reply
      → user_stored node t w d reply ≡ silent 1 (length d) reply
