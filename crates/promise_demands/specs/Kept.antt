-- Every call keeps the rules, of the table and of the store: what kept them before the call keeps them after it, whatever is asked and whatever
-- is answered. Line of a place changes nothing at all. Take user datagram and take downlink packet have no statement here, since they give no
-- table back: what was lent is what stays.
-- Assumes nothing.
use Rattle.std.specs.Prelude.{ℕ, true, List, ◌≡◌, length}
use Rattle.unit_session.specs.declared.Session.{Session}
use Rattle.base_octets.specs.Every.{every}
use Rattle.base_octets.specs.BigEndian.{is_octet}
use Rattle.unit_tunnel.specs.Numbering.{places}
use Rattle.unit_plan.specs.declared.Plan.{Plan}
use Rattle.unit_plan.specs.Plan.{accepted}
use Rattle.unit_table.specs.declared.Node.{Node}
use Rattle.unit_store.specs.Row.{store_rows}
use Rattle.call_store.specs.Stored.{Stored, stored, keeps, close_stored, send_stored, line_stored, fresh_stored, tick_stored, control_stored}

-- a node with its table and its store keeps the rules; the same of what a call comes to
abbrev pub Keeps : Node → List Session → List (List ℕ) → Type 0
Keeps node t w = keeps node t w ≡ true

abbrev pub LeavesKept : Stored → Type 0
LeavesKept o = Keeps o.call.answer.node o.call.table o.store

-- under an accepted plan the unit starts with the rules kept
unfoldable pub FreshKeeps : Type 0
FreshKeeps = (plan : Plan) (t : List Session) (w : List (List ℕ)) → length t ≡ places → length w ≡ store_rows → accepted plan ≡ true → LeavesKept (fresh_stored plan t w)

unfoldable pub TickKeeps : Type 0
TickKeeps = (node : Node) (t : List Session) (w : List (List ℕ)) → Keeps node t w → LeavesKept (tick_stored node t w)

unfoldable pub CloseKeeps : Type 0
CloseKeeps = (node : Node) (t : List Session) (w : List (List ℕ)) (place : ℕ) → Keeps node t w → LeavesKept (stored (close_stored node t w place) w)

unfoldable pub SendKeeps : Type 0
SendKeeps = (node : Node) (t : List Session) (w : List (List ℕ)) (reply : List ℕ) → Keeps node t w → LeavesKept (stored (send_stored node t w reply) w)

unfoldable pub ControlKeeps : Type 0
ControlKeeps = (node : Node) (t : List Session) (w : List (List ℕ)) (d reply : List ℕ) → every is_octet d ≡ true → Keeps node t w → LeavesKept (control_stored node t w d reply)

unfoldable pub LineLeaves : Type 0
LineLeaves = (node : Node) (t : List Session) (w : List (List ℕ)) (place : ℕ) (reply : List ℕ)
    → ((line_stored node t w place reply).answer.node ≡ node) × ((line_stored node t w place reply).table ≡ t)

-- all of them
pub record CallsKeep : Type 0 where
  pub fresh : FreshKeeps
  pub tick : TickKeeps
  pub close : CloseKeeps
  pub send : SendKeeps
  pub control : ControlKeeps
  pub line : LineLeaves
