-- The column "Leaves" of document 01's table of numbers, for each call and each number but 0: what node, records, store and reply buffer hold
-- then. An empty cell is silence: reply length 0, and all as lent. And what the store holds after each call.
-- Assumes nothing.
use Rattle.std.specs.Prelude.{ℕ, ◌≤◌, true, false, List, [], ◌∷◌, ◌≢◌, ◌≡◌, length, replicate}
use Rattle.unit_tunnel.specs.Numbering.{places}
use Rattle.unit_plan.specs.declared.Plan.{Plan}
use Rattle.unit_plan.specs.Limits.{no_plan}
use Rattle.unit_session.specs.declared.Session.{Session}
use Rattle.unit_table.specs.declared.Node.{Node}
use Rattle.unit_table.specs.Change.{nobody}
use Rattle.unit_table.specs.Own.{fresh_node}
use Rattle.unit_store.specs.Row.{number_in, octets_in}
use Rattle.unit_store.specs.Store.{aged}
use Rattle.wire_header.specs.Types.{among}
use Rattle.wire_messages.specs.Messages.{version_not_supported, error_indication}
use Rattle.call_own.specs.Outcome.{Outcome, least_reply, no_reply, replied, all_places, changing}
use Rattle.call_asked.specs.Asked.{asked_of}
use Rattle.call_control.specs.Control.{control_taken}
use Rattle.wire_user.specs.Header.{user_teid_of}
use Rattle.call_user.specs.User as userside
use Rattle.call_down.specs.Down.{unwritten}
use Rattle.call_store.specs.Stored.{Stored, stored, keeps, close_stored, send_stored, line_stored, user_stored, down_stored, empty_store, fresh_stored, tick_stored, is_kept, kept_for, store_after, control_stored}
use Rattle.promise_demands.specs.Comes.{control_silent, ButForPlaces, TableKept, ButForCreate}

-- silence; no place has changed
abbrev pub AllAsLent : Outcome → Node → List Session → List ℕ → Type 0
AllAsLent o node t reply = o ≡ no_reply o.answer.number node t reply

-- of every number but 0
abbrev pub Silent : Outcome → Node → List Session → List ℕ → Type 0
Silent o node t reply = o.answer.number ≢ 0 → AllAsLent o node t reply

-- the same of a call that gives the store back
abbrev pub SilentWith : Stored → Node → List Session → List (List ℕ) → List ℕ → Type 0
SilentWith o node t w reply = o.call.answer.number ≢ 0 → o ≡ stored (no_reply o.call.answer.number node t reply) w

-- take control datagram, by the number of what it comes to: 5 has the eight octets; every number but 0 and 73 has the table kept
pub record ControlLeaves (node : Node) (t : List Session) (w : List (List ℕ)) (d reply : List ℕ) (o : Stored) : Type 0 where
  pub silent : among o.call.answer.number control_silent ≡ true → ButForPlaces o.call (no_reply o.call.answer.number node t reply)
  pub five : o.call.answer.number ≡ 5 → ButForPlaces o.call (replied 5 node t version_not_supported reply)
  pub kept : o.call.answer.number ≢ 0 → o.call.answer.number ≢ 73 → TableKept o.call node t
  pub room : o.call.answer.number ≡ 73 → ButForCreate (asked_of node d) o.call node t
  -- what the store knows: the kept octets with their number, and node, records and store as lent
  pub again : least_reply ≤ length reply → keeps node t w ≡ true → is_kept d w ≡ true
      → o ≡ stored (replied (number_in (kept_for d w)) node t (octets_in (kept_for d w)) reply) w
  -- what it does not: what the datagram asks for, and the store as it is after that
  pub asked : least_reply ≤ length reply → keeps node t w ≡ true → is_kept d w ≡ false
      → o ≡ stored (control_taken node t d reply) (store_after node d (control_taken node t d reply) w)
  -- the numbers with an empty cell, and 5, leave the store
  pub stays : among o.call.answer.number (5 ∷ control_silent) ≡ true → o.store ≡ w

-- every call
pub record Leaves : Type 0 where
  pub control : (node : Node) (t : List Session) (w : List (List ℕ)) (d reply : List ℕ) → ControlLeaves node t w d reply (control_stored node t w d reply)
  -- the table of take user datagram is lent to be read; 15 has the Error Indication, 0 too may have a reply
  pub user : (node : Node) (t : List Session) (w : List (List ℕ)) (d reply : List ℕ) → (user_stored node t w d reply).number ≢ 0
      → (user_stored node t w d reply).number ≢ 15 → user_stored node t w d reply ≡ userside.silent (user_stored node t w d reply).number (length d) reply
  pub not_live : (node : Node) (t : List Session) (w : List (List ℕ)) (d reply : List ℕ) → (user_stored node t w d reply).number ≡ 15
      → user_stored node t w d reply ≡ userside.user_replied 15 (error_indication (user_teid_of d) node.plan.user) (length d) reply
  -- so is the table of take downlink packet; every refusal leaves the output buffer too, and no address comes back
  pub down : (node : Node) (t : List Session) (w : List (List ℕ)) (packet out : List ℕ) → (down_stored node t w packet out).written.number ≢ 0
      → down_stored node t w packet out ≡ unwritten (down_stored node t w packet out).written.number out
  -- a tick that is taken takes one from the life of each kept reply
  pub tick : (node : Node) (t : List Session) (w : List (List ℕ)) → SilentWith (tick_stored node t w) node t w []
  pub ages : (node : Node) (t : List Session) (w : List (List ℕ)) → (tick_stored node t w).call.answer.number ≡ 0 → (tick_stored node t w).store ≡ aged w
  -- these three read the store
  pub close : (node : Node) (t : List Session) (w : List (List ℕ)) (place : ℕ) → Silent (close_stored node t w place) node t []
  pub send : (node : Node) (t : List Session) (w : List (List ℕ)) (reply : List ℕ) → Silent (send_stored node t w reply) node t reply
  pub line : (node : Node) (t : List Session) (w : List (List ℕ)) (place : ℕ) (reply : List ℕ) → Silent (line_stored node t w place reply) node t reply
  -- fresh: a state with no access points; records zero and the store empty after 16, kept after 2; after 0 the store is empty too
  pub sixteen : (plan : Plan) (t : List Session) (w : List (List ℕ)) → (fresh_stored plan t w).call.answer.number ≡ 16
      → fresh_stored plan t w ≡ stored (changing all_places (no_reply 16 (fresh_node no_plan) (replicate places nobody) [])) empty_store
  pub two : (plan : Plan) (t : List Session) (w : List (List ℕ)) → (fresh_stored plan t w).call.answer.number ≡ 2
      → fresh_stored plan t w ≡ stored (no_reply 2 (fresh_node no_plan) t []) w
  pub empty : (plan : Plan) (t : List Session) (w : List (List ℕ)) → (fresh_stored plan t w).call.answer.number ≡ 0 → (fresh_stored plan t w).store ≡ empty_store
