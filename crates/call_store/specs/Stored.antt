-- The calls with the store of kept replies, which counts as table: each is one definition that fixes what document 01's call comes to on a
-- table with its store, and what the store holds then. Refusals stand in document 01's order; 2 comes for a broken rule of the store as for
-- one of the table.
-- Assumes nothing.
use Rattle.std.specs.Prelude.{ℕ, Bool, ◌&&◌, ◌||◌, List, [], length, get_or, replicate, eqb, ltb}
use Rattle.base_octets.specs.Number.{taken, reply_short, rules_broken}
use Rattle.base_octets.specs.Choice.{pick}
use Rattle.base_octets.specs.Search.{first_of}
use Rattle.wire_messages.specs.Types.{modify_type, delete_type}
use Rattle.wire_header.specs.Header.{kind_of, sequence_of, teid_of}
use Rattle.wire_header.specs.Gate.{gate_of}
use Rattle.unit_tunnel.specs.Numbering.{places}
use Rattle.unit_plan.specs.declared.Plan.{Plan}
use Rattle.unit_plan.specs.Limits.{no_plan}
use Rattle.unit_session.specs.declared.Session.{Session}
use Rattle.unit_table.specs.declared.Node.{Node}
use Rattle.unit_table.specs.Rules.{keeps_rules}
use Rattle.unit_table.specs.Own.{fresh_node}
use Rattle.unit_store.specs.Row.{store_rows, number_in, octets_in, head_of, three_of, holds, blank_row, row_of}
use Rattle.unit_store.specs.Store.{store_ok, pushed, aged, emptied}
use Rattle.call_own.specs.Outcome.{Outcome, least_reply, no_reply, replied}
use Rattle.call_own.specs.Calls.{fresh_held, fresh_of, tick_of, close_of, send_of}
use Rattle.call_user.specs.User.{Took, silent, user_taken}
use Rattle.call_down.specs.Down.{Output, unwritten, down_taken}
use Rattle.call_line.specs.Line.{line_of}
use Rattle.call_asked.specs.Asked.{asked_of}
use Rattle.call_control.specs.Control.{restarts_in, asked_taken}

-- what the caller holds between two calls: the records and the kept replies, and what goes with them
pub record State : Type 0 where
  pub node : Node
  pub table : List Session
  pub store : List (List ℕ)

-- what a call comes to, with the store as it is left
pub record Stored : Type 0 where
  pub call : Outcome
  pub store : List (List ℕ)

abbrev pub stored : Outcome → List (List ℕ) → Stored
stored o w = record { call = o; store = w }

-- ---- the rules: those of the table and those of the store
unfoldable pub keeps : Node → List Session → List (List ℕ) → Bool
keeps node t w = keeps_rules node t && store_ok w

-- where one is broken: 2, with a reply buffer 1 first
unfoldable pub broken_number : List ℕ → ℕ
broken_number reply = pick {A = ℕ} (ltb (length reply) least_reply) reply_short rules_broken

-- ---- the calls that only read the store
unfoldable pub close_stored : Node → List Session → List (List ℕ) → ℕ → Outcome
close_stored node t w i = pick (store_ok w) (close_of node t i) (no_reply rules_broken node t [])

unfoldable pub send_stored : Node → List Session → List (List ℕ) → List ℕ → Outcome
send_stored node t w reply = pick (store_ok w) (send_of node t reply) (no_reply (broken_number reply) node t reply)

unfoldable pub line_stored : Node → List Session → List (List ℕ) → ℕ → List ℕ → Outcome
line_stored node t w i reply = pick (store_ok w) (line_of node t i reply) (no_reply (broken_number reply) node t reply)

unfoldable pub user_stored : Node → List Session → List (List ℕ) → List ℕ → List ℕ → Took
user_stored node t w d reply = pick (store_ok w) (user_taken node t d reply) (silent (broken_number reply) (length d) reply)

unfoldable pub down_stored : Node → List Session → List (List ℕ) → List ℕ → List ℕ → Output
down_stored node t w packet out = pick (store_ok w) (down_taken node t packet out) (unwritten rules_broken out)

-- ---- fresh: the store is empty; another count of rows is refused as another count of records is, and both stay as they were
unfoldable pub empty_store : List (List ℕ)
empty_store = replicate store_rows blank_row

-- the state under a plan
unfoldable pub fresh_state : Plan → State
fresh_state p = record { node = (fresh_held p).node; table = (fresh_held p).table; store = empty_store }

unfoldable pub fresh_stored : Plan → List Session → List (List ℕ) → Stored
fresh_stored p t w =
    pick (eqb (length w) store_rows) (stored (fresh_of p t) (pick (eqb (length t) places) empty_store w))
    (stored (no_reply rules_broken (fresh_node no_plan) t []) w)

-- ---- tick: it takes one from the life of each kept reply
unfoldable pub tick_stored : Node → List Session → List (List ℕ) → Stored
tick_stored node t w =
    pick (store_ok w) (stored (tick_of node t) (pick (keeps_rules node t) (aged w) w))
    (stored (no_reply rules_broken node t []) w)

-- ---- take control datagram
-- who asks the store: a Modify or a Delete, once it has passed the header's refusals, of which 8 (TEID) is the last
unfoldable pub asks_store : List ℕ → Bool
asks_store d = eqb (gate_of d) taken && (eqb (kind_of d) modify_type || eqb (kind_of d) delete_type)

-- what for: its type, sequence number and header TEID
unfoldable pub head_asked : List ℕ → ℕ
head_asked d = head_of (kind_of d) (sequence_of d)

unfoldable pub three_asked : List ℕ → ℕ
three_asked d = three_of (head_asked d) (teid_of d)

-- the place of the kept reply; past the last where there is none
unfoldable pub kept_place : List ℕ → List (List ℕ) → ℕ
kept_place d w = first_of (holds (three_asked d)) w

unfoldable pub is_kept : List ℕ → List (List ℕ) → Bool
is_kept d w = asks_store d && ltb (kept_place d w) (length w)

abbrev pub kept_for : List ℕ → List (List ℕ) → List ℕ
kept_for d w = get_or w (kept_place d w) []

-- the store after a datagram that it did not answer: the reply to a Modify or a Delete is kept, whatever its number; a Recovery that frees
-- everything empties it
unfoldable pub store_after : Node → List ℕ → Outcome → List (List ℕ) → List (List ℕ)
store_after node d o w =
    pick (asks_store d) (pushed (row_of (head_asked d) (teid_of d) o.answer.number o.answer.size o.reply) w)
    (pick (restarts_in (asked_of node d) node) (emptied w) w)

-- a request that was answered before gets the kept octets with their number, and nothing changes
unfoldable pub taken_stored : Node → List Session → List (List ℕ) → List ℕ → List ℕ → Stored
taken_stored node t w d reply =
    pick (is_kept d w) (stored (replied (number_in (kept_for d w)) node t (octets_in (kept_for d w)) reply) w)
    (stored (asked_taken node t (asked_of node d) reply) (store_after node d (asked_taken node t (asked_of node d) reply) w))

unfoldable pub control_stored : Node → List Session → List (List ℕ) → List ℕ → List ℕ → Stored
control_stored node t w d reply =
    pick (ltb (length reply) least_reply) (stored (no_reply reply_short node t reply) w)
    (pick (keeps node t w) (taken_stored node t w d reply)
    (stored (no_reply rules_broken node t reply) w))
