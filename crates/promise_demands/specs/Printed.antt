-- The line of a place is never cut: on a table that keeps its rules it is printed whole, and its length is the answer's.
-- Assumes nothing.
use Rattle.std.specs.Prelude.{ℕ, ◌<◌, ◌≤◌, List, ◌≡◌, length}
use Rattle.base_octets.specs.Overlay.{overlay}
use Rattle.unit_tunnel.specs.Numbering.{places, teids}
use Rattle.call_own.specs.Outcome.{outcome, least_reply, no_places}
use Rattle.call_line.specs.Line.{line_text}
use Rattle.call_store.specs.Stored.{State, line_stored}
use Rattle.promise_demands.specs.Run.{Kept}
use Rattle.promise_demands.specs.Bounds.{at}

-- the peer's TEIDs are numbers of 32 bits, as their type has it
unfoldable pub LinesWhole : Type 0
LinesWhole = (s : State) → Kept s → (i : ℕ) → i < places → (at s i).control < teids → (at s i).user < teids
    → (reply : List ℕ) → least_reply ≤ length reply
    → line_stored s.node s.table s.store i reply
    ≡ outcome (record { number = 0; size = length (line_text i (at s i)); node = s.node; span = no_places }) s.table (overlay (line_text i (at s i)) reply)
