-- Where a session is, by its place: its peer's control address, and its own address. A host that has sockets and routes asks for them.
-- Assumes nothing.
use Rattle.std.specs.Prelude.{ℕ, List, get_or, ltb}
use Rattle.base_octets.specs.Choice.{pick}
use Rattle.unit_tunnel.specs.Numbering.{places}
use Rattle.unit_plan.specs.Address.{address_of}
use Rattle.unit_session.specs.declared.Session.{Session}
use Rattle.unit_session.specs.Session.{is_free}
use Rattle.unit_table.specs.declared.Node.{Node}
use Rattle.unit_table.specs.Change.{nobody}

-- of a free place 0
unfoldable pub peer_of : Session → ℕ
peer_of s = pick {A = ℕ} (is_free s) 0 s.controladdr

-- a place that there is not reads as free
unfoldable pub peer_at : List Session → ℕ → ℕ
peer_at t place = peer_of (get_or t place nobody)

-- pool base + 1 + place; past the last place 0
unfoldable pub address_at : Node → ℕ → ℕ
address_at node place = pick {A = ℕ} (ltb place places) (address_of node.plan.pool place) 0
