-- A way to compute what `down_taken` says, from the one record of the place that has the destination address. Nothing here is to be
-- believed: the law `one_is` says that it comes to `down_taken`, for every packet and every table.
-- Assumes nothing.
use Rattle.std.specs.Prelude.{ℕ, ◌≤◌, Bool, List, ◌≡◌, length, get_or}
use Rattle.std.proofs.Common.{arith}
use Rattle.base_octets.specs.Number.{rules_broken, packet_unfit, no_session}
use Rattle.base_octets.specs.Choice.{pick, split}
use Rattle.wire_packet.specs.Packet.{whole_packet, destination_of}
use Rattle.unit_plan.specs.Address.{place_of}
use Rattle.unit_tunnel.specs.Numbering.{places}
use Rattle.unit_session.specs.declared.Session.{Session}
use Rattle.unit_session.specs.Session.{is_free}
use Rattle.unit_table.specs.declared.Node.{Node}
use Rattle.unit_table.specs.Change.{nobody}
use Rattle.unit_table.specs.Rules.{keeps_rules, rules_of}
use Rattle.unit_table.specs.Find.{addressee_of, addressee_is}
use Rattle.call_down.specs.Down.{Output, unwritten, down_on, down_to, down_taken}

-- the place that has the packet's destination address
unfoldable pub place_for : Node → List ℕ → ℕ
place_for node packet = place_of node.plan.pool (destination_of packet)

unfoldable pub down_by : Bool → ℕ → Session → List ℕ → List ℕ → Output
down_by kept place s packet out =
    pick kept
    (pick (whole_packet packet) (pick (is_free s) (unwritten no_session out) (down_on place s packet out)) (unwritten packet_unfit out))
    (unwritten rules_broken out)

-- ---- laws
to_is : (node : Node) (l : List Session) (packet out : List ℕ) → length l ≤ places
    → pick (is_free (get_or l (place_for node packet) nobody)) (unwritten no_session out) (down_on (place_for node packet) (get_or l (place_for node packet) nobody) packet out)
    ≡ down_to (addressee_of node.plan.pool (destination_of packet) l) l packet out
unfolding down_to place_for
to_is node l packet out size =
    split (is_free (get_or l (place_of node.plan.pool (destination_of packet)) nobody))
    (λ e. rw (addressee_is node.plan.pool (destination_of packet) l size, e))
    (λ e. rw (addressee_is node.plan.pool (destination_of packet) l size, e))

pub one_is : (node : Node) (l : List Session) (packet out : List ℕ)
    → down_by (keeps_rules node l) (place_for node packet) (get_or l (place_for node packet) nobody) packet out ≡ down_taken node l packet out
unfolding down_by down_taken
one_is node l packet out =
    split (keeps_rules node l)
    (λ e. let q = (rules_of node l e).size in rw (e, to_is node l packet out (omega arith)))
    (λ e. rw e)
