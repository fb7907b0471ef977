-- Downlink packets, on any table that keeps its rules, so after any run: written for a live session alone, to that session's peer; every whole
-- packet to the address of such a session is written, if the output buffer has room; and what is written, read by the unit's own header rules,
-- is the peer's number and the packet.
-- Assumes nothing.
use Rattle.std.specs.Prelude.{ℕ, ◌+◌, ◌<◌, ◌≤◌, false, List, ◌≡◌, length, take, drop}
use Rattle.std.proofs.Math.Bool.{true}
use Rattle.base_octets.specs.Every.{every}
use Rattle.base_octets.specs.BigEndian.{is_octet}
use Rattle.wire_messages.specs.Messages.{gpdu_of}
use Rattle.wire_packet.specs.Packet.{whole_packet, destination_of, Whole}
use Rattle.wire_user.specs.Header.{type_of, user_teid_of}
use Rattle.wire_user.specs.User.{user_of}
use Rattle.unit_tunnel.specs.Numbering.{places, teids}
use Rattle.unit_plan.specs.declared.Plan.{Plan}
use Rattle.unit_plan.specs.Address.{address_of}
use Rattle.unit_session.specs.Session.{is_free}
use Rattle.call_down.specs.Down.{Output, unwritten, written_to}
use Rattle.call_store.specs.Stored.{State, down_stored}
use Rattle.promise_demands.specs.Run.{Event, run, Kept, Run}
use Rattle.promise_demands.specs.Bounds.{at}

-- what comes back for a packet
abbrev pub lowered : State → List ℕ → List ℕ → Output
lowered s packet out = down_stored s.node s.table s.store packet out

-- ---- read back by the header rules alone: a G-PDU that is not refused, with this number (a number has 32 bits), and what lies past its header is
-- the packet, octet by octet
pub record ReadBack (d : List ℕ) (teid : ℕ) (packet : List ℕ) : Type 0 where
  pub taken : (user_of d).number ≡ 0
  pub type : type_of d ≡ 255
  pub number : teid < teids → user_teid_of d ≡ teid
  pub payload : drop (user_of d).size d ≡ packet

-- ---- written: the place is live or closing and has the packet's destination address, the packet is a whole one; in front of the output buffer
-- lies the G-PDU with the number of that session's peer, and the peer's address comes back
pub record WrittenDown (s : State) (packet : List ℕ) (o : Output) : Type 0 where
  pub place : o.written.place < places
  pub live : is_free (at s o.written.place) ≡ false
  pub address : address_of s.node.plan.pool o.written.place ≡ destination_of packet
  pub whole : Whole packet
  pub peer : o.written.peer ≡ (at s o.written.place).useraddr
  pub size : o.written.size ≡ length packet + 8
  pub octets : take o.written.size o.buffer ≡ gpdu_of (at s o.written.place).user packet
  pub back : every is_octet packet ≡ true → ReadBack (take o.written.size o.buffer) (at s o.written.place).user packet

-- ---- each number has its ground
pub record Grounds (s : State) (packet out : List ℕ) (o : Output) : Type 0 where
  pub written : o.written.number ≡ 0 → WrittenDown s packet o
  pub unfit : o.written.number ≡ 18 → whole_packet packet ≡ false
  pub nobodys : o.written.number ≡ 19 → (i : ℕ) → i < places → address_of s.node.plan.pool i ≡ destination_of packet → is_free (at s i) ≡ true
  pub short : o.written.number ≡ 20 → length out < length packet + 8

-- ---- all that is said of a table: what is not a whole packet is never written, and a whole one to a live place is, if there is room
pub record Downlink (s : State) : Type 0 where
  pub grounds : (packet out : List ℕ) → Grounds s packet out (lowered s packet out)
  pub refused : (packet out : List ℕ) → whole_packet packet ≡ false → lowered s packet out ≡ unwritten 18 out
  pub all : (i : ℕ) → i < places → is_free (at s i) ≡ false → (packet out : List ℕ) → whole_packet packet ≡ true
      → address_of s.node.plan.pool i ≡ destination_of packet → length packet + 8 ≤ length out → lowered s packet out ≡ written_to i (at s i) packet out

pub record DownlinkWhole : Type 0 where
  pub kept : (s : State) → Kept s → Downlink s
  pub runs : (p : Plan) (s : State) (es : List Event) → Run p s es → Downlink (run es s)
