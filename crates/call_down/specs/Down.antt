-- Take downlink packet (document 02, request 1): one definition that fixes number, place, length, peer and output buffer, for any packet
-- and any table. The table is never changed by it.
-- Assumes nothing.
use Rattle.std.specs.Prelude.{ℕ, ◌+◌, ◌<◌, ◌≤◌, true, false, List, [], ◌≢◌, ◌≡◌, refl, length, get_or, ltb, Option, Some, None}
use Rattle.std.proofs.Common.{lt-ltb, le-ltb}
use Rattle.base_octets.specs.Number.{taken, rules_broken, packet_unfit, no_session, output_short}
use Rattle.base_octets.specs.Choice.{pick, split}
use Rattle.base_octets.specs.Overlay.{overlay, length-overlay}
use Rattle.wire_messages.specs.Messages.{gpdu_of}
use Rattle.wire_packet.specs.Packet.{whole_packet, destination_of}
use Rattle.wire_user.specs.Header.{fixed_size}
use Rattle.unit_session.specs.declared.Session.{Session}
use Rattle.unit_table.specs.declared.Node.{Node}
use Rattle.unit_table.specs.Change.{nobody}
use Rattle.unit_table.specs.Rules.{keeps_rules}
use Rattle.unit_table.specs.Find.{addressee_of}
use Rattle.call_down.specs.declared.Written.{Written}

-- what comes back, and the output buffer as it is left
pub record Output : Type 0 where
  pub written : Written
  pub buffer : List ℕ

abbrev pub output : Written → List ℕ → Output
output w out = record { written = w; buffer = out }

-- a number alone: nothing is written, and no address comes back
abbrev pub unwritten : ℕ → List ℕ → Output
unwritten number out = output (record { number = number; place = 0; size = 0; peer = 0 }) out

-- a G-PDU with the peer's TEID is laid over the front of the output buffer; its length and the peer's address come back
abbrev pub written_to : ℕ → Session → List ℕ → List ℕ → Output
written_to place s packet out =
    output (record { number = taken; place = place; size = length (gpdu_of s.user packet); peer = s.useraddr }) (overlay (gpdu_of s.user packet) out)

-- to the session at a place, if the output buffer holds the packet and the 8 octets of a header
unfoldable pub down_on : ℕ → Session → List ℕ → List ℕ → Output
down_on place s packet out = pick (ltb (length out) (length packet + fixed_size)) (unwritten output_short out) (written_to place s packet out)

-- to whom it goes
unfoldable pub down_to : Option ℕ → List Session → List ℕ → List ℕ → Output
down_to (Some place) l packet out = down_on place (get_or l place nobody) packet out
down_to None l packet out = unwritten no_session out

-- the order: 2, 18, 19, 20
unfoldable pub down_taken : Node → List Session → List ℕ → List ℕ → Output
down_taken node l packet out =
    pick (keeps_rules node l)
    (pick (whole_packet packet) (down_to (addressee_of node.plan.pool (destination_of packet) l) l packet out) (unwritten packet_unfit out))
    (unwritten rules_broken out)

-- ---- laws: the answers in the order of the list
module _ (node : Node) (l : List Session) (packet out : List ℕ) where
  pub down_broken : keeps_rules node l ≡ false → down_taken node l packet out ≡ unwritten rules_broken out
  unfolding down_taken
  down_broken e = rw e

  module _ (kept : keeps_rules node l ≡ true) where
    pub down_unfit : whole_packet packet ≡ false → down_taken node l packet out ≡ unwritten packet_unfit out
    unfolding down_taken
    down_unfit e = rw (kept, e)

    pub down_whole : whole_packet packet ≡ true
        → down_taken node l packet out ≡ down_to (addressee_of node.plan.pool (destination_of packet) l) l packet out
    unfolding down_taken
    down_whole e = rw (kept, e)

pub down_short : (place : ℕ) (s : Session) (packet out : List ℕ) → length out < length packet + fixed_size → down_on place s packet out ≡ unwritten output_short out
unfolding down_on
down_short place s packet out h = rw (lt-ltb (length out) (length packet + fixed_size) h)

pub down_fits : (place : ℕ) (s : Session) (packet out : List ℕ) → length packet + fixed_size ≤ length out → down_on place s packet out ≡ written_to place s packet out
unfolding down_on
down_fits place s packet out h = rw (le-ltb (length out) (length packet + fixed_size) h)

-- ---- whatever comes of it: a message lies over the front of the buffer; with a refusal it is none, and nothing else comes back
pub record Lowers (out : List ℕ) (o : Output) : Type 0 where
  pub message : List ℕ
  pub size : o.written.size ≡ length message
  pub over : o.buffer ≡ overlay message out
  pub silent : o.written.number ≢ 0 → o ≡ unwritten o.written.number out

nothing_lowers : (n : ℕ) (out : List ℕ) → Lowers out (unwritten n out)
unfolding overlay
nothing_lowers n out = record { message = []; size = refl; over = refl; silent = λ e. refl }

on_lowers : (place : ℕ) (s : Session) (packet out : List ℕ) → Lowers out (down_on place s packet out)
unfolding down_on
on_lowers place s packet out =
    split (ltb (length out) (length packet + fixed_size)) (λ a. rw a (nothing_lowers output_short out))
    (λ a. rw a (record { message = gpdu_of s.user packet; size = refl; over = refl; silent = λ e. absurd (e refl) }))

to_lowers : (f : Option ℕ) (t : List Session) (packet out : List ℕ) → Lowers out (down_to f t packet out)
unfolding down_to
to_lowers (Some place) t packet out = on_lowers place (get_or t place nobody) packet out
to_lowers None t packet out = nothing_lowers no_session out

pub down_lowers : (node : Node) (t : List Session) (packet out : List ℕ) → Lowers out (down_taken node t packet out)
unfolding down_taken
down_lowers node t packet out =
    split (keeps_rules node t)
    (λ e. split (whole_packet packet)
    (λ w. rw (e, w) (to_lowers (addressee_of node.plan.pool (destination_of packet) t) t packet out))
    (λ w. rw (e, w) (nothing_lowers packet_unfit out)))
    (λ e. rw e (nothing_lowers rules_broken out))

pub down_length : (node : Node) (t : List Session) (packet out : List ℕ) → length (down_taken node t packet out).buffer ≡ length out
down_length node t packet out = let c = down_lowers node t packet out in rw c.over (length-overlay c.message out)
