-- That what specs/UserNumbers.antt says holds, and what that rests on.
-- Assumes nothing.
use Rattle.std.specs.Prelude.{ℕ, zero, suc, ◌+◌, ◌-◌, true, ◌&&◌, List, ◌≡◌, refl, length, drop, eqb, ltb, leb, Option, Some, None}
use Rattle.base_octets.specs.Choice.{split}
use Rattle.base_octets.specs.Every.{every}
use Rattle.unit_tunnel.specs.Numbering.{user_offset}
use Rattle.unit_session.specs.declared.Session.{Session}
use Rattle.unit_table.specs.declared.Node.{Node}
use Rattle.unit_table.specs.Rules.{keeps_rules}
use Rattle.unit_table.specs.Find.{owner_of, addressee_of}
use Rattle.wire_header.specs.Types.{among}
use Rattle.call_own.specs.Outcome.{least_reply}
use Rattle.wire_user.specs.declared.Header.{Header}
use Rattle.wire_user.specs.declared.Header.TheVariants as H
use Rattle.wire_user.specs.Header.{refusal_of, user_header_of, size_of, ours, type_taken, optional, user_octet, user_length_of, fixed_size, whole_size}
use Rattle.wire_user.specs.Extensions.{walk_of, extensions_of, first_must, unfit, extent, next_type}
use Rattle.wire_user.specs.User.{user_of, first_type}
use Rattle.call_user.specs.User.{packet_taken, header_taken, user_taken}
use Rattle.wire_packet.specs.Packet.{whole_packet, destination_of}
use Rattle.call_down.specs.Down.{down_on, down_to, down_taken}
use Rattle.call_store.specs.Laws.{keeps_table, keeps_store, user_sound, down_sound}
use Rattle.promise_demands.proofs.Numbers.{among_more}
use Rattle.promise_demands.specs.UserNumbers.{user_numbers, user_reads, down_numbers, UserNumbers, DownNumbers}

-- the header's refusals
refusal_number : (d : List ℕ) → among (refusal_of d) user_reads ≡ true
unfolding refusal_of user_reads
refusal_number d =
    split (ltb (length d) fixed_size) (λ a. rw a)
    (λ a. split (ours (user_octet d 0))
    (λ b. split (eqb (user_length_of d) (length d - fixed_size))
    (λ c. split (type_taken (user_octet d 1))
    (λ e. split (optional (user_octet d 0) && ltb (length d) whole_size) (λ f. rw (a, b, c, e, f)) (λ f. rw (a, b, c, e, f)))
    (λ e. rw (a, b, c, e)))
    (λ c. rw (a, b, c)))
    (λ b. rw (a, b)))

-- those of the extension headers
walk_number : (n : ℕ) (l : List ℕ) (type : ℕ) → among (walk_of n l type).number user_reads ≡ true
unfolding walk_of user_reads
walk_number zero l type = split (eqb type 0) (λ a. rw a) (λ a. split (leb first_must type) (λ b. rw (a, b)) (λ b. rw (a, b)))
walk_number (suc n) l type =
    split (eqb type 0) (λ a. rw a)
    (λ a. split (leb first_must type) (λ b. rw (a, b))
    (λ b. split (unfit l) (λ u. rw (a, b, u)) (λ u. rw (a, b, u) (walk_number n (drop (extent l) l) (next_type l)))))

pub read_number : (d : List ℕ) → among (user_of d).number user_reads ≡ true
unfolding user_of extensions_of
read_number d =
    split (eqb (refusal_of d) 0)
    (λ a. rw a (walk_number (length (drop (size_of (user_octet d 0)) d)) (drop (size_of (user_octet d 0)) d) (first_type d)))
    (λ a. rw a (refusal_number d))

-- by what the header says, a number that is live or not
packet_number : (f : Option ℕ) (teid addr start end : ℕ) (reply : List ℕ) → among (packet_taken f teid addr start end reply).number user_numbers ≡ true
unfolding packet_taken user_numbers
packet_number (Some place) teid addr start end reply = refl
packet_number None teid addr start end reply = refl

header_taken_number : (node : Node) (l : List Session) (h : Header) (start end : ℕ) (reply : List ℕ)
    → among (header_taken node l h start end reply).number user_numbers ≡ true
unfolding header_taken user_numbers
header_taken_number node l (H.Echo sequence) start end reply = refl
header_taken_number node l (H.Packet teid) start end reply =
    packet_number (owner_of user_offset teid.0 l) teid.0 node.plan.user start end reply

user_number_lem : (node : Node) (t : List Session) (d reply : List ℕ) → keeps_rules node t ≡ true → among (user_taken node t d reply).number user_numbers ≡ true
unfolding user_taken user_reads user_numbers every
user_number_lem node t d reply e =
    split (ltb (length reply) least_reply) (λ a. rw a)
    (λ a. split (eqb (user_of d).number 0)
    (λ b. rw (a, e, b) (header_taken_number node t (user_header_of d) (user_of d).size (length d) reply))
    (λ b. rw (a, e, b) (among_more (user_of d).number user_reads user_numbers refl (read_number d))))

pub user_numbers_lem : UserNumbers
unfolding UserNumbers
user_numbers_lem node t w d reply k =
    rw (user_sound node t w (keeps_store node t w k) d reply) (user_number_lem node t d reply (keeps_table node t w k))

-- ---- take downlink packet
to_number : (f : Option ℕ) (t : List Session) (packet out : List ℕ) → among (down_to f t packet out).written.number down_numbers ≡ true
unfolding down_to down_on down_numbers
to_number (Some place) t packet out = split (ltb (length out) (length packet + fixed_size)) (λ a. rw a) (λ a. rw a)
to_number None t packet out = refl

down_number : (node : Node) (t : List Session) (packet out : List ℕ) → keeps_rules node t ≡ true
    → among (down_taken node t packet out).written.number down_numbers ≡ true
unfolding down_taken down_numbers
down_number node t packet out e =
    split (whole_packet packet) (λ a. rw (e, a) (to_number (addressee_of node.plan.pool (destination_of packet) t) t packet out)) (λ a. rw (e, a))

pub down_numbers_lem : DownNumbers
unfolding DownNumbers
down_numbers_lem node t w packet out k =
    rw (down_sound node t w (keeps_store node t w k) packet out) (down_number node t packet out (keeps_table node t w k))
