-- Take user datagram: one definition that fixes number, place, reply and where the payload begins, for any datagram and any table. The
-- table is never changed by it.
-- Assumes nothing.
use Rattle.std.specs.Prelude.{ℕ, ◌<◌, ◌≤◌, true, false, List, ◌≡◌, length, eqb, ltb, Option, Some, None}
use borrow.Author.Tests.{lt-ltb, le-ltb, eq-eqb, ne_eqb}
use Rattle.base_octets.specs.Number.{taken, reply_short, rules_broken, user_not_live}
use Rattle.base_octets.specs.Choice.{pick}
use Rattle.base_octets.specs.Overlay.{overlay}
use Rattle.unit_tunnel.specs.Numbering.{user_offset}
use Rattle.unit_session.specs.declared.Session.{Session}
use Rattle.unit_table.specs.declared.Node.{Node}
use Rattle.unit_table.specs.Rules.{keeps_rules}
use Rattle.unit_table.specs.Find.{owner_of}
use Rattle.wire_messages.specs.Messages.{user_echo, error_indication}
use Rattle.call_own.specs.Outcome.{least_reply}
use Rattle.wire_user.specs.declared.Header.{Header}
use Rattle.wire_user.specs.declared.Header.TheVariants as H
use Rattle.wire_user.specs.Header.{user_header_of}
use Rattle.wire_user.specs.User.{user_of}

-- what comes back: the number, the place of the session, the reply's length, the reply buffer, and after how many octets of the
-- datagram what is handed up begins: all of them where nothing is
pub record Took : Type 0 where
  pub number : ℕ
  pub place : ℕ
  pub size : ℕ
  pub reply : List ℕ
  pub start : ℕ

abbrev pub took : ℕ → ℕ → ℕ → List ℕ → ℕ → Took
took number place size reply start = record { number = number; place = place; size = size; reply = reply; start = start }

-- a number alone: no reply, nothing handed up; `end` is the datagram's length
abbrev pub silent : ℕ → ℕ → List ℕ → Took
silent number end reply = took number 0 0 reply end

-- a message is laid over the front of the reply buffer, and its length is the reply's; nothing is handed up
abbrev pub user_replied : ℕ → List ℕ → ℕ → List ℕ → Took
user_replied number m end reply = took number 0 (length m) (overlay m reply) end

-- a G-PDU: handed up under a live user number, else answered with an Error Indication
unfoldable pub packet_taken : Option ℕ → ℕ → ℕ → ℕ → ℕ → List ℕ → Took
packet_taken (Some place) teid addr start end reply = took taken place 0 reply start
packet_taken None teid addr start end reply = user_replied user_not_live (error_indication teid addr) end reply

-- by what the header says: an echo is answered
unfoldable pub header_taken : Node → List Session → Header → ℕ → ℕ → List ℕ → Took
header_taken node l (H.Echo sequence) start end reply = user_replied taken (user_echo sequence) end reply
header_taken node l (H.Packet teid) start end reply = packet_taken (owner_of user_offset teid.0 l) teid.0 node.plan.user start end reply

-- the order: 1, 2, then the datagram's own refusals (3, 12, 6, 7, 13 or 14), then 15
unfoldable pub user_taken : Node → List Session → List ℕ → List ℕ → Took
user_taken node l d reply =
    pick (ltb (length reply) least_reply) (silent reply_short (length d) reply)
    (pick (keeps_rules node l)
    (pick (eqb (user_of d).number taken) (header_taken node l (user_header_of d) (user_of d).size (length d) reply) (silent (user_of d).number (length d) reply))
    (silent rules_broken (length d) reply))

-- ---- laws: the answers in the order of the list
module _ (node : Node) (l : List Session) (d reply : List ℕ) where
  pub user_short : length reply < least_reply → user_taken node l d reply ≡ silent reply_short (length d) reply
  unfolding user_taken
  user_short h = rw (lt-ltb (length reply) least_reply h)

  module _ (room : least_reply ≤ length reply) where
    pub user_broken : keeps_rules node l ≡ false → user_taken node l d reply ≡ silent rules_broken (length d) reply
    unfolding user_taken
    user_broken e = rw (le-ltb (length reply) least_reply room, e)

    module _ (kept : keeps_rules node l ≡ true) where
      pub user_unread : ((user_of d).number ≡ taken → ⊥) → user_taken node l d reply ≡ silent (user_of d).number (length d) reply
      unfolding user_taken
      user_unread n = rw (le-ltb (length reply) least_reply room, kept, ne_eqb (user_of d).number taken n)

      pub user_read_lem : (user_of d).number ≡ taken → user_taken node l d reply ≡ header_taken node l (user_header_of d) (user_of d).size (length d) reply
      unfolding user_taken
      user_read_lem n = rw (le-ltb (length reply) least_reply room, kept, eq-eqb (user_of d).number taken n)
