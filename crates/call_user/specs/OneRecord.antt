-- A way to compute what `user_taken` says, from the one record of the place that the datagram's tunnel number names. Nothing here is to be
-- believed: the law `done_is` says that it comes to `user_taken`, for every datagram and every table.
-- Assumes nothing.
use Rattle.std.specs.Prelude.{ℕ, ◌<◌, ◌≤◌, Bool, true, false, List, ◌≡◌, length, get_or, eqb, ltb}
use Rattle.std.proofs.Math.Path.{refl}
use Rattle.std.proofs.Common.{arith}
use borrow.Author.Tests.{eqb-true, eqb-false, lt-ltb, le-ltb, eq-eqb, ne_eqb}
use Rattle.base_octets.specs.Number.{taken, reply_short, rules_broken, user_not_live}
use Rattle.base_octets.specs.Choice.{pick, split}
use Rattle.base_octets.specs.Overlay.{overlay}
use Rattle.unit_tunnel.specs.Numbering.{places}
use Rattle.unit_session.specs.declared.Session.{Session}
use Rattle.unit_table.specs.declared.Node.{Node}
use Rattle.unit_table.specs.Change.{nobody}
use Rattle.unit_table.specs.Rules.{keeps_rules, rules_of}
use Rattle.unit_table.specs.Find.{user_place, has_user, owner_user}
use Rattle.wire_messages.specs.Messages.{user_echo, error_indication}
use Rattle.call_own.specs.Outcome.{least_reply}
use Rattle.wire_user.specs.declared.Header.{Header}
use Rattle.wire_user.specs.declared.Header.TheVariants as H
use Rattle.wire_user.specs.Header.{user_echo_type, type_of, user_teid_of, user_sequence_of, user_header_of, header_echo, header_packet}
use Rattle.wire_user.specs.User.{user_of, user_within}
use Rattle.call_user.specs.declared.Comes.{Comes}
use Rattle.call_user.specs.declared.Comes.TheVariants as C
use Rattle.call_user.specs.User.{Took, took, silent, packet_taken, header_taken, user_taken}

-- the place that the tunnel number names, whatever the datagram is
unfoldable pub place_in : List ℕ → ℕ
place_in d = user_place (user_teid_of d)

-- what comes of a datagram that is read; `up` says whether its payload is handed up
pub record Answered : Type 0 where
  pub number : ℕ
  pub place : ℕ
  pub size : ℕ
  pub reply : List ℕ
  pub up : Bool

abbrev pub answered_on : ℕ → ℕ → ℕ → List ℕ → Bool → Answered
answered_on number place size reply up = record { number = number; place = place; size = size; reply = reply; up = up }

-- what a datagram that is read comes to, with the reply buffer as it is left
abbrev pub comes_on : Comes → List ℕ → Answered
comes_on (C.Up place) reply = answered_on taken place 0 reply true
comes_on (C.Answered number size) reply = answered_on number 0 size reply false

abbrev pub answers : ℕ → List ℕ → List ℕ → Answered
answers number m reply = answered_on number 0 (length m) (overlay m reply) false

unfoldable pub packet_on : Session → ℕ → ℕ → List ℕ → Answered
packet_on s teid addr reply = pick (has_user s teid) (answered_on taken (user_place teid) 0 reply true) (answers user_not_live (error_indication teid addr) reply)

unfoldable pub header_on : Session → Header → ℕ → List ℕ → Answered
header_on s (H.Echo sequence) addr reply = answers taken (user_echo sequence) reply
header_on s (H.Packet teid) addr reply = packet_on s teid.0 addr reply

-- the payload begins at `start`, the datagram has `end` octets
unfoldable pub handed : Answered → ℕ → ℕ → Took
handed a start end = took a.number a.place a.size a.reply (pick a.up start end)

unfoldable pub done : Bool → Node → Session → List ℕ → List ℕ → Took
done kept node s d reply =
    pick (ltb (length reply) least_reply) (silent reply_short (length d) reply)
    (pick kept
    (pick (eqb (user_of d).number taken) (handed (header_on s (user_header_of d) node.plan.user reply) (user_of d).size (length d))
    (silent (user_of d).number (length d) reply))
    (silent rules_broken (length d) reply))

-- ---- laws, in the words of the code
module _ (kept : Bool) (node : Node) (s : Session) (d reply : List ℕ) where
  pub done-short : length reply < least_reply → done kept node s d reply ≡ silent reply_short (length d) reply
  unfolding done
  done-short h = rw (lt-ltb (length reply) least_reply h)

  module _ (room : least_reply ≤ length reply) where
    pub done_broken : kept ≡ false → done kept node s d reply ≡ silent rules_broken (length d) reply
    unfolding done
    done_broken e = rw (le-ltb (length reply) least_reply room, e)

    module _ (yes : kept ≡ true) where
      pub done_unread : ((user_of d).number ≡ taken → ⊥) → done kept node s d reply ≡ silent (user_of d).number (length d) reply
      unfolding done
      done_unread n = rw (le-ltb (length reply) least_reply room, yes, ne_eqb (user_of d).number taken n)

      module _ (n : (user_of d).number ≡ taken) (h : Header) (read : h ≡ user_header_of d) (number place size : ℕ) (left : List ℕ) (up : Bool)
          (is : answered_on number place size left up ≡ header_on s h node.plan.user reply) where
        pub done_up : up ≡ true → done kept node s d reply ≡ took number place size left (user_of d).size
        unfolding done handed
        done_up e = rw (le-ltb (length reply) least_reply room, yes, eq-eqb (user_of d).number taken n, ← read, ← is, e)

        pub done_down : up ≡ false → done kept node s d reply ≡ took number place size left (length d)
        unfolding done handed
        done_down e = rw (le-ltb (length reply) least_reply room, yes, eq-eqb (user_of d).number taken n, ← read, ← is, e)

pub done_within : (kept : Bool) (node : Node) (s : Session) (d reply : List ℕ) → (done kept node s d reply).start ≤ length d
unfolding done handed
done_within kept node s d reply =
    let w = user_within d in
    split (ltb (length reply) least_reply) (λ e. rw e (omega arith))
    (λ e. split kept
    (λ f. split (eqb (user_of d).number taken)
    (λ g. split (header_on s (user_header_of d) node.plan.user reply).up (λ h. rw (e, f, g, h) w) (λ h. rw (e, f, g, h) (omega arith)))
    (λ g. rw (e, f, g) (omega arith)))
    (λ f. rw (e, f) (omega arith)))

-- ---- the one record says what the table says
module _ (node : Node) (l : List Session) (d reply : List ℕ) (size : length l ≤ places) (start end : ℕ) where
  packet_is : (teid : ℕ)
      → handed (packet_on (get_or l (user_place teid) nobody) teid node.plan.user reply) start end
      ≡ header_taken node l (H.Packet (record { 0 = teid })) start end reply
  unfolding handed packet_on header_taken packet_taken
  packet_is teid =
      split (has_user (get_or l (user_place teid) nobody) teid)
      (λ e. rw (owner_user teid l size, e)) (λ e. rw (owner_user teid l size, e))

  echo_is : (sequence : ℕ) → handed (answers taken (user_echo sequence) reply) start end ≡ header_taken node l (H.Echo sequence) start end reply
  unfolding handed header_taken
  echo_is sequence = refl

  header_is : handed (header_on (get_or l (place_in d) nobody) (user_header_of d) node.plan.user reply) start end ≡ header_taken node l (user_header_of d) start end reply
  unfolding header_on place_in
  header_is =
      split (eqb (type_of d) user_echo_type)
      (λ e. rw (header_echo d (eqb-true (type_of d) user_echo_type e)) (echo_is (user_sequence_of d)))
      (λ e. rw (header_packet d (eqb-false (type_of d) user_echo_type e)) (packet_is (user_teid_of d)))

pub done_is : (node : Node) (l : List Session) (d reply : List ℕ)
    → done (keeps_rules node l) node (get_or l (place_in d) nobody) d reply ≡ user_taken node l d reply
unfolding done user_taken
done_is node l d reply =
    split (keeps_rules node l)
    (λ e. let q = (rules_of node l e).size in
    rw (e, header_is node l d reply (omega arith) (user_of d).size (length d)))
    (λ e. rw e)
