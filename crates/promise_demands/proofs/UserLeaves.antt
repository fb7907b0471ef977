-- What take user datagram leaves in the reply buffer, for any octets, table and buffer: a message in front, or with a refusal that is silent all
-- as lent. 15 comes of a G-PDU alone, not of its header nor of extension headers.
-- Assumes nothing.
use Rattle.std.specs.Prelude.{ℕ, List, [], ◌≢◌, ◌≡◌, length, eqb, ltb, Option, Some, None}
use Rattle.std.proofs.Math.Path.{refl}
use Rattle.std.proofs.Common.{arith, eqb-true}
use Rattle.std.proofs.lemmas.Bool.{eqb-false}
use Rattle.base_octets.specs.Choice.{split}
use Rattle.base_octets.specs.Overlay.{overlay}
use Rattle.unit_tunnel.specs.Numbering.{user_offset}
use Rattle.unit_session.specs.declared.Session.{Session}
use Rattle.unit_table.specs.declared.Node.{Node}
use Rattle.unit_table.specs.Rules.{keeps_rules}
use Rattle.unit_table.specs.Find.{owner_of}
use Rattle.unit_store.specs.Store.{store_ok}
use Rattle.wire_messages.specs.Messages.{user_echo, error_indication}
use Rattle.wire_user.specs.Header.{user_echo_type, type_of, user_teid_of, user_sequence_of, user_header_of, header_packet, header_echo}
use Rattle.wire_user.specs.User.{user_of}
use Rattle.call_own.specs.Outcome.{least_reply}
use Rattle.call_user.specs.User.{Took, took, header_taken, packet_taken, user_taken}
use Rattle.call_user.specs.User as userside
use Rattle.call_store.specs.Stored.{broken_number, user_stored}
use Rattle.promise_demands.proofs.Numbers.{among_other}
use Rattle.promise_demands.specs.UserNumbers.{user_reads}
use Rattle.promise_demands.proofs.UserNumbers.{read_number}

module _ (node : Node) (t : List Session) (d reply : List ℕ) where
  pub record Takes (w : Took) : Type 0 where
    pub message : List ℕ
    pub over : w ≡ took w.number w.place (length message) (overlay message reply) w.start
    pub silent : w.number ≢ 0 → w.number ≢ 15 → w ≡ userside.silent w.number (length d) reply
    pub dead : w.number ≡ 15 → w ≡ userside.user_replied 15 (error_indication (user_teid_of d) node.plan.user) (length d) reply

  refused_takes : (n : ℕ) → n ≢ 15 → Takes (userside.silent n (length d) reply)
  unfolding overlay
  refused_takes n h = record { message = []; over = refl; silent = λ a b. refl; dead = λ e. absurd (h e) }

  packet_takes : (f : Option ℕ) → Takes (packet_taken f (user_teid_of d) node.plan.user (user_of d).size (length d) reply)
  unfolding packet_taken overlay
  packet_takes (Some i) = record { message = []; over = refl; silent = λ a b. absurd (a refl); dead = λ e. absurd (omega arith) }
  packet_takes None =
      record { message = error_indication (user_teid_of d) node.plan.user; over = refl; silent = λ a b. absurd (b refl); dead = λ e. refl }

  header_takes : Takes (header_taken node t (user_header_of d) (user_of d).size (length d) reply)
  unfolding header_taken
  header_takes =
      split (eqb (type_of d) user_echo_type)
      (λ q. rw (header_echo d (eqb-true (type_of d) user_echo_type q))
      (record { message = user_echo (user_sequence_of d); over = refl; silent = λ a b. absurd (a refl); dead = λ e. absurd (omega arith) }))
      (λ q. rw (header_packet d (eqb-false (type_of d) user_echo_type q)) (packet_takes (owner_of user_offset (user_teid_of d) t)))

  pub user_takes : Takes (user_taken node t d reply)
  unfolding user_taken user_reads
  user_takes =
      split (ltb (length reply) least_reply) (λ a. rw a (refused_takes 1 (λ e. omega arith)))
      (λ a. split (keeps_rules node t)
      (λ e. split (eqb (user_of d).number 0) (λ b. rw (a, e, b) header_takes)
      (λ b. rw (a, e, b) (refused_takes (user_of d).number (among_other (user_of d).number 15 user_reads (read_number d) refl))))
      (λ e. rw (a, e) (refused_takes 2 (λ z. omega arith))))

  pub user_stored_takes : (w : List (List ℕ)) → Takes (user_stored node t w d reply)
  unfolding user_stored broken_number
  user_stored_takes w =
      split (store_ok w) (λ s. rw s user_takes)
      (λ s. split (ltb (length reply) least_reply) (λ a. rw (s, a) (refused_takes 1 (λ e. omega arith))) (λ a. rw (s, a) (refused_takes 2 (λ e. omega arith))))
