-- That what specs/Packets.antt says holds, and what that rests on.
-- Assumes nothing.
use Rattle.std.specs.Prelude.{ℕ, true, not, List, ◌≢◌, ◌≡◌, length, get_or, eqb, ltb, Option, Some, None}
use Rattle.std.proofs.Math.Path.{refl}
use Rattle.std.proofs.Common.{arith}
use borrow.Author.Tests.{eqb-true, eqb-false, ltb-true, ltb-false, not-true}
use Rattle.base_octets.specs.Choice.{split, or_split, and_left, and_right}
use Rattle.unit_tunnel.specs.Numbering.{places, user_offset}
use Rattle.unit_tunnel.specs.Tunnel.{user_number}
use Rattle.unit_session.specs.declared.Session.{Session}
use Rattle.unit_session.specs.Session.{is_free}
use Rattle.unit_table.specs.Rules.{rules_of}
use Rattle.unit_table.specs.Change.{nobody}
use Rattle.unit_table.specs.Find.{owner_of, bears, first_is}
use Rattle.wire_messages.specs.Messages.{size_user_echo}
use Rattle.call_own.specs.Outcome.{least_reply}
use Rattle.wire_user.specs.Header.{user_echo_type, packet_type, type_taken, type_of, user_teid_of, user_sequence_of, refusal_of, user_header_of}
use Rattle.wire_user.specs.Header.{header_packet, header_echo, header_passed}
use Rattle.wire_user.specs.User.{user_of, user_passed}
use Rattle.call_user.specs.User.{took, header_taken, packet_taken, user_taken, user_short, user_unread, user_read_lem}
use Rattle.call_store.specs.Stored.{State}
use Rattle.call_store.specs.Laws.{user_sound}
use Rattle.promise_demands.specs.Run.{Kept}
use Rattle.promise_demands.proofs.Run.{kept_table, kept_store}
use Rattle.promise_demands.specs.Packets.{took_of, Fairly, LiveOnly, Owns}

owns : (n place : ℕ) (l : List Session) → owner_of user_offset n l ≡ Some place → Owns n place l
unfolding owner_of bears
owns n place l e =
    let f = first_is (bears user_offset n) place l e in
    let t = f.1 in
    let a : not (is_free (get_or l place nobody)) ≡ true = search (and_left, and_right) in
    let b : eqb (user_number (get_or l place nobody).usage place) n ≡ true = search (and_left, and_right) in
    record {
      there = f.0;
      live = not-true (is_free (get_or l place nobody)) a;
      number = eqb-true (user_number (get_or l place nobody).usage place) n b;
    }

-- ---- only live ones
-- what is taken and no echo is a G-PDU
packet_type_lem : (d : List ℕ) → refusal_of d ≡ 0 → type_of d ≢ user_echo_type → type_of d ≡ 255
unfolding type_taken
packet_type_lem d e n =
    or_split (eqb (type_of d) user_echo_type) (eqb (type_of d) packet_type) (header_passed d e).is_taken
    (λ q. absurd (n (eqb-true (type_of d) user_echo_type q))) (λ q. eqb-true (type_of d) packet_type q)

module _ (s : State) (k : Kept s) (size : length s.table ≡ places) (d reply : List ℕ) where
  silent_fair : (n : ℕ) → n ≢ 0 → Fairly s d (took n 0 0 reply (length d))
  silent_fair n h = record { handed = λ e f. absurd (h e); refused = λ e. refl; replied = λ e. refl }

  packet_fair : type_of d ≡ 255 → (f : Option ℕ) → owner_of user_offset (user_teid_of d) s.table ≡ f
      → Fairly s d (packet_taken f (user_teid_of d) s.node.plan.user (user_of d).size (length d) reply)
  unfolding packet_taken places
  packet_fair g (Some place) e =
      let o = owns (user_teid_of d) place s.table e in
      let t = o.there in
      record {
        handed = λ a b. record { place = omega arith; live = o.live; packet = g; number = o.number; start = refl };
        refused = λ a. absurd (a refl);
        replied = λ a. absurd (a refl);
      }
  packet_fair g None e = record { handed = λ a b. absurd (omega arith); refused = λ a. refl; replied = λ a. refl }

  header_fair : refusal_of d ≡ 0 → Fairly s d (header_taken s.node s.table (user_header_of d) (user_of d).size (length d) reply)
  unfolding header_taken
  header_fair e =
      split (eqb (type_of d) user_echo_type)
      (λ q. let z = size_user_echo (user_sequence_of d) in
      rw (header_echo d (eqb-true (type_of d) user_echo_type q)) (record { handed = λ a b. absurd (omega arith); refused = λ a. refl; replied = λ a. refl }))
      (λ q. let n = eqb-false (type_of d) user_echo_type q in
      rw (header_packet d n) (packet_fair (packet_type_lem d e n) (owner_of user_offset (user_teid_of d) s.table) refl))

  taken_fair : Fairly s d (user_taken s.node s.table d reply)
  taken_fair =
      split (ltb (length reply) least_reply)
      (λ a. rw (user_short s.node s.table d reply (ltb-true (length reply) least_reply a)) (silent_fair 1 (λ e. omega arith)))
      (λ a. let room = ltb-false (length reply) least_reply a in
      split (eqb (user_of d).number 0)
      (λ b. let e = eqb-true (user_of d).number 0 b in
      rw (user_read_lem s.node s.table d reply room (kept_table s k) e) (header_fair (user_passed d e)))
      (λ b. let e = eqb-false (user_of d).number 0 b in
      rw (user_unread s.node s.table d reply room (kept_table s k) e) (silent_fair (user_of d).number e)))

  pub user_fair : Fairly s d (took_of s d reply)
  user_fair = rw (user_sound s.node s.table s.store (kept_store s k) d reply) taken_fair

pub live_only : LiveOnly
unfolding LiveOnly places
live_only s k d reply = user_fair s k (rules_of s.node s.table (kept_table s k)).size d reply
