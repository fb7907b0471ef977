-- How long the replies and the datagrams are that a call of the bench gets back: a reply stands in the buffer that was lent, and a datagram that is
-- due has at most 17 octets.
-- Assumes nothing.
use Rattle.std.specs.Prelude.{ℕ, ◌≤◌, List, [], ◌≡◌, length, take, get_or, eqb, ltb, Option, Some, None}
use Rattle.std.proofs.Math.Path.{refl}
use Rattle.std.proofs.Common.{arith, length-take}
use Rattle.base_octets.specs.Number.{taken}
use Rattle.base_octets.specs.Choice.{split}
use Rattle.base_octets.specs.Overlay.{overlay, length-overlay}
use Rattle.unit_session.specs.declared.Session.{Session}
use Rattle.unit_session.specs.Session.{is_free, freed}
use Rattle.unit_session.specs.OwnRequest.{sent_once}
use Rattle.unit_store.specs.Store.{store_ok}
use Rattle.unit_table.specs.declared.Node.{Node}
use Rattle.unit_table.specs.Rules.{keeps_rules, live}
use Rattle.unit_table.specs.Change.{nobody, changed_at}
use Rattle.unit_table.specs.Find.{found_in}
use Rattle.unit_table.specs.Own.{due_place}
use Rattle.unit_sharing.specs.Sharing.{admits}
use Rattle.wire_messages.specs.Messages.{echo_of, delete_bearer, size_echo, size_delete_bearer}
use Rattle.wire_messages.specs.Types.{echo_type}
use Rattle.wire_requests.specs.declared.Create as C
use Rattle.call_asked.specs.declared.Asked.{Asked}
use Rattle.call_asked.specs.declared.Asked.TheVariants as A
use Rattle.call_asked.specs.Asked.{asked_of}
use Rattle.call_own.specs.Outcome.{least_reply, no_reply, on_session, on_owner}
use Rattle.call_own.specs.Calls.{tick_of, close_of, close_on, echo_sent, place_sent, due_sent, send_of}
use Rattle.call_control.specs.Echoes.{echo_taken, echo_reply_taken}
use Rattle.call_control.specs.Amends.{cause_taken}
use Rattle.call_control.specs.Creates.{accepted_taken, opened_at, shared, is_repeat, settled_at, heard_create, create_taken}
use Rattle.call_control.specs.Control.{asked_taken}
use Rattle.wire_user.specs.declared.Header.{Header}
use Rattle.wire_user.specs.declared.Header.TheVariants as H
use Rattle.wire_user.specs.Header.{user_header_of}
use Rattle.wire_user.specs.User.{user_of}
use Rattle.call_user.specs.User.{packet_taken, header_taken, user_taken}
use Rattle.call_down.specs.Down.{down_length}
use Rattle.call_store.specs.Stored.{keeps, close_stored, send_stored, user_stored, down_stored, tick_stored, is_kept, taken_stored, control_stored}

-- ---- a control datagram
module _ (c : C.Create) (seq : ℕ) (node₀ : Node) (t₀ : List Session) (reply : List ℕ) where
  opened-length : (f : Option ℕ) (node : Node) (t : List Session) → length (opened_at f c seq node t node₀ t₀ reply).reply ≡ length reply
  unfolding opened_at accepted_taken no_reply
  opened-length None node t = refl
  opened-length (Some i) node t = length-overlay _ reply

  shared-length : (node : Node) (t : List Session) → length (shared c seq node t node₀ t₀ reply).reply ≡ length reply
  unfolding shared cause_taken
  shared-length node t =
      split (admits node.plan (live t) c.point) (λ e. rw e (opened-length (found_in is_free t) node t)) (λ e. rw e (length-overlay _ reply))

  settled-length : (f : Option ℕ) (node : Node) (t : List Session) → length (settled_at f c seq node t node₀ t₀ reply).reply ≡ length reply
  unfolding settled_at accepted_taken
  settled-length None node t = shared-length node t
  settled-length (Some i) node t =
      split (is_repeat c seq (get_or t i nobody)) (λ e. rw e (length-overlay _ reply)) (λ e. rw e (shared-length node (changed_at freed i t)))

module _ (node : Node) (t : List Session) (reply : List ℕ) where
  asked_length : (a : Asked) → length (asked_taken node t a reply).reply ≡ length reply
  unfolding asked_taken no_reply echo_taken echo_reply_taken create_taken heard_create cause_taken on_owner on_session
  asked_length (A.Silent number) = refl
  asked_length A.Version = length-overlay _ reply
  asked_length (A.Echo recovery seq) = length-overlay _ reply
  asked_length (A.EchoReply recovery) = refl
  asked_length (A.Create c seq) = settled-length c seq node t reply _ _ _
  asked_length (A.Refused w to seq) = length-overlay _ reply
  asked_length (A.Session teid seq x) = length-overlay _ reply

  pub control_length : (w : List (List ℕ)) (d : List ℕ) → length (control_stored node t w d reply).call.reply ≡ length reply
  unfolding control_stored taken_stored no_reply
  control_length w d =
      split (ltb (length reply) least_reply) (λ e. rw e)
      (λ e. rw e (split (keeps node t w)
      (λ f. rw f (split (is_kept d w) (λ g. rw g (length-overlay _ reply)) (λ g. rw g (asked_length (asked_of node d)))))
      (λ f. rw f)))

  -- ---- a user datagram
  packet-length : (f : Option ℕ) (teid addr start end : ℕ) → length (packet_taken f teid addr start end reply).reply ≡ length reply
  unfolding packet_taken
  packet-length (Some place) teid addr start end = refl
  packet-length None teid addr start end = length-overlay _ reply

  header_length : (h : Header) (start end : ℕ) → length (header_taken node t h start end reply).reply ≡ length reply
  unfolding header_taken
  header_length (H.Echo sequence) start end = length-overlay _ reply
  header_length (H.Packet teid) start end = packet-length _ _ _ start end

  taken-length : (d : List ℕ) → length (user_taken node t d reply).reply ≡ length reply
  unfolding user_taken
  taken-length d =
      split (ltb (length reply) least_reply) (λ e. rw e)
      (λ e. rw e (split (keeps_rules node t)
      (λ f. rw f (split (eqb (user_of d).number taken) (λ g. rw g (header_length (user_header_of d) (user_of d).size (length d))) (λ g. rw g)))
      (λ f. rw f)))

  pub user_length : (w : List (List ℕ)) (d : List ℕ) → length (user_stored node t w d reply).reply ≡ length reply
  unfolding user_stored
  user_length w d = split (store_ok w) (λ e. rw e (taken-length d)) (λ e. rw e)

module _ (node : Node) (t : List Session) (w : List (List ℕ)) where
  -- ---- a packet down
  pub output-length : (packet out : List ℕ) → length (down_stored node t w packet out).buffer ≡ length out
  unfolding down_stored
  output-length packet out = split (store_ok w) (λ e. rw e (down_length node t packet out)) (λ e. rw e)

  -- ---- the clock has no reply
  pub tick_length : length (tick_stored node t w).call.reply ≡ 0
  unfolding tick_stored tick_of no_reply
  tick_length = split (store_ok w) (λ e. rw e (split (keeps_rules node t) (λ f. rw f) (λ f. rw f))) (λ e. rw e)

  pub close_length : (place : ℕ) → length (close_stored node t w place).reply ≡ 0
  unfolding close_stored close_of on_session no_reply
  close_length place =
      split (store_ok w)
      (λ e. rw e (split (keeps_rules node t) (λ f. rw f (length-overlay (close_on (get_or t place nobody)).message [])) (λ f. rw f)))
      (λ e. rw e)

-- ---- what is sent: an echo has 13 octets, a Delete Bearer Request 17
front_most : (m l : List ℕ) (k : ℕ) → length m ≡ k → k ≤ 17 → length (take (length m) l) ≤ 17
front_most m l k e h = simp length-take (omega arith)

module _ (node : Node) (t : List Session) (k : ℕ) (reply : List ℕ) where
  echo_most : length (take (echo_sent node t k reply).answer.size (echo_sent node t k reply).reply) ≤ 17
  unfolding echo_sent
  echo_most =
      let m = echo_of echo_type (sent_once node.plan.resend k node.echo).number node.plan.recovery in
      front_most m (overlay m reply) 13 (size_echo _ _ _) (omega arith)

  place_most : (i : ℕ) (s : Session) → length (take (place_sent node t k i s reply).answer.size (place_sent node t k i s reply).reply) ≤ 17
  unfolding place_sent
  place_most i s =
      let m = delete_bearer s.control (sent_once node.plan.resend k s.own).number s.ebi in
      front_most m (overlay m reply) 17 (size_delete_bearer _ _ _) (omega arith)

due_most : (node : Node) (t : List Session) (reply : List ℕ) → length (take (send_of node t reply).answer.size (send_of node t reply).reply) ≤ 17
unfolding send_of due_sent no_reply
due_most node t reply =
    split (ltb (length reply) least_reply) (λ e. rw e (omega arith))
    (λ e. rw e (split (keeps_rules node t)
    (λ f. rw f (split (eqb node.echo.timer 0) (λ g. rw g (echo_most node t _ reply))
    (λ g. rw g (split (ltb (due_place t) (length t)) (λ h. rw h (place_most node t _ reply _ _)) (λ h. rw h (omega arith))))))
    (λ f. rw f (omega arith))))

pub sent_most : (node : Node) (t : List Session) (w : List (List ℕ)) (reply : List ℕ)
    → length (take (send_stored node t w reply).answer.size (send_stored node t w reply).reply) ≤ 17
unfolding send_stored no_reply
sent_most node t w reply = split (store_ok w) (λ e. rw e (due_most node t reply)) (λ e. rw e (omega arith))
