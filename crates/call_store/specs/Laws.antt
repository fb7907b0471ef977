-- What the calls with the store come to, in the words of the calls without it: where the store keeps its rules they are document 01's calls; a
-- rule that is broken, of the table or of the store, is 2; a request that the store knows is answered from it.
-- Assumes nothing.
use Rattle.std.specs.Prelude.{ℕ, ◌<◌, ◌≤◌, Bool, false, ◌||◌, not, List, [], ◌≡◌, length, ltb, leb, Ok, Err}
use Rattle.std.proofs.Math.Bool.{true}
use Rattle.std.proofs.Math.Path.{refl}
use Rattle.std.proofs.Common.{sym, ◌∙◌, arith, length-take}
use Rattle.std.proofs.Math.ListN.{drop}
use Rattle.std.proofs.Math.Dec.{eqb}
use borrow.Author.Tests.{eqb-true, eq-eqb, lt-ltb, le-ltb, ltb-true, ltb-false, leb-true}
use Rattle.base_octets.specs.Number.{reply_short, rules_broken}
use Rattle.base_octets.specs.Choice.{pick, split, and_left, and_right, or_split, impossible}
use Rattle.base_octets.specs.Every.{every_in}
use Rattle.base_octets.specs.Search.{first_of, first_passes}
use Rattle.unit_tunnel.specs.Numbering.{places}
use Rattle.unit_plan.specs.declared.Plan.{Plan}
use Rattle.unit_plan.specs.Limits.{no_plan}
use Rattle.unit_session.specs.declared.Session.{Session}
use Rattle.unit_table.specs.declared.Node.{Node}
use Rattle.unit_table.specs.Rules.{keeps_rules}
use Rattle.unit_table.specs.Own.{fresh_node}
use Rattle.unit_store.specs.Row.{store_rows, number_in, octets_in, size_in, before_reply, longest_reply, three_in, holds, is_unused, number_ok, reply_ok, kept_ok}
use Rattle.unit_store.specs.Store.{store_ok, aged, sound_of}
use Rattle.wire_messages.specs.Types.{modify_type, delete_type, modify_reply_type, delete_reply_type}
use Rattle.wire_header.specs.declared.HeaderCursor.{HeaderCursor}
use Rattle.wire_header.specs.declared.Kind.TheVariants as K
use Rattle.wire_header.specs.Types.{kind_by}
use Rattle.wire_header.specs.Header.{header_of, kind_of}
use Rattle.wire_header.specs.Gate.{gate_of}
use Rattle.wire_requests.specs.declared.Request.{Request}
use Rattle.wire_requests.specs.declared.Request.TheVariants as Q
use Rattle.wire_requests.specs.Change.{modify_of, delete_of}
use Rattle.call_own.specs.Outcome.{Outcome, least_reply, no_reply, replied}
use Rattle.call_own.specs.Calls.{fresh_of, tick_of, close_of, send_of}
use Rattle.call_user.specs.User.{silent, user_taken, user_short}
use Rattle.call_down.specs.Down.{unwritten, down_taken, down_broken}
use Rattle.call_line.specs.Line.{line_by, line_of}
use Rattle.call_asked.specs.declared.Concern.TheVariants as S
use Rattle.call_asked.specs.declared.Asked.{Asked}
use Rattle.call_asked.specs.declared.Asked.TheVariants as A
use Rattle.call_asked.specs.Asked.{session_asked, change_refused, sound_asked, request_asked, kind_asked, asked_of}
use Rattle.call_asked.specs.Answers.{is_modify, is_delete, modify_answers}
use Rattle.call_asked.proofs.DeleteAnswers.{delete_answers}
use Rattle.call_control.specs.Control.{control_taken}
use Rattle.call_store.specs.Stored.{stored, keeps, broken_number, close_stored, send_stored, line_stored, user_stored, down_stored, empty_store, fresh_stored, tick_stored, asks_store, is_kept, kept_for, store_after, taken_stored, control_stored, three_asked, kept_place}
use Rattle.wire_requests.specs.Chain.{Decoded}

-- ---- the rules, of the table and of the store
module _ (node : Node) (t : List Session) (w : List (List ℕ)) where
  pub keeps_table : keeps node t w ≡ true → keeps_rules node t ≡ true
  unfolding keeps
  keeps_table e = and_left (keeps_rules node t) (store_ok w) e

  pub keeps_store : keeps node t w ≡ true → store_ok w ≡ true
  unfolding keeps
  keeps_store e = and_right (keeps_rules node t) (store_ok w) e

  pub keeps_both : keeps_rules node t ≡ true → store_ok w ≡ true → keeps node t w ≡ true
  unfolding keeps
  keeps_both a b = rw (a, b)

  pub broken_table : keeps_rules node t ≡ false → keeps node t w ≡ false
  unfolding keeps
  broken_table a = rw a

  pub broken_store : store_ok w ≡ false → keeps node t w ≡ false
  broken_store b =
      split (keeps node t w) (λ e. impossible (sym b ∙ keeps_store e)) (λ e. e)

  -- where the store keeps its rules it is the table that breaks one
  table_breaks : keeps node t w ≡ false → store_ok w ≡ true → keeps_rules node t ≡ false
  table_breaks e b =
      split (keeps_rules node t) (λ a. impossible (sym e ∙ keeps_both a b)) (λ a. a)

-- ---- the number of a broken rule
pub broken_short : (reply : List ℕ) → length reply < least_reply → broken_number reply ≡ reply_short
unfolding broken_number
broken_short reply h = rw (lt-ltb (length reply) least_reply h)

pub broken_long : (reply : List ℕ) → least_reply ≤ length reply → broken_number reply ≡ rules_broken
unfolding broken_number
broken_long reply h = rw (le-ltb (length reply) least_reply h)

-- ---- the calls that only read the store
module _ (node : Node) (t : List Session) (w : List (List ℕ)) where
  pub close_sound : store_ok w ≡ true → (i : ℕ) → close_stored node t w i ≡ close_of node t i
  unfolding close_stored
  close_sound e i = rw e

  pub send_sound : store_ok w ≡ true → (reply : List ℕ) → send_stored node t w reply ≡ send_of node t reply
  unfolding send_stored
  send_sound e reply = rw e

  pub line_sound : store_ok w ≡ true → (i : ℕ) (reply : List ℕ) → line_stored node t w i reply ≡ line_of node t i reply
  unfolding line_stored
  line_sound e i reply = rw e

  pub user_sound : store_ok w ≡ true → (d reply : List ℕ) → user_stored node t w d reply ≡ user_taken node t d reply
  unfolding user_stored
  user_sound e d reply = rw e

  pub down_sound : store_ok w ≡ true → (packet out : List ℕ) → down_stored node t w packet out ≡ down_taken node t packet out
  unfolding down_stored
  down_sound e packet out = rw e

  pub close_broken : keeps node t w ≡ false → (i : ℕ) → close_stored node t w i ≡ no_reply rules_broken node t []
  unfolding close_stored close_of
  close_broken k i = split (store_ok w) (λ e. rw (e, table_breaks node t w k e)) (λ e. rw e)

  pub send_broken : keeps node t w ≡ false → (reply : List ℕ) → send_stored node t w reply ≡ no_reply (broken_number reply) node t reply
  unfolding send_stored send_of broken_number
  send_broken k reply =
      split (store_ok w)
      (λ e. split (ltb (length reply) least_reply) (λ a. rw (e, a)) (λ a. rw (e, a, table_breaks node t w k e)))
      (λ e. rw e)

  pub line_broken : keeps node t w ≡ false → (i : ℕ) (reply : List ℕ) → line_stored node t w i reply ≡ no_reply (broken_number reply) node t reply
  unfolding line_stored line_of line_by broken_number no_reply
  line_broken k i reply =
      split (store_ok w)
      (λ e. split (ltb (length reply) least_reply) (λ a. rw (e, a)) (λ a. rw (e, a, table_breaks node t w k e)))
      (λ e. rw e)

  pub user_broken : keeps node t w ≡ false → (d reply : List ℕ) → user_stored node t w d reply ≡ silent (broken_number reply) (length d) reply
  unfolding user_stored user_taken broken_number
  user_broken k d reply =
      split (store_ok w)
      (λ e. split (ltb (length reply) least_reply) (λ a. rw (e, a)) (λ a. rw (e, a, table_breaks node t w k e)))
      (λ e. rw e)

  pub down_shut : keeps node t w ≡ false → (packet out : List ℕ) → down_stored node t w packet out ≡ unwritten rules_broken out
  unfolding down_stored
  down_shut k packet out = split (store_ok w) (λ e. rw e (down_broken node t packet out (table_breaks node t w k e))) (λ e. rw e)

  -- a short reply buffer comes before it
  pub send_short : (reply : List ℕ) → length reply < least_reply → send_stored node t w reply ≡ no_reply reply_short node t reply
  unfolding send_stored send_of
  send_short reply h =
      split (store_ok w) (λ e. rw (e, lt-ltb (length reply) least_reply h)) (λ e. rw (e, broken_short reply h))

  pub line_short : (i : ℕ) (reply : List ℕ) → length reply < least_reply → line_stored node t w i reply ≡ no_reply reply_short node t reply
  unfolding line_stored line_of line_by no_reply
  line_short i reply h =
      split (store_ok w) (λ e. rw (e, lt-ltb (length reply) least_reply h)) (λ e. rw (e, broken_short reply h))

  pub user_shut : (d reply : List ℕ) → length reply < least_reply → user_stored node t w d reply ≡ silent reply_short (length d) reply
  unfolding user_stored
  user_shut d reply h = split (store_ok w) (λ e. rw e (user_short node t d reply h)) (λ e. rw (e, broken_short reply h))

  -- ---- tick
  pub tick_sound : store_ok w ≡ true → tick_stored node t w ≡ stored (tick_of node t) (pick (keeps_rules node t) (aged w) w)
  unfolding tick_stored
  tick_sound e = rw e

  pub tick_keeping : keeps node t w ≡ true → tick_stored node t w ≡ stored (tick_of node t) (aged w)
  tick_keeping k = rw (tick_sound (keeps_store node t w k), keeps_table node t w k)

  pub tick_broken : keeps node t w ≡ false → tick_stored node t w ≡ stored (no_reply rules_broken node t []) w
  unfolding tick_stored tick_of
  tick_broken k = split (store_ok w) (λ e. rw (e, table_breaks node t w k e)) (λ e. rw e)

-- ---- fresh
pub fresh_counted : (p : Plan) (t : List Session) (w : List (List ℕ)) → length w ≡ store_rows
    → fresh_stored p t w ≡ stored (fresh_of p t) (pick (eqb (length t) places) empty_store w)
unfolding fresh_stored
fresh_counted p t w n = rw (eq-eqb (length w) store_rows n)

pub fresh_miscounted : (p : Plan) (t : List Session) (w : List (List ℕ)) → eqb (length w) store_rows ≡ false
    → fresh_stored p t w ≡ stored (no_reply rules_broken (fresh_node no_plan) t []) w
unfolding fresh_stored
fresh_miscounted p t w e = rw e

-- ---- take control datagram
module _ (node : Node) (t : List Session) (w : List (List ℕ)) (d reply : List ℕ) where
  pub control_short : length reply < least_reply → control_stored node t w d reply ≡ stored (no_reply reply_short node t reply) w
  unfolding control_stored
  control_short h = rw (lt-ltb (length reply) least_reply h)

  pub control_broken : keeps node t w ≡ false → control_stored node t w d reply ≡ stored (no_reply (broken_number reply) node t reply) w
  unfolding control_stored broken_number
  control_broken k = split (ltb (length reply) least_reply) (λ a. rw a) (λ a. rw (a, k))

  -- what the store knows
  pub control_kept : least_reply ≤ length reply → keeps node t w ≡ true → is_kept d w ≡ true
      → control_stored node t w d reply ≡ stored (replied (number_in (kept_for d w)) node t (octets_in (kept_for d w)) reply) w
  unfolding control_stored taken_stored
  control_kept h k e = rw (le-ltb (length reply) least_reply h, k, e)

  -- what it does not: document 01's call, and what the store holds then
  pub control_new : least_reply ≤ length reply → keeps node t w ≡ true → is_kept d w ≡ false
      → control_stored node t w d reply ≡ stored (control_taken node t d reply) (store_after node d (control_taken node t d reply) w)
  unfolding control_stored taken_stored control_taken
  control_new h k e = rw (le-ltb (length reply) least_reply h, k, e, keeps_table node t w k)

  pub control_sound : store_ok w ≡ true → is_kept d w ≡ false → (control_stored node t w d reply).call ≡ control_taken node t d reply
  unfolding control_stored taken_stored control_taken
  control_sound e f =
      split (ltb (length reply) least_reply) (λ a. rw a)
      (λ a. split (keeps_rules node t) (λ k. rw (a, keeps_both node t w k e, f, k)) (λ k. rw (a, broken_table node t w k, k)))

  pub unasked_unkept : asks_store d ≡ false → is_kept d w ≡ false
  unfolding is_kept
  unasked_unkept e = rw e

  pub control_unasked : store_ok w ≡ true → asks_store d ≡ false → (control_stored node t w d reply).call ≡ control_taken node t d reply
  control_unasked e f = control_sound e (unasked_unkept f)

  -- whatever holds of all these holds of the call
  pub control_by : (P : Outcome → Type 0)
      → (length reply < least_reply → P (no_reply reply_short node t reply))
      → (least_reply ≤ length reply → keeps node t w ≡ false → P (no_reply rules_broken node t reply))
      → (least_reply ≤ length reply → keeps node t w ≡ true → is_kept d w ≡ true → P (replied (number_in (kept_for d w)) node t (octets_in (kept_for d w)) reply))
      → (least_reply ≤ length reply → keeps node t w ≡ true → is_kept d w ≡ false → P (control_taken node t d reply))
      → P (control_stored node t w d reply).call
  control_by P short broken kept new =
      split (ltb (length reply) least_reply)
      (λ a. let h = ltb-true (length reply) least_reply a in rw (control_short h) (short h))
      (λ a. let h = ltb-false (length reply) least_reply a in
      split (keeps node t w)
      (λ k. split (is_kept d w)
      (λ e. rw (control_kept h k e) (kept h k e))
      (λ e. rw (control_new h k e) (new h k e)))
      (λ k. rw (control_broken k, broken_long reply h) (broken h k)))

-- ---- the row that answers: it holds the request's reply, with a number and a length that the rules know
pub record Answering (d : List ℕ) (w : List (List ℕ)) : Type 0 where
  pub within : kept_place d w < length w
  pub holding : holds (three_asked d) (kept_for d w) ≡ true
  pub number : number_ok (number_in (kept_for d w)) ≡ true
  pub size : length (octets_in (kept_for d w)) ≤ longest_reply

octets_most : (r : List ℕ) → length (octets_in r) ≤ size_in r
unfolding octets_in
octets_most r = let e = length-take (size_in r) (drop before_reply r) in omega arith

reply_ok_lem : (three : ℕ) (r : List ℕ) → holds three r ≡ true → kept_ok r ≡ true → reply_ok r ≡ true
unfolding holds kept_ok
reply_ok_lem three r h e =
    let n : not (is_unused r) ≡ true = and_left (not (is_unused r)) (eqb three (three_in r)) h in
    or_split (is_unused r) (reply_ok r) e (λ f. impossible (rw f at n)) (λ f. f)

row_fits : (r : List ℕ) → reply_ok r ≡ true → (number_ok (number_in r) ≡ true) × (size_in r ≤ longest_reply)
unfolding reply_ok
row_fits r e =
    let n : number_ok (number_in r) ≡ true = search (and_left, and_right) in
    let s : leb (size_in r) longest_reply ≡ true = search (and_left, and_right) in
    (n, leb-true (size_in r) longest_reply s)

pub answering : (d : List ℕ) (w : List (List ℕ)) → store_ok w ≡ true → is_kept d w ≡ true → Answering d w
unfolding is_kept kept_place
answering d w s e =
    let h = ltb-true (first_of (holds (three_asked d)) w) (length w) (and_right (asks_store d) (ltb (first_of (holds (three_asked d)) w) (length w)) e) in
    let o = first_passes (holds (three_asked d)) w [] h in
    let f = row_fits (kept_for d w) (reply_ok_lem (three_asked d) (kept_for d w) o (every_in kept_ok w (kept_place d w) [] (sound_of w s).each h)) in
    let m = octets_most (kept_for d w) in
    let z = f.1 in
    record { within = h; holding = o; number = f.0; size = omega arith }

-- ---- who asks the store: what concerns a session and is no reply to the unit's own request
unfoldable pub of_session : Asked → Bool
of_session (A.Silent number) = false
of_session A.Version = false
of_session (A.Echo recovery seq) = false
of_session (A.EchoReply recovery) = false
of_session (A.Create c seq) = false
of_session (A.Refused w to seq) = false
of_session (A.Session teid seq (S.Modify m)) = true
of_session (A.Session teid seq (S.Delete m)) = true
of_session (A.Session teid seq (S.Refused type w)) = true
of_session (A.Session teid seq (S.Bearer b)) = false

module _ (h : HeaderCursor) (type : ℕ) where
  modify_session : (d : Decoded) → ((q : Request) → d ≡ Ok q → is_modify q ≡ true) → of_session (request_asked h d (change_refused h type)) ≡ true
  unfolding of_session request_asked sound_asked session_asked change_refused is_modify
  modify_session (Err w) k = refl
  modify_session (Ok (Q.Create c)) k = impossible (k (Q.Create c) refl)
  modify_session (Ok (Q.Modify m)) k = refl
  modify_session (Ok (Q.Delete d)) k = refl

  delete_session : (d : Decoded) → ((q : Request) → d ≡ Ok q → is_delete q ≡ true) → of_session (request_asked h d (change_refused h type)) ≡ true
  unfolding of_session request_asked sound_asked session_asked change_refused is_delete
  delete_session (Err w) k = refl
  delete_session (Ok (Q.Create c)) k = impossible (k (Q.Create c) refl)
  delete_session (Ok (Q.Modify m)) k = refl
  delete_session (Ok (Q.Delete d)) k = refl

modify_kind : (n : ℕ) → eqb n modify_type ≡ true → kind_by n ≡ K.Modify
unfolding kind_by
modify_kind n f = rw f

delete_kind : (n : ℕ) → eqb n delete_type ≡ true → kind_by n ≡ K.Delete
unfolding kind_by
delete_kind n f = rw (eqb-true n delete_type f)

module _ (node : Node) (d : List ℕ) where
  pub asks_session : asks_store d ≡ true → of_session (asked_of node d) ≡ true
  unfolding asks_store asked_of header_of kind_asked
  asks_session e =
      let g : eqb (gate_of d) 0 ≡ true = and_left (eqb (gate_of d) 0) (eqb (kind_of d) modify_type || eqb (kind_of d) delete_type) e in
      let rest = drop (header_of d).fields d in
      or_split (eqb (kind_of d) modify_type) (eqb (kind_of d) delete_type) (and_right (eqb (gate_of d) 0) (eqb (kind_of d) modify_type || eqb (kind_of d) delete_type) e)
      (λ f. rw (g, modify_kind (kind_of d) f) (modify_session (header_of d) modify_reply_type (modify_of rest) (modify_answers rest).sort))
      (λ f. rw (g, delete_kind (kind_of d) f) (delete_session (header_of d) delete_reply_type (delete_of rest) (delete_answers rest).sort))

  pub others_ask_not : (a : Asked) → asked_of node d ≡ a → of_session a ≡ false → asks_store d ≡ false
  others_ask_not a e n =
      split (asks_store d) (λ f. impossible (sym n ∙ rw (← e) (asks_session f))) (λ f. f)
