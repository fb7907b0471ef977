-- Every call with the store keeps the rules, of the table and of the store; fresh under an accepted plan leaves them kept.
-- Assumes nothing.
use Rattle.std.specs.Prelude.{ℕ, ◌<◌, true, ◌||◌, List, [], ◌∷◌, ◌≡◌, refl, length, get_or}
use Rattle.std.proofs.Math.Bool.{false}
use Rattle.std.proofs.Common.{arith}
use Rattle.std.proofs.Math.Dec.{eqb, ltb}
use borrow.Author.Tests.{eqb-true, ltb-true, ltb-false}
use Rattle.base_octets.specs.Choice.{split, and_right, or_split}
use Rattle.base_octets.specs.Every.{every, every-at}
use Rattle.base_octets.specs.Sums.{sum_of, count_of}
use Rattle.base_octets.specs.Search.{first_of, first_none}
use Rattle.base_octets.specs.BigEndian.{is_octet, number_of, number_from}
use Rattle.unit_plan.specs.declared.Plan.{Plan}
use Rattle.unit_plan.specs.Plan.{accepted}
use Rattle.unit_session.specs.declared.Session.{Session}
use Rattle.unit_table.specs.declared.Node.{Node}
use Rattle.unit_table.specs.Rules.{keeps_rules}
use Rattle.unit_store.specs.Row.{store_rows, head_of, three_in, holds, kept_ok, life_in, blank_row, row_of}
use Rattle.unit_store.specs.Store.{store_ok, pushed, aged, keeps_kept, keeps-aged, keeps-emptied, vacant_ok}
use Rattle.unit_store.specs.Made.{made_three, made_ok}
use Rattle.wire_messages.specs.Types.{modify_type, delete_type}
use Rattle.wire_header.specs.Header.{kind_of, sequence_of, teid_of, with_teid, teid_octets}
use Rattle.wire_header.specs.Gate.{gate_of}
use Rattle.call_own.specs.Outcome.{Outcome, least_reply, no_reply}
use Rattle.call_own.specs.Calls.{fresh_held, tick_of, close_of, send_of}
use Rattle.call_own.specs.Kept.{fresh_keeps, tick_keeps, close_keeps, send_keeps}
use Rattle.call_asked.specs.Asked.{asked_of}
use Rattle.call_control.specs.Control.{restarts_in, asked_taken, control_taken}
use Rattle.call_control.specs.Kept.{control_keeps}
use Rattle.call_store.specs.Stored.{Stored, stored, keeps, close_stored, send_stored, empty_store, fresh_state, tick_stored, asks_store, head_asked, three_asked, kept_place, is_kept, store_after, control_stored}
use Rattle.call_store.specs.Answers.{Fits, asked_fits}
use Rattle.call_store.specs.Laws.{keeps_table, keeps_store, keeps_both, close_sound, send_sound, tick_keeping, control_short, control_kept, control_new}

-- ---- what a header says, of a datagram of octets
four : (a b c d : ℕ) → is_octet a ≡ true → is_octet b ≡ true → is_octet c ≡ true → is_octet d ≡ true → number_of (a ∷ b ∷ c ∷ d ∷ []) < 4294967296
unfolding number_of number_from is_octet
four a b c d p q r s =
    let w = ltb-true a 256 p in
    let x = ltb-true b 256 q in
    let y = ltb-true c 256 r in
    let z = ltb-true d 256 s in
    omega arith

pub teid_small : (d : List ℕ) → every is_octet d ≡ true → teid_of d < 4294967296
unfolding teid_of teid_octets is_octet
teid_small d o =
    split (with_teid d)
    (λ t. rw t (four (get_or d 4 0) (get_or d 5 0) (get_or d 6 0) (get_or d 7 0) (every-at is_octet d 4 0 o refl) (every-at is_octet d 5 0 o refl) (every-at is_octet d 6 0 o refl) (every-at is_octet d 7 0 o refl)))
    (λ t. rw t (omega arith))

module _ (d : List ℕ) (e : asks_store d ≡ true) where
  pub asks_kind : (eqb (kind_of d) modify_type || eqb (kind_of d) delete_type) ≡ true
  unfolding asks_store
  asks_kind = and_right (eqb (gate_of d) 0) (eqb (kind_of d) modify_type || eqb (kind_of d) delete_type) e

  pub head_small : head_asked d < 4294967296
  unfolding head_asked head_of
  head_small =
      or_split (eqb (kind_of d) modify_type) (eqb (kind_of d) delete_type) asks_kind
      (λ f. let z = eqb-true (kind_of d) modify_type f in omega arith) (λ f. let z = eqb-true (kind_of d) delete_type f in omega arith)

  -- the row that is kept: its three are the request's, and it keeps the rules
  module _ (o : every is_octet d ≡ true) (number size : ℕ) (reply : List ℕ) where
    pub asked_three : three_in (row_of (head_asked d) (teid_of d) number size reply) ≡ three_asked d
    unfolding three_asked
    asked_three = made_three (head_asked d) (teid_of d) number size reply head_small (teid_small d o)

    pub asked_ok : Fits number size → kept_ok (row_of (head_asked d) (teid_of d) number size reply) ≡ true
    unfolding head_asked
    asked_ok f = made_ok (kind_of d) (sequence_of d) (teid_of d) number size reply asks_kind f.number f.size

  -- one that is not kept has no row
  pub unkept_none : (w : List (List ℕ)) → is_kept d w ≡ false → count_of (holds (three_asked d)) w ≡ 0
  unfolding is_kept kept_place
  unkept_none w f =
      let n = rw e at f in
      first_none (holds (three_asked d)) w (ltb-false (first_of (holds (three_asked d)) w) (length w) n)

-- ---- the store after a datagram that it did not answer
module _ (node : Node) (t : List Session) (d reply : List ℕ) (o : every is_octet d ≡ true) (w : List (List ℕ)) (s : store_ok w ≡ true) where
  abbrev result : Outcome
  result = asked_taken node t (asked_of node d) reply

  abbrev row : List ℕ
  row = row_of (head_asked d) (teid_of d) result.answer.number result.answer.size result.reply

  row_keeps : asks_store d ≡ true → is_kept d w ≡ false → store_ok (pushed row w) ≡ true
  row_keeps e n =
      keeps_kept row w s
      (asked_ok d e o result.answer.number result.answer.size result.reply (asked_fits node t reply d e))
      (rw (asked_three d e o result.answer.number result.answer.size result.reply) (unkept_none d e w n))

  pub after-keeps : is_kept d w ≡ false → store_ok (store_after node d result w) ≡ true
  unfolding store_after
  after-keeps n =
      split (asks_store d) (λ e. rw e (row_keeps e n))
      (λ e. split (restarts_in (asked_of node d) node) (λ r. rw (e, r) (keeps-emptied w s)) (λ r. rw (e, r) s))

-- ---- each call
pub taken_asked : (node : Node) (t : List Session) → keeps_rules node t ≡ true → (d reply : List ℕ) → ltb (length reply) least_reply ≡ false
    → control_taken node t d reply ≡ asked_taken node t (asked_of node d) reply
unfolding control_taken
taken_asked node t k d reply a = rw (a, k)

abbrev pub LeftKept : Stored → Type 0
LeftKept o = keeps o.call.answer.node o.call.table o.store ≡ true

module _ (node : Node) (t : List Session) (w : List (List ℕ)) (k : keeps node t w ≡ true) where
  pub close_stored_keeps : (i : ℕ) → LeftKept (stored (close_stored node t w i) w)
  close_stored_keeps i =
      rw (close_sound node t w (keeps_store node t w k) i)
      (keeps_both (close_of node t i).answer.node (close_of node t i).table w (close_keeps node t (keeps_table node t w k) i) (keeps_store node t w k))

  pub send_stored_keeps : (reply : List ℕ) → LeftKept (stored (send_stored node t w reply) w)
  send_stored_keeps reply =
      rw (send_sound node t w (keeps_store node t w k) reply)
      (keeps_both (send_of node t reply).answer.node (send_of node t reply).table w (send_keeps node t (keeps_table node t w k) reply) (keeps_store node t w k))

  pub tick_stored_keeps : LeftKept (tick_stored node t w)
  tick_stored_keeps =
      rw (tick_keeping node t w k)
      (keeps_both (tick_of node t).answer.node (tick_of node t).table (aged w) (tick_keeps node t (keeps_table node t w k)) (keeps-aged w (keeps_store node t w k)))

  pub control_stored_keeps : (d reply : List ℕ) → every is_octet d ≡ true → LeftKept (control_stored node t w d reply)
  unfolding no_reply
  control_stored_keeps d reply o =
      split (ltb (length reply) least_reply)
      (λ a. rw (control_short node t w d reply (ltb-true (length reply) least_reply a)) k)
      (λ a. let room = ltb-false (length reply) least_reply a in
      split (is_kept d w)
      (λ e. rw (control_kept node t w d reply room k e) k)
      (λ e. rw (control_new node t w d reply room k e) (new a e)))
    where
      new : ltb (length reply) least_reply ≡ false → is_kept d w ≡ false → LeftKept (stored (control_taken node t d reply) (store_after node d (control_taken node t d reply) w))
      new a e =
          keeps_both (control_taken node t d reply).answer.node (control_taken node t d reply).table (store_after node d (control_taken node t d reply) w)
          (control_keeps node t (keeps_table node t w k) reply d o)
          (rw comes_to_lem (after-keeps node t d reply o w (keeps_store node t w k) e))
        where
          comes_to_lem : control_taken node t d reply ≡ asked_taken node t (asked_of node d) reply
          comes_to_lem = taken_asked node t (keeps_table node t w k) d reply a

-- ---- fresh
no_lives : sum_of life_in empty_store ≡ 0
unfolding sum_of life_in empty_store blank_row
no_lives = refl

empty_size : eqb (length empty_store) store_rows ≡ true
unfolding empty_store
empty_size = refl

pub empty_ok : store_ok empty_store ≡ true
unfolding store_ok
empty_ok = rw empty_size (vacant_ok empty_store no_lives)

pub fresh_stored_keeps : (p : Plan) → accepted p ≡ true → keeps (fresh_state p).node (fresh_state p).table (fresh_state p).store ≡ true
unfolding fresh_state
fresh_stored_keeps p a = keeps_both (fresh_held p).node (fresh_held p).table empty_store (fresh_keeps p a) empty_ok
