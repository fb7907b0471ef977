-- That what specs/Comes.antt says holds, and what that rests on.
-- Assumes nothing.
use Rattle.std.specs.Prelude.{ℕ, true, false, not, ◌≢◌, ◌≡◌, length, get_or, eqb, ltb, Option, Some, None, Result, Ok, Err}
use mathlib.Core.List.{List, [], ◌∷◌}
use Rattle.std.proofs.Math.Path.{refl}
use Rattle.std.proofs.Common.{sym, ap, arith, eqb-true}
use Rattle.std.proofs.lemmas.List.{set-get_or}
use Rattle.base_octets.specs.Choice.{split, impossible, and_left, and_right, or_split}
use Rattle.base_octets.specs.Every.{every}
use Rattle.base_octets.specs.Overlay.{overlay}
use Rattle.base_octets.specs.Search.{first_of}
use Rattle.unit_tunnel.specs.Numbering.{control_offset}
use Rattle.unit_sharing.specs.Sharing.{admits}
use Rattle.unit_session.specs.declared.Session.{Session}
use Rattle.unit_session.specs.Session.{is_free, has_id, waits_for, freed}
use Rattle.unit_table.specs.declared.Node.{Node}
use Rattle.unit_table.specs.Rules.{keeps_rules, live}
use Rattle.unit_table.specs.Change.{nobody, changed_at, changed_out}
use Rattle.unit_table.specs.Find.{place_found, found_in, owner_of, found_is}
use Rattle.unit_table.specs.Open.{replaced}
use Rattle.unit_store.specs.Row.{number_in, octets_in, number_ok}
use Rattle.wire_header.specs.Types.{among}
use Rattle.wire_messages.specs.Types.{echo_reply_type, create_reply_type}
use Rattle.wire_messages.specs.Messages.{version_not_supported, echo_of}
use Rattle.wire_requests.specs.declared.Create as C
use Rattle.wire_requests.specs.declared.Modify as M
use Rattle.wire_requests.specs.declared.Delete as D
use Rattle.wire_requests.specs.Change.{end_moves, context_moves, moves_of, means_of}
use Rattle.wire_fields.specs.Refusal.{refusal_of, not_live_cause, short_cause, wrong_cause, missing_cause}
use Rattle.call_own.specs.Outcome.{Outcome, Done, bare_on, on_session, on_owner, least_reply, no_reply, replied, changing}
use Rattle.call_asked.specs.declared.Concern.{Concern}
use Rattle.call_asked.specs.declared.Concern.TheVariants as S
use Rattle.call_asked.specs.declared.Asked.{Asked}
use Rattle.call_asked.specs.declared.Asked.TheVariants as A
use Rattle.call_asked.specs.Asked.{asked_of}
use Rattle.call_control.specs.Echoes.{heard_by, echo_taken, echo_reply_taken, heard_places}
use Rattle.call_control.specs.Amends.{cause_octets, cause_taken, cause_on, not_live, moved_on, modify_by, modify_on, freed_on, delete_on, bearer_on}
use Rattle.call_control.specs.Amends.{concern_on, none_on, session_on}
use Rattle.call_control.specs.Creates.{accepted_taken, no_room, opened_at, shared, is_repeat, settled_at, heard_create, create_taken, create_places}
use Rattle.call_control.specs.Control.{asked_taken, control_taken, restarts_in}
use Rattle.call_asked.specs.Answers.{create_numbers}
use Rattle.call_store.specs.Stored.{keeps, asks_store, is_kept, kept_for, store_after, taken_stored, control_stored}
use Rattle.call_store.specs.Laws.{keeps_table, keeps_store, control_by, answering}
use Rattle.call_store.specs.Answers.{asked_fits}
use Rattle.promise_demands.proofs.Creates.{none_found}
use Rattle.promise_demands.specs.Numbers.{silent_numbers, ConcernKnown, AskedKnown, created_numbers}
use Rattle.promise_demands.proofs.Numbers.{asked_known, created_number, kept_among}
use Rattle.call_own.specs.declared.Span.{Span}
use Rattle.promise_demands.specs.Comes.{control_silent, ButForPlaces, TableKept, ButForCreate, Not, OnOne}
use Rattle.wire_fields.specs.declared.Flaw.{Flaw}
use Rattle.wire_requests.specs.Chain.{if_present}
use Rattle.wire_fields.specs.declared.Tunnel.{Tunnel}
use Rattle.wire_requests.specs.declared.Context.{Context}
use Rattle.wire_fields.specs.declared.Flaw.TheVariants.{Missing, Short, Wrong}
use Rattle.wire_requests.specs.declared.Unreadable.{Unreadable}

-- ---- laws of lists of numbers
-- a number of a list that has none of another's is none of the other's
pub apart : (n : ℕ) (l m : List ℕ) → every (λ x. not (among x m)) l ≡ true → among n l ≡ true → among n m ≡ true → false ≡ true
unfolding every
apart n [] m w h k = h
apart n (x ∷ l) m w h k =
    or_split (eqb n x) (among n l) h
    (λ e. let a = and_left (not (among x m)) (every (λ y. not (among y m)) l) w in
    let f : among x m ≡ true = rw (← eqb-true n x e) k in rw f at a)
    (λ e. apart n l m (and_right (not (among x m)) (every (λ y. not (among y m)) l) w) e k)

-- a number that the store knows is in no list that has none of them
none_kept : (n : ℕ) (l : List ℕ) → number_ok n ≡ true → among n l ≡ true
    → every (λ x. not (among x l)) (0 ∷ not_live_cause ∷ short_cause ∷ wrong_cause ∷ missing_cause ∷ []) ≡ true → false ≡ true
none_kept n l h k e = apart n (0 ∷ not_live_cause ∷ short_cause ∷ wrong_cause ∷ missing_cause ∷ []) l e (kept_among n h) k

silent_none : every (λ x. not (among x control_silent)) (0 ∷ not_live_cause ∷ short_cause ∷ wrong_cause ∷ missing_cause ∷ []) ≡ true
unfolding every control_silent
silent_none = refl

five_none : every (λ x. not (among x (5 ∷ control_silent))) (0 ∷ not_live_cause ∷ short_cause ∷ wrong_cause ∷ missing_cause ∷ []) ≡ true
unfolding every control_silent
five_none = refl

two_none : every (λ x. not (among x (5 ∷ 73 ∷ []))) (0 ∷ not_live_cause ∷ short_cause ∷ wrong_cause ∷ missing_cause ∷ []) ≡ true
unfolding every
two_none = refl

pub not_is : (n x : ℕ) (l : List ℕ) → Not n l → among x l ≡ true → n ≢ x
not_is n x l h a e = let k : among n l ≡ true = rw e a in impossible (h k)

module _ (seq : ℕ) (s : Session) where
  done_on : (d : Done) → d.number ≡ 0 → OnOne s d
  unfolding control_silent
  done_on d e = record { other = rw e (λ k. k); silent = rw e (λ k. impossible k); kept = λ k. absurd (k e) }

  told_on : (d : Done) → Not d.number (5 ∷ 73 ∷ []) → Not d.number control_silent → d.session ≡ s → OnOne s d
  told_on d h k e = record { other = h; silent = λ a. impossible (k a); kept = λ a. e }

  quiet_on : OnOne s (bare_on 9 s)
  unfolding bare_on
  quiet_on = record { other = λ k. k; silent = λ k. refl; kept = λ k. refl }

  modify_on_lem : (m : M.Modify) → OnOne s (modify_on m seq s)
  unfolding modify_on modify_by moved_on cause_on moves_of context_moves end_moves refusal_of control_silent
  modify_on_lem m = by m.context m.context
    where
      end : (x : Option Context) (r : Result (Option Tunnel) Flaw) → OnOne s (modify_by (end_moves m.control r) x seq s)
      end x (Ok user) = done_on _ refl
      end x (Err Missing) = told_on (modify_by (end_moves m.control (Err Missing)) x seq s) (λ k. k) (λ k. k) refl
      end x (Err Short) = told_on (modify_by (end_moves m.control (Err Short)) x seq s) (λ k. k) (λ k. k) refl
      end x (Err Wrong) = told_on (modify_by (end_moves m.control (Err Wrong)) x seq s) (λ k. k) (λ k. k) refl

      by : (x y : Option Context) → OnOne s (modify_by (context_moves m.control y s.ebi) x seq s)
      by x None = done_on _ refl
      by x (Some context) = split (eqb context.ebi s.ebi) (λ e. rw e (end x (if_present context.user))) (λ e. rw e (told_on _ (λ k. k) (λ k. k) refl))

  delete_on_lem : (d : D.Delete) → OnOne s (delete_on d seq s)
  unfolding delete_on freed_on cause_on not_live control_silent
  delete_on_lem d = split (means_of d s.ebi) (λ e. rw e (done_on _ refl)) (λ e. rw e (told_on _ (λ k. k) (λ k. k) refl))

  bearer_on_lem : (b : Result ℕ Unreadable) → OnOne s (bearer_on b seq s)
  unfolding bearer_on bare_on
  bearer_on_lem (Err u) = quiet_on
  bearer_on_lem (Ok cause) = split (waits_for seq s) (λ e. rw e (done_on _ refl)) (λ e. rw e quiet_on)

  live_on_lem : (x : Concern) → ConcernKnown x → OnOne s (concern_on x seq s)
  unfolding concern_on cause_on ConcernKnown create_numbers control_silent every
  live_on_lem (S.Modify m) h = modify_on_lem m
  live_on_lem (S.Delete d) h = delete_on_lem d
  live_on_lem (S.Refused type w) h =
      told_on _ (apart w.cause create_numbers (5 ∷ 73 ∷ []) refl h) (apart w.cause create_numbers control_silent refl h) refl
  live_on_lem (S.Bearer b) h = bearer_on_lem b

  none_on_lem : (x : Concern) → OnOne s (none_on x seq s)
  unfolding none_on cause_on not_live control_silent
  none_on_lem (S.Modify m) = told_on _ (λ k. k) (λ k. k) refl
  none_on_lem (S.Delete d) = told_on _ (λ k. k) (λ k. k) refl
  none_on_lem (S.Refused type w) = told_on _ (λ k. k) (λ k. k) refl
  none_on_lem (S.Bearer b) = quiet_on

  session_on_lem : (x : Concern) → ConcernKnown x → OnOne s (session_on x seq s)
  unfolding session_on
  session_on_lem x h = split (is_free s) (λ e. rw e (none_on_lem x)) (λ e. rw e (live_on_lem x h))

module _ (node : Node) (t : List Session) (reply : List ℕ) where
  pub record Comes (a : Asked) (o : Outcome) : Type 0 where
    pub message : List ℕ
    pub over : ButForPlaces o (replied o.answer.number o.answer.node o.table message reply)
    pub silent : among o.answer.number control_silent ≡ true → message ≡ []
    pub five : o.answer.number ≡ 5 → message ≡ version_not_supported
    pub kept : o.answer.number ≢ 0 → o.answer.number ≢ 73 → TableKept o node t
    pub room : o.answer.number ≡ 73 → ButForCreate a o node t

  alone : (a : Asked) (n : ℕ) → Not n (5 ∷ 73 ∷ []) → Comes a (no_reply n node t reply)
  unfolding no_reply overlay
  alone a n h = record {
    message = [];
    over = refl;
    silent = λ k. refl;
    five = λ e. absurd (not_is n 5 (5 ∷ 73 ∷ []) h refl e);
    kept = λ k l. (refl, refl);
    room = λ e. absurd (not_is n 73 (5 ∷ 73 ∷ []) h refl e);
  }

  done : (a : Asked) (node' : Node) (t' : List Session) (m : List ℕ) → Comes a (replied 0 node' t' m reply)
  unfolding control_silent
  done a node' t' m = record {
    message = m;
    over = refl;
    silent = λ k. impossible k;
    five = λ e. absurd (omega arith);
    kept = λ k l. absurd (k refl);
    room = λ e. absurd (omega arith);
  }

  on : (a : Asked) (i : ℕ) (f : Session → Done) → OnOne (get_or t i nobody) (f (get_or t i nobody)) → Comes a (on_session node t i f reply)
  unfolding on_session changed_at
  on a i f h =
      let n = (f (get_or t i nobody)).number in
      record {
        message = (f (get_or t i nobody)).message;
        over = refl;
        silent = h.silent;
        five = λ e. absurd (not_is n 5 (5 ∷ 73 ∷ []) h.other refl e);
        kept = λ k l. (refl, rw (h.kept k) (set-get_or t i nobody));
        room = λ e. absurd (not_is n 73 (5 ∷ 73 ∷ []) h.other refl e);
      }

  -- whatever places it says
  with_places : (a : Asked) (span : Span) (o : Outcome) → Comes a o → Comes a (changing span o)
  with_places a span o c = record {
    message = c.message;
    over = ap (changing span) c.over;
    silent = c.silent;
    five = c.five;
    kept = c.kept;
    room = c.room;
  }

  -- a Create: t' and node' are as they are after Recovery
  module _ (c : C.Create) (seq : ℕ) where
    shared_comes : (t' : List Session) → t' ≡ replaced c.imsi c.ebi (heard_by c.recovery node t).table
        → Comes (A.Create c seq) (shared c seq (heard_by c.recovery node t).node t' node t reply)
    unfolding shared opened_at accepted_taken cause_taken no_room control_silent
    shared_comes t' e =
        split (admits (heard_by c.recovery node t).node.plan (live t') c.point) (λ q. rw q (place (found_in is_free t'))) (λ q. rw q full)
      where
        place : (f : Option ℕ) → Comes (A.Create c seq) (opened_at f c seq (heard_by c.recovery node t).node t' node t reply)
        place None = alone _ 11 (λ k. k)
        place (Some i) = done _ _ _ _

        full : Comes (A.Create c seq) (cause_taken create_reply_type c.control seq no_room (heard_by c.recovery node t).node t' reply)
        full = record {
          message = cause_octets create_reply_type c.control seq no_room;
          over = refl;
          silent = λ k. impossible k;
          five = λ k. absurd (omega arith);
          kept = λ k l. absurd (l refl);
          room = λ k. (c, seq, refl, refl, e);
        }

    create_comes : Comes (A.Create c seq) (create_taken c seq node t reply)
    unfolding create_taken heard_create settled_at replaced accepted_taken
    create_comes = with_places _ (create_places c seq node t) _ (by (found_in (has_id c.imsi c.ebi) l) refl)
      where
        l : List Session
        l = (heard_by c.recovery node t).table

        by : (f : Option ℕ) → found_in (has_id c.imsi c.ebi) (heard_by c.recovery node t).table ≡ f
            → Comes (A.Create c seq) (settled_at f c seq (heard_by c.recovery node t).node (heard_by c.recovery node t).table node t reply)
        by None e = shared_comes l (sym (changed_out freed (first_of (has_id c.imsi c.ebi) l) l (none_found (has_id c.imsi c.ebi) l e)))
        by (Some i) e =
            split (is_repeat c seq (get_or l i nobody)) (λ x. rw x (done _ _ _ _))
            (λ x. rw x (shared_comes (changed_at freed i l) (rw (found_is (has_id c.imsi c.ebi) l i e).1.0)))

  asked_comes : (a : Asked) → AskedKnown a → Comes a (asked_taken node t a reply)
  unfolding asked_taken AskedKnown echo_taken echo_reply_taken cause_taken on_owner no_reply overlay silent_numbers create_numbers control_silent every
  asked_comes (A.Silent number) h = alone _ number (apart number silent_numbers (5 ∷ 73 ∷ []) refl h)
  asked_comes A.Version h = record {
    message = version_not_supported;
    over = refl;
    silent = λ k. impossible k;
    five = λ k. refl;
    kept = λ k l. (refl, refl);
    room = λ k. absurd (omega arith);
  }
  asked_comes (A.Echo recovery seq) h = with_places _ (heard_places recovery node) _ (done _ _ _ (echo_of echo_reply_type seq node.plan.recovery))
  asked_comes (A.EchoReply recovery) h = with_places _ (heard_places recovery node) _ (done _ _ _ [])
  asked_comes (A.Create c seq) h = create_comes c seq
  asked_comes (A.Refused w to seq) h = record {
    message = cause_octets create_reply_type to seq w;
    over = refl;
    silent = λ k. impossible (apart w.cause create_numbers control_silent refl h k);
    five = λ k. absurd (not_is w.cause 5 (5 ∷ 73 ∷ []) (apart w.cause create_numbers (5 ∷ 73 ∷ []) refl h) refl k);
    kept = λ k l. (refl, refl);
    room = λ k. absurd (not_is w.cause 73 (5 ∷ 73 ∷ []) (apart w.cause create_numbers (5 ∷ 73 ∷ []) refl h) refl k);
  }
  asked_comes (A.Session teid seq x) h =
      let i = place_found (owner_of control_offset teid.0 t) t in
      on _ i (session_on x seq) (session_on_lem seq (get_or t i nobody) x h)

taken_comes : (node : Node) (t : List Session) (d reply : List ℕ) → Comes node t reply (asked_of node d) (control_taken node t d reply)
unfolding control_taken
taken_comes node t d reply =
    split (ltb (length reply) least_reply) (λ a. rw a (alone node t reply (asked_of node d) 1 (λ k. k)))
    (λ a. split (keeps_rules node t)
    (λ e. rw (a, e) (asked_comes node t reply (asked_of node d) (asked_known node d)))
    (λ e. rw (a, e) (alone node t reply (asked_of node d) 2 (λ k. k))))

-- a reply of the store: node and records as lent, and a number that is none of these
kept_comes : (node : Node) (t : List Session) (reply : List ℕ) (a : Asked) (n : ℕ) (m : List ℕ) → number_ok n ≡ true → Comes node t reply a (replied n node t m reply)
kept_comes node t reply a n m h = record {
  message = m;
  over = refl;
  silent = λ k. impossible (none_kept n control_silent h k silent_none);
  five = λ e. absurd (not_is n 5 (5 ∷ 73 ∷ []) (λ k. none_kept n (5 ∷ 73 ∷ []) h k two_none) refl e);
  kept = λ k l. (refl, refl);
  room = λ e. absurd (not_is n 73 (5 ∷ 73 ∷ []) (λ k. none_kept n (5 ∷ 73 ∷ []) h k two_none) refl e);
}

pub control_comes : (node : Node) (t : List Session) (w : List (List ℕ)) (d reply : List ℕ)
    → Comes node t reply (asked_of node d) (control_stored node t w d reply).call
control_comes node t w d reply =
    control_by node t w d reply (Comes node t reply (asked_of node d))
    (λ h. alone node t reply (asked_of node d) 1 (λ k. k))
    (λ h e. alone node t reply (asked_of node d) 2 (λ k. k))
    (λ h e f. kept_comes node t reply (asked_of node d) (number_in (kept_for d w)) (octets_in (kept_for d w)) (answering d w (keeps_store node t w e) f).number)
    (λ h e f. taken_comes node t d reply)

-- ---- a number whose cell is empty leaves the store
-- a Modify and a Delete have none of them
asked_loud : (node : Node) (t : List Session) (d reply : List ℕ) → asks_store d ≡ true
    → among (asked_taken node t (asked_of node d) reply).answer.number (5 ∷ control_silent) ≡ true → false ≡ true
asked_loud node t d reply e k =
    none_kept (asked_taken node t (asked_of node d) reply).answer.number (5 ∷ control_silent) (asked_fits node t reply d e).number k five_none

-- nor has what says that the exchange restarted
restart_loud : (node : Node) (t : List Session) (reply : List ℕ) → keeps_rules node t ≡ true → (a : Asked) → restarts_in a node ≡ true
    → among (asked_taken node t a reply).answer.number (5 ∷ control_silent) ≡ true → false ≡ true
unfolding restarts_in asked_taken echo_taken echo_reply_taken no_reply control_silent created_numbers every
restart_loud node t reply r (A.Silent number) e k = e
restart_loud node t reply r A.Version e k = e
restart_loud node t reply r (A.Echo recovery seq) e k = k
restart_loud node t reply r (A.EchoReply recovery) e k = k
restart_loud node t reply r (A.Create c seq) e k =
    apart (create_taken c seq node t reply).answer.number created_numbers (5 ∷ control_silent) refl (created_number node t c seq reply r) k
restart_loud node t reply r (A.Refused w to seq) e k = e
restart_loud node t reply r (A.Session teid seq x) e k = e

after-silent : (node : Node) (t : List Session) (w : List (List ℕ)) (d reply : List ℕ) → keeps_rules node t ≡ true
    → among (asked_taken node t (asked_of node d) reply).answer.number (5 ∷ control_silent) ≡ true
    → store_after node d (asked_taken node t (asked_of node d) reply) w ≡ w
unfolding store_after
after-silent node t w d reply r k =
    split (asks_store d) (λ e. impossible (asked_loud node t d reply e k))
    (λ e. split (restarts_in (asked_of node d) node) (λ f. impossible (restart_loud node t reply r (asked_of node d) f k)) (λ f. rw (e, f)))

pub store_stays : (node : Node) (t : List Session) (w : List (List ℕ)) (d reply : List ℕ)
    → among (control_stored node t w d reply).call.answer.number (5 ∷ control_silent) ≡ true → (control_stored node t w d reply).store ≡ w
unfolding control_stored taken_stored control_silent
store_stays node t w d reply =
    split (ltb (length reply) least_reply) (λ a. rw a (λ k. refl))
    (λ a. split (keeps node t w)
    (λ e. split (is_kept d w) (λ f. rw (a, e, f) (λ k. refl))
    (λ f. rw (a, e, f) (λ k. after-silent node t w d reply (keeps_table node t w e) k)))
    (λ e. rw (a, e) (λ k. refl)))
