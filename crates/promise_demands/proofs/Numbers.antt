-- That what specs/Numbers.antt says holds, and what that rests on.
-- Assumes nothing.
use Rattle.std.specs.Prelude.{ℕ, ◌+◌, Bool, true, false, not, ◌&&◌, List, [], ◌∷◌, ◌≡◌, length, get_or, drop, eqb, ltb, Option, Some, None, Result, Ok, Err}
use Rattle.std.proofs.Math.Path.{refl}
use Rattle.std.proofs.Common.{sym, ◌∙◌, eqb-true, lt-ltb}
use Rattle.base_octets.specs.Choice.{split, impossible, and_left, and_right, or_split}
use Rattle.base_octets.specs.Every.{every}
use Rattle.base_octets.specs.Search.{first_of}
use Rattle.unit_tunnel.specs.Numbering.{places, control_offset}
use Rattle.unit_plan.specs.declared.Plan.{Plan}
use Rattle.unit_plan.specs.Plan.{accepted}
use Rattle.unit_sharing.specs.Sharing.{admits}
use Rattle.unit_session.specs.declared.Session.{Session}
use Rattle.unit_session.specs.OwnRequest.{awaits}
use Rattle.unit_session.specs.Session.{is_free, has_id, waits_for, freed}
use Rattle.unit_table.specs.declared.Node.{Node}
use Rattle.unit_table.specs.Rules.{keeps_rules, rules_of, rules_to, live}
use Rattle.unit_table.specs.Change.{nobody, changed_at, rules-freed}
use Rattle.unit_table.specs.Find.{place_found, found_in, owner_of}
use Rattle.unit_table.specs.Own.{due_place}
use Rattle.unit_table.specs.Room.{free_place, place_free}
use Rattle.unit_store.specs.Row.{number_in, number_ok}
use Rattle.wire_fields.specs.declared.Refusal.{Refusal}
use Rattle.wire_header.specs.declared.HeaderCursor.{HeaderCursor}
use Rattle.wire_header.specs.declared.Kind.{Kind}
use Rattle.wire_header.specs.declared.Kind.TheVariants as K
use Rattle.wire_header.specs.Types.{among, flag_of, not_taken, kind_by}
use Rattle.wire_messages.specs.Types.{create_type, modify_reply_type, delete_reply_type}
use Rattle.wire_header.specs.Header.{header_of, version_of, flag_p, flag_t, kind_of, length_of, teid_of, header_size}
use Rattle.wire_header.specs.Gate.{refused_with, gate_of, control_version}
use Rattle.wire_requests.specs.Carried as carried
use Rattle.wire_requests.specs.declared.Create as C
use Rattle.wire_requests.specs.declared.Request.TheVariants as Q
use Rattle.wire_requests.specs.Create.{create_of}
use Rattle.wire_requests.specs.declared.Modify as M
use Rattle.wire_requests.specs.declared.Delete as D
use Rattle.wire_requests.specs.Change.{modify_of, delete_of, end_moves, context_moves, moves_of, means_of}
use Rattle.call_asked.specs.Answers.{number_for, create_numbers, modify_numbers, delete_numbers, create-answers, modify_answers}
use Rattle.call_asked.proofs.DeleteAnswers.{delete_answers}
use Rattle.call_own.specs.Outcome.{Outcome, Done, bare_on, on_session, on_owner, least_reply, no_reply}
use Rattle.call_own.specs.Kept.{fresh_leaves}
use Rattle.call_own.specs.Calls.{fresh_answer, fresh_of, tick_of, close_on, close_of, echo_sent, place_sent, due_sent, send_of}
use Rattle.call_asked.specs.declared.Concern.{Concern}
use Rattle.call_asked.specs.declared.Concern.TheVariants as S
use Rattle.call_asked.specs.declared.Asked.{Asked}
use Rattle.call_asked.specs.declared.Asked.TheVariants as A
use Rattle.call_asked.specs.Asked.{end_asked, session_asked, create_refused, change_refused, sound_asked, request_asked, kind_asked, asked_of}
use Rattle.call_control.specs.Echoes.{heard_by, echo_taken, echo_reply_taken, heard-keeps}
use Rattle.call_control.specs.Amends.{cause_taken, cause_on, not_live, moved_on, modify_by, modify_on, freed_on, delete_on, bearer_on, concern_on, none_on, session_on}
use Rattle.call_control.specs.Creates.{accepted_taken, no_room, opened_at, shared, is_repeat, settled_at, heard_create, create_taken}
use Rattle.call_control.specs.Control.{asked_taken, control_taken}
use Rattle.call_line.specs.Line.{line_by, line_of}
use Rattle.wire_fields.specs.Refusal.{refusal_of, not_live_cause, short_cause, wrong_cause, missing_cause}
use Rattle.call_store.specs.Stored.{kept_for}
use Rattle.call_store.specs.Laws.{keeps_table, keeps_store, tick_keeping, send_sound, close_sound, line_sound, fresh_counted, control_by, answering}
use Rattle.promise_demands.specs.Numbers.{fresh_numbers, tick_numbers, close_numbers, send_numbers, line_numbers, control_numbers, silent_numbers, created_numbers, ConcernKnown, AskedKnown, FreshNumbers, TickNumbers, CloseNumbers, SendNumbers, LineNumbers, ControlNumbers}
use Rattle.wire_fields.specs.declared.Flaw.{Flaw}
use Rattle.wire_fields.specs.declared.Tunnel.{Tunnel}
use Rattle.wire_requests.specs.declared.Context.{Context}
use Rattle.wire_requests.specs.declared.Request.{Request}
use Rattle.wire_fields.specs.declared.Flaw.TheVariants.{Missing, Short, Wrong}
use Rattle.wire_requests.specs.declared.Unreadable.{Unreadable}
use Rattle.wire_requests.specs.Chain.{Decoded, if_present}

-- ---- laws of lists of numbers
-- a number of one list is a number of a list that has all of it
pub among_more : (n : ℕ) (l m : List ℕ) → every (λ x. among x m) l ≡ true → among n l ≡ true → among n m ≡ true
unfolding every
among_more n [] m w h = impossible h
among_more n (x ∷ l) m w h =
    or_split (eqb n x) (among n l) h
    (λ e. rw (eqb-true n x e) (and_left (among x m) (every (λ y. among y m) l) w))
    (λ e. among_more n l m (and_right (among x m) (every (λ y. among y m) l) w) e)

-- a number that the list has not does not come
pub among_other : (n m : ℕ) (l : List ℕ) → among n l ≡ true → among m l ≡ false → n ≡ m → ⊥
among_other n m l h f e = impossible (sym f ∙ rw (← e) h)

-- ---- fresh, tick, close, send, line
fresh_number : (p : Plan) (t : List Session) → length t ≡ places → among (fresh_of p t).answer.number fresh_numbers ≡ true
unfolding fresh_answer fresh_numbers
fresh_number p t n = rw (fresh_leaves p t n) (split (accepted p) (λ q. rw q) (λ q. rw q))

module _ (node : Node) (t : List Session) (e : keeps_rules node t ≡ true) where
  tick_number : among (tick_of node t).answer.number tick_numbers ≡ true
  unfolding tick_of no_reply tick_numbers
  tick_number = rw e

  close_number : (i : ℕ) → among (close_of node t i).answer.number close_numbers ≡ true
  unfolding close_of on_session close_on bare_on close_numbers
  close_number i = split (is_free (get_or t i nobody)) (λ q. rw (e, q)) (λ q. rw (e, q))

  send_number : (reply : List ℕ) → among (send_of node t reply).answer.number send_numbers ≡ true
  unfolding send_of due_sent echo_sent place_sent no_reply send_numbers
  send_number reply =
      split (ltb (length reply) least_reply) (λ q. rw q)
      (λ q. split (eqb node.echo.timer 0) (λ z. rw (q, e, z))
      (λ z. split (ltb (due_place t) (length t)) (λ d. rw (q, e, z, d)) (λ d. rw (q, e, z, d))))

  line_number : (place : ℕ) (reply : List ℕ) → among (line_of node t place reply).answer.number line_numbers ≡ true
  unfolding line_of line_by line_numbers
  line_number place reply =
      split (ltb (length reply) least_reply) (λ q. rw q)
      (λ q. split (ltb place (length t)) (λ h. rw (q, e, h)) (λ h. rw (q, e, h)))

-- ---- take control datagram, type by type
abbrev Answered : Outcome → Type 0
Answered o = among o.answer.number control_numbers ≡ true

-- what concerns one session
abbrev AnsweredOn : Done → Type 0
AnsweredOn d = among d.number control_numbers ≡ true

module _ (seq : ℕ) (s : Session) where
  modify_number : (m : M.Modify) → AnsweredOn (modify_on m seq s)
  unfolding modify_on modify_by moved_on cause_on moves_of context_moves end_moves refusal_of control_numbers
  modify_number m = by m.context m.context
    where
      end : (x : Option Context) (r : Result (Option Tunnel) Flaw) → AnsweredOn (modify_by (end_moves m.control r) x seq s)
      end x (Ok user) = refl
      end x (Err Missing) = refl
      end x (Err Short) = refl
      end x (Err Wrong) = refl

      by : (x y : Option Context) → AnsweredOn (modify_by (context_moves m.control y s.ebi) x seq s)
      by x None = refl
      by x (Some context) = split (eqb context.ebi s.ebi) (λ e. rw e (end x (if_present context.user))) (λ e. rw e)

  delete_number : (d : D.Delete) → AnsweredOn (delete_on d seq s)
  unfolding delete_on freed_on cause_on not_live control_numbers
  delete_number d = split (means_of d s.ebi) (λ e. rw e) (λ e. rw e)

  bearer_number : (b : Result ℕ Unreadable) → AnsweredOn (bearer_on b seq s)
  unfolding bearer_on bare_on control_numbers
  bearer_number (Err u) = refl
  bearer_number (Ok cause) = split (waits_for seq s) (λ e. rw e) (λ e. rw e)

  live_number : (x : Concern) → ConcernKnown x → AnsweredOn (concern_on x seq s)
  unfolding concern_on cause_on ConcernKnown create_numbers control_numbers every
  live_number (S.Modify m) h = modify_number m
  live_number (S.Delete d) h = delete_number d
  live_number (S.Refused type w) h = among_more w.cause create_numbers control_numbers refl h
  live_number (S.Bearer b) h = bearer_number b

  none_number : (x : Concern) → AnsweredOn (none_on x seq s)
  unfolding none_on cause_on not_live bare_on control_numbers
  none_number (S.Modify m) = refl
  none_number (S.Delete d) = refl
  none_number (S.Refused type w) = refl
  none_number (S.Bearer b) = refl

  session_number : (x : Concern) → ConcernKnown x → AnsweredOn (session_on x seq s)
  unfolding session_on
  session_number x h = split (is_free s) (λ e. rw e (none_number x)) (λ e. rw e (live_number x h))

-- whoever the sharing rule admits finds a place: this is where 11 falls away
free_found : (node : Node) (l : List Session) (a : ℕ) → keeps_rules node l ≡ true → admits node.plan (live l) a ≡ true → found_in is_free l ≡ Some (free_place l)
unfolding found_in free_place
free_found node l a e q =
    rw (lt-ltb (first_of is_free l) (length l) (place_free node.plan node.echo node.next l (rules_of node l e) a q))

-- a sound Create is taken, or there is no room
abbrev Created : Outcome → Type 0
Created o = among o.answer.number created_numbers ≡ true

module _ (c : C.Create) (seq : ℕ) (node₀ : Node) (t₀ : List Session) (reply : List ℕ) where
  shared_number : (node : Node) (t : List Session) → keeps_rules node t ≡ true → Created (shared c seq node t node₀ t₀ reply)
  unfolding shared opened_at accepted_taken cause_taken no_room created_numbers
  shared_number node t e =
      split (admits node.plan (live t) c.point) (λ q. rw (q, free_found node t c.point e q)) (λ q. rw q)

  settled_number : (node : Node) (t : List Session) → keeps_rules node t ≡ true → (f : Option ℕ) → Created (settled_at f c seq node t node₀ t₀ reply)
  unfolding settled_at accepted_taken created_numbers
  settled_number node t e None = shared_number node t e
  settled_number node t e (Some i) =
      split (is_repeat c seq (get_or t i nobody)) (λ x. rw x)
      (λ x. rw x (shared_number node (changed_at freed i t)
      (rules_to node (changed_at freed i t) (rules-freed node.plan node.echo node.next t (rules_of node t e) i))))

pub created_number : (node : Node) (t : List Session) (c : C.Create) (seq : ℕ) (reply : List ℕ) → keeps_rules node t ≡ true → Created (create_taken c seq node t reply)
unfolding create_taken heard_create
created_number node t c seq reply e =
    settled_number c seq node t reply (heard_by c.recovery node t).node (heard_by c.recovery node t).table (heard-keeps node t e c.recovery)
    (found_in (has_id c.imsi c.ebi) (heard_by c.recovery node t).table)

create_number : (node : Node) (t : List Session) (c : C.Create) (seq : ℕ) (reply : List ℕ) → keeps_rules node t ≡ true → Answered (create_taken c seq node t reply)
unfolding created_numbers control_numbers every
create_number node t c seq reply e =
    among_more (create_taken c seq node t reply).answer.number created_numbers control_numbers refl (created_number node t c seq reply e)

-- the header's refusals
refuse_among : (n : ℕ) (t : Bool) (rest : ℕ) (l : List ℕ) → among n l ≡ true → among rest l ≡ true → among (refused_with n t rest) l ≡ true
refuse_among n true rest l a b = a
refuse_among n false rest l a b = b

refusals_among : (a b c d e f g h : Bool) → among (refused_with 3 a (refused_with 5 b (refused_with 4 c (refused_with 7 d (refused_with 8 e (refused_with 6 f (refused_with 6 g (refused_with 8 h 0)))))))) (5 ∷ silent_numbers) ≡ true
unfolding silent_numbers
refusals_among a b c d e f g h =
    refuse_among 3 a (refused_with 5 b (refused_with 4 c (refused_with 7 d (refused_with 8 e (refused_with 6 f (refused_with 6 g (refused_with 8 h 0))))))) (5 ∷ silent_numbers) refl
    (refuse_among 5 b (refused_with 4 c (refused_with 7 d (refused_with 8 e (refused_with 6 f (refused_with 6 g (refused_with 8 h 0)))))) (5 ∷ silent_numbers) refl
    (refuse_among 4 c (refused_with 7 d (refused_with 8 e (refused_with 6 f (refused_with 6 g (refused_with 8 h 0))))) (5 ∷ silent_numbers) refl
    (refuse_among 7 d (refused_with 8 e (refused_with 6 f (refused_with 6 g (refused_with 8 h 0)))) (5 ∷ silent_numbers) refl
    (refuse_among 8 e (refused_with 6 f (refused_with 6 g (refused_with 8 h 0))) (5 ∷ silent_numbers) refl
    (refuse_among 6 f (refused_with 6 g (refused_with 8 h 0)) (5 ∷ silent_numbers) refl
    (refuse_among 6 g (refused_with 8 h 0) (5 ∷ silent_numbers) refl
    (refuse_among 8 h 0 (5 ∷ silent_numbers) refl refl)))))))

gate_number : (d : List ℕ) → among (gate_of d) (5 ∷ silent_numbers) ≡ true
unfolding gate_of
gate_number d =
    refusals_among (ltb (length d) 8) (not (eqb (version_of d) control_version)) (eqb (flag_p d) 1) (eqb (flag_of (kind_of d)) not_taken)
    (not (eqb (flag_of (kind_of d)) (flag_t d))) (not (eqb (length_of d + 4) (length d))) (ltb (length d) (header_size d))
    (eqb (kind_of d) create_type && ltb 0 (teid_of d))

module _ (node : Node) (h : HeaderCursor) (rest : List ℕ) where
  request_known : (d : Decoded) (refused : Refusal → Asked) → ((w : Refusal) → among w.cause create_numbers ≡ true → AskedKnown (refused w))
      → among (number_for d) create_numbers ≡ true → AskedKnown (request_asked h d refused)
  unfolding AskedKnown ConcernKnown request_asked sound_asked session_asked number_for
  request_known (Err w) refused k e = k w e
  request_known (Ok (Q.Create c)) refused k e = tt
  request_known (Ok (Q.Modify m)) refused k e = tt
  request_known (Ok (Q.Delete d)) refused k e = tt

  end_known : (r : Result (Option ℕ) Unreadable) → AskedKnown (end_asked r h.sequence node)
  unfolding AskedKnown end_asked silent_numbers
  end_known (Err u) = refl
  end_known (Ok recovery) = split (awaits h.sequence node.echo) (λ q. rw q tt) (λ q. rw q)

  kind_known : (k : Kind) → AskedKnown (kind_asked k h rest node)
  unfolding AskedKnown ConcernKnown kind_asked create_refused change_refused session_asked create_numbers modify_numbers delete_numbers silent_numbers every
  kind_known K.Echo = tt
  kind_known K.EchoReply = end_known (carried.echo_reply_read rest)
  kind_known K.Create = request_known (create_of node.plan rest) (create_refused h rest) (λ w k. k) (create-answers node.plan rest).number
  kind_known K.Modify =
      let d = modify_of rest in
      request_known d (change_refused h modify_reply_type) (λ w k. k)
      (among_more (number_for d) modify_numbers create_numbers refl (modify_answers rest).number)
  kind_known K.Delete =
      let d = delete_of rest in
      request_known d (change_refused h delete_reply_type) (λ w k. k)
      (among_more (number_for d) delete_numbers create_numbers refl (delete_answers rest).number)
  kind_known K.BearerReply = tt
  kind_known K.Other = refl

pub asked_known : (node : Node) (d : List ℕ) → AskedKnown (asked_of node d)
unfolding AskedKnown asked_of silent_numbers
asked_known node d =
    split (eqb (gate_of d) 0) (λ b. rw b (kind_known node (header_of d) (drop (header_of d).fields d) (kind_by (header_of d).kind)))
    (λ b. split (eqb (gate_of d) 5) (λ c. rw (b, c) tt) (λ c. rw (b, c) (rw c at (gate_number d))))

module _ (node : Node) (t : List Session) (e : keeps_rules node t ≡ true) (reply : List ℕ) where
  asked_number : (a : Asked) → AskedKnown a → Answered (asked_taken node t a reply)
  unfolding asked_taken AskedKnown echo_taken echo_reply_taken cause_taken on_owner on_session no_reply silent_numbers create_numbers control_numbers every
  asked_number (A.Silent number) h = among_more number silent_numbers control_numbers refl h
  asked_number A.Version h = refl
  asked_number (A.Echo recovery seq) h = refl
  asked_number (A.EchoReply recovery) h = refl
  asked_number (A.Create c seq) h = create_number node t c seq reply e
  asked_number (A.Refused w to seq) h = among_more w.cause create_numbers control_numbers refl h
  asked_number (A.Session teid seq x) h = session_number seq (get_or t (place_found (owner_of control_offset teid.0 t) t) nobody) x h

  control_number_lem : (d : List ℕ) → Answered (control_taken node t d reply)
  unfolding control_taken no_reply control_numbers
  control_number_lem d = split (ltb (length reply) least_reply) (λ a. rw a) (λ a. rw (a, e) (asked_number (asked_of node d) (asked_known node d)))

-- a kept reply has a number of its list
pub kept_among : (n : ℕ) → number_ok n ≡ true → among n (0 ∷ not_live_cause ∷ short_cause ∷ wrong_cause ∷ missing_cause ∷ []) ≡ true
unfolding number_ok
kept_among n e =
    split (eqb n 0) (λ a. rw (eqb-true n 0 a))
    (λ a. split (eqb n not_live_cause) (λ b. rw (eqb-true n not_live_cause b))
    (λ b. split (eqb n short_cause) (λ c. rw (eqb-true n short_cause c))
    (λ c. split (eqb n wrong_cause) (λ f. rw (eqb-true n wrong_cause f))
    (λ f. split (eqb n missing_cause) (λ g. rw (eqb-true n missing_cause g))
    (λ g. impossible (rw (a, b, c, f, g) at e))))))

kept_number : (n : ℕ) → number_ok n ≡ true → among n control_numbers ≡ true
unfolding control_numbers every
kept_number n e = among_more n (0 ∷ not_live_cause ∷ short_cause ∷ wrong_cause ∷ missing_cause ∷ []) control_numbers refl (kept_among n e)

pub fresh_numbers_lem : FreshNumbers
unfolding FreshNumbers
fresh_numbers_lem plan t w n m = rw (fresh_counted plan t w m) (fresh_number plan t n)

pub tick_numbers_lem : TickNumbers
unfolding TickNumbers
tick_numbers_lem node t w k = rw (tick_keeping node t w k) (tick_number node t (keeps_table node t w k))

pub close_numbers_lem : CloseNumbers
unfolding CloseNumbers
close_numbers_lem node t w place k = rw (close_sound node t w (keeps_store node t w k) place) (close_number node t (keeps_table node t w k) place)

pub send_numbers_lem : SendNumbers
unfolding SendNumbers
send_numbers_lem node t w reply k = rw (send_sound node t w (keeps_store node t w k) reply) (send_number node t (keeps_table node t w k) reply)

pub line_numbers_lem : LineNumbers
unfolding LineNumbers
line_numbers_lem node t w place reply k =
    rw (line_sound node t w (keeps_store node t w k) place reply) (line_number node t (keeps_table node t w k) place reply)

pub control_numbers_lem : ControlNumbers
unfolding ControlNumbers no_reply control_numbers
control_numbers_lem node t w d reply k =
    control_by node t w d reply (λ o. among o.answer.number control_numbers ≡ true)
    (λ h. refl) (λ h e. impossible (sym e ∙ k))
    (λ h e f. kept_number (number_in (kept_for d w)) (answering d w (keeps_store node t w k) f).number)
    (λ h e f. control_number_lem node t (keeps_table node t w k) reply d)
