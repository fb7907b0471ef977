-- What a Modify and a Delete that ask the store are answered with can be kept: a number that the store's rules know, and a reply that its rows
-- have room for.
-- Assumes nothing.
use Rattle.std.specs.Prelude.{ℕ, ◌≤◌, false, ◌||◌, List, ◌≡◌, length, get_or, drop, Option, Some, None, Result, Ok, Err}
use Rattle.std.proofs.Math.Bool.{true}
use Rattle.std.proofs.Math.Path.{refl}
use Rattle.std.proofs.Common.{sym, eqb-true}
use native.Mathlib.Omega.{arith}
use Rattle.std.proofs.Math.Dec.{eqb}
use Rattle.base_octets.specs.Choice.{split, and_left, and_right, or_split, impossible}
use Rattle.unit_tunnel.specs.Numbering.{control_offset}
use Rattle.unit_session.specs.declared.Session.{Session}
use Rattle.unit_session.specs.Session.{is_free}
use Rattle.unit_table.specs.declared.Node.{Node}
use Rattle.unit_table.specs.Change.{nobody}
use Rattle.unit_table.specs.Find.{place_found, owner_of}
use Rattle.unit_store.specs.Row.{number_ok, longest_reply}
use Rattle.wire_messages.specs.Types.{modify_type, delete_type, modify_reply_type, delete_reply_type}
use Rattle.wire_messages.specs.Messages.{size_cause, size_fault, size_modify}
use Rattle.wire_fields.specs.declared.Refusal.{Refusal}
use Rattle.wire_fields.specs.Refusal.{refusal_of}
use Rattle.wire_fields.specs.declared.Fault.{Fault}
use Rattle.wire_header.specs.declared.HeaderCursor.{HeaderCursor}
use Rattle.wire_header.specs.declared.Kind.TheVariants as K
use Rattle.wire_header.specs.Types.{among, kind_by}
use Rattle.wire_header.specs.Header.{header_of, kind_of}
use Rattle.wire_header.specs.Gate.{gate_of}
use Rattle.wire_requests.specs.declared.Request.TheVariants as Q
use Rattle.wire_requests.specs.declared.Modify as M
use Rattle.wire_requests.specs.declared.Delete as D
use Rattle.wire_requests.specs.declared.Request.{Request}
use Rattle.wire_requests.specs.Change.{modify_of, delete_of, end_moves, context_moves, moves_of, means_of}
use Rattle.call_own.specs.Outcome.{Done, on_session, on_owner}
use Rattle.call_asked.specs.declared.Concern.{Concern}
use Rattle.call_asked.specs.declared.Concern.TheVariants as S
use Rattle.call_asked.specs.declared.Asked.{Asked}
use Rattle.call_asked.specs.Asked.{session_asked, change_refused, sound_asked, request_asked, kind_asked, asked_of}
use Rattle.call_asked.specs.Answers.{number_for, is_create, is_modify, is_delete, modify_numbers, delete_numbers, modify_answers}
use Rattle.call_asked.proofs.DeleteAnswers.{delete_answers}
use Rattle.call_control.specs.Amends.{cause_octets, fault_octets, cause_on, not_live, modify_octets, moved_on, modify_by, modify_on, freed_on, delete_on, concern_on, none_on, session_on}
use Rattle.call_control.specs.Control.{restarts_in, asked_taken}
use Rattle.call_store.specs.Stored.{asks_store}
use Rattle.wire_requests.specs.declared.Context.{Context}
use Rattle.wire_fields.specs.declared.Flaw.{Flaw}
use Rattle.wire_fields.specs.declared.Tunnel.{Tunnel}
use Rattle.wire_fields.specs.declared.Flaw.TheVariants.{Missing, Short, Wrong}
use Rattle.wire_requests.specs.Chain.{Decoded, if_present}

-- what the rows of a store can take
pub record Fits (n m : ℕ) : Type 0 where
  pub number : number_ok n ≡ true
  pub size : m ≤ longest_reply

abbrev FitsOn : Done → Type 0
FitsOn d = Fits d.number (length d.message)

-- ---- what concerns a session: a Modify, a Delete, or one of them that is refused with a cause of its list
cause_fits : (w : Refusal) (type teid seq : ℕ) → length (cause_octets type teid seq w) ≤ longest_reply
unfolding cause_octets fault_octets
cause_fits w type teid seq = by w.fault
  where
    by : (f : Option Fault) → length (fault_octets type teid seq w.cause f) ≤ longest_reply
    by None = let z = size_cause type teid seq w.cause in omega arith
    by (Some f) = let z = size_fault type teid seq w.cause f.kind f.instance in omega arith

cause_on_lem : (w : Refusal) (type teid seq : ℕ) (s : Session) → number_ok w.cause ≡ true → FitsOn (cause_on type teid seq w s)
unfolding cause_on
cause_on_lem w type teid seq s e = record { number = e; size = cause_fits w type teid seq }

module _ (seq : ℕ) (s : Session) where
  moved_size : (x : Option Context) (teid : ℕ) → length (modify_octets x teid seq s.ebi) ≤ longest_reply
  unfolding modify_octets
  moved_size None teid = let z = size_cause modify_reply_type teid seq 16 in omega arith
  moved_size (Some context) teid = let z = size_modify teid seq s.ebi in omega arith

  modify_fits : (m : M.Modify) → FitsOn (modify_on m seq s)
  unfolding modify_on modify_by moved_on moves_of context_moves end_moves refusal_of number_ok
  modify_fits m = by m.context m.context
    where
      end : (x : Option Context) (r : Result (Option Tunnel) Flaw) → FitsOn (modify_by (end_moves m.control r) x seq s)
      end x (Ok user) = record { number = refl; size = moved_size x _ }
      end x (Err Missing) = cause_on_lem _ modify_reply_type s.control seq s refl
      end x (Err Short) = cause_on_lem _ modify_reply_type s.control seq s refl
      end x (Err Wrong) = cause_on_lem _ modify_reply_type s.control seq s refl

      by : (x y : Option Context) → FitsOn (modify_by (context_moves m.control y s.ebi) x seq s)
      by x None = record { number = refl; size = moved_size x _ }
      by x (Some context) = split (eqb context.ebi s.ebi) (λ e. rw e (end x (if_present context.user))) (λ e. rw e (cause_on_lem _ modify_reply_type s.control seq s refl))

  delete_fits : (d : D.Delete) → FitsOn (delete_on d seq s)
  unfolding delete_on freed_on not_live number_ok
  delete_fits d =
      split (means_of d s.ebi)
      (λ e. rw e (record { number = refl; size = let z = size_cause delete_reply_type s.control seq 16 in omega arith }))
      (λ e. rw e (cause_on_lem not_live delete_reply_type s.control seq s refl))

  none_fits : (type : ℕ) → FitsOn (cause_on type 0 seq not_live s)
  unfolding not_live number_ok
  none_fits type = cause_on_lem not_live type 0 seq s refl

  refused-fits : (type : ℕ) (w : Refusal) → number_ok w.cause ≡ true → FitsOn (session_on (S.Refused type w) seq s)
  unfolding session_on none_on concern_on
  refused-fits type w h = split (is_free s) (λ e. rw e (none_fits type)) (λ e. rw e (cause_on_lem w type s.control seq s h))

  moves_fits : (m : M.Modify) → FitsOn (session_on (S.Modify m) seq s)
  unfolding session_on none_on concern_on
  moves_fits m = split (is_free s) (λ e. rw e (none_fits modify_reply_type)) (λ e. rw e (modify_fits m))

  ends_fits : (d : D.Delete) → FitsOn (session_on (S.Delete d) seq s)
  unfolding session_on none_on concern_on
  ends_fits d = split (is_free s) (λ e. rw e (none_fits delete_reply_type)) (λ e. rw e (delete_fits d))

-- ---- a cause of a Modify's or a Delete's list is one of the store's numbers
known_ok : (n : ℕ) → among n modify_numbers ≡ true → number_ok n ≡ true
unfolding modify_numbers number_ok
known_ok n e =
    or_split (eqb n 0) _ e (λ f. rw f)
    (λ g. or_split (eqb n 67) _ g (λ f. rw (eqb-true n 67 f))
    (λ h. or_split (eqb n 69) _ h (λ f. rw (eqb-true n 69 f))
    (λ i. or_split (eqb n 70) false i (λ f. rw (eqb-true n 70 f)) (λ f. impossible f))))

few_known : (n : ℕ) → among n delete_numbers ≡ true → among n modify_numbers ≡ true
unfolding delete_numbers modify_numbers
few_known n e =
    or_split (eqb n 0) _ e (λ f. rw f)
    (λ g. or_split (eqb n 67) false g (λ f. rw (eqb-true n 67 f)) (λ f. impossible f))

-- ---- the kinds that ask the store
modify_kind : (n : ℕ) → eqb n modify_type ≡ true → kind_by n ≡ K.Modify
unfolding kind_by
modify_kind n f = rw f

delete_kind : (n : ℕ) → eqb n delete_type ≡ true → kind_by n ≡ K.Delete
unfolding kind_by
delete_kind n f = rw (eqb-true n delete_type f)

-- ---- on the table
module _ (node : Node) (t : List Session) (reply : List ℕ) where
  abbrev FitsAsked : Asked → Type 0
  FitsAsked a = Fits (asked_taken node t a reply).answer.number (asked_taken node t a reply).answer.size

  abbrev record_for : HeaderCursor → Session
  record_for h = get_or t (place_found (owner_of control_offset h.teid t) t) nobody

  on_fits : (h : HeaderCursor) (x : Concern) → FitsOn (session_on x h.sequence (record_for h)) → FitsAsked (session_asked h x)
  unfolding asked_taken session_asked on_owner on_session
  on_fits h x f = f

  module _ (h : HeaderCursor) (type : ℕ) where
    refuse_fits : (w : Refusal) → among w.cause modify_numbers ≡ true → FitsAsked (change_refused h type w)
    unfolding change_refused
    refuse_fits w e = on_fits h (S.Refused type w) (refused-fits h.sequence (record_for h) type w (known_ok w.cause e))

    modified_fits : (d : Decoded) → among (number_for d) modify_numbers ≡ true → ((q : Request) → d ≡ Ok q → is_modify q ≡ true) → FitsAsked (request_asked h d (change_refused h type))
    unfolding request_asked number_for sound_asked is_modify
    modified_fits (Err w) e k = refuse_fits w e
    modified_fits (Ok (Q.Create c)) e k = impossible (k (Q.Create c) refl)
    modified_fits (Ok (Q.Modify m)) e k = on_fits h (S.Modify m) (moves_fits h.sequence (record_for h) m)
    modified_fits (Ok (Q.Delete d)) e k = impossible (k (Q.Delete d) refl)

    deleted_fits : (d : Decoded) → among (number_for d) modify_numbers ≡ true → ((q : Request) → d ≡ Ok q → is_delete q ≡ true) → FitsAsked (request_asked h d (change_refused h type))
    unfolding request_asked number_for sound_asked is_delete
    deleted_fits (Err w) e k = refuse_fits w e
    deleted_fits (Ok (Q.Create c)) e k = impossible (k (Q.Create c) refl)
    deleted_fits (Ok (Q.Modify m)) e k = impossible (k (Q.Modify m) refl)
    deleted_fits (Ok (Q.Delete d)) e k = on_fits h (S.Delete d) (ends_fits h.sequence (record_for h) d)

  modified : (d : List ℕ) → FitsAsked (kind_asked K.Modify (header_of d) (drop (header_of d).fields d) node)
  unfolding kind_asked
  modified d =
      let a = modify_answers (drop (header_of d).fields d) in
      modified_fits (header_of d) modify_reply_type (modify_of (drop (header_of d).fields d)) a.number a.sort

  deleted : (d : List ℕ) → FitsAsked (kind_asked K.Delete (header_of d) (drop (header_of d).fields d) node)
  unfolding kind_asked
  deleted d =
      let a = delete_answers (drop (header_of d).fields d) in
      deleted_fits (header_of d) delete_reply_type (delete_of (drop (header_of d).fields d)) (few_known (number_for (delete_of (drop (header_of d).fields d))) a.number) a.sort

  pub asked_fits : (d : List ℕ) → asks_store d ≡ true → FitsAsked (asked_of node d)
  unfolding asks_store asked_of header_of
  asked_fits d e =
      let g : eqb (gate_of d) 0 ≡ true = and_left (eqb (gate_of d) 0) (eqb (kind_of d) modify_type || eqb (kind_of d) delete_type) e in
      or_split (eqb (kind_of d) modify_type) (eqb (kind_of d) delete_type) (and_right (eqb (gate_of d) 0) (eqb (kind_of d) modify_type || eqb (kind_of d) delete_type) e)
      (λ f. let k : kind_by (kind_of d) ≡ K.Modify = modify_kind (kind_of d) f in rw (g, k) (modified d))
      (λ f. let k : kind_by (kind_of d) ≡ K.Delete = delete_kind (kind_of d) f in rw (g, k) (deleted d))

-- ---- who asks the store concerns a session, and brings no Recovery
module _ (node : Node) where
  request_still : (h : HeaderCursor) (type : ℕ) (d : Decoded) → ((q : Request) → d ≡ Ok q → is_create q ≡ false)
      → restarts_in (request_asked h d (change_refused h type)) node ≡ false
  unfolding request_asked change_refused sound_asked session_asked restarts_in is_create
  request_still h type (Err w) k = refl
  request_still h type (Ok (Q.Create c)) k = impossible (sym (k (Q.Create c) refl))
  request_still h type (Ok (Q.Modify m)) k = refl
  request_still h type (Ok (Q.Delete d)) k = refl

  no_create : (q : Request) → is_modify q ≡ true → is_create q ≡ false
  unfolding is_modify is_create
  no_create (Q.Create c) e = impossible e
  no_create (Q.Modify m) e = refl
  no_create (Q.Delete d) e = refl

  nor_create : (q : Request) → is_delete q ≡ true → is_create q ≡ false
  unfolding is_delete is_create
  nor_create (Q.Create c) e = impossible e
  nor_create (Q.Modify m) e = refl
  nor_create (Q.Delete d) e = refl

  still_modified : (h : HeaderCursor) (rest : List ℕ) → restarts_in (kind_asked K.Modify h rest node) node ≡ false
  unfolding kind_asked
  still_modified h rest = request_still h modify_reply_type (modify_of rest) (λ q e. no_create q ((modify_answers rest).sort q e))

  still_deleted : (h : HeaderCursor) (rest : List ℕ) → restarts_in (kind_asked K.Delete h rest node) node ≡ false
  unfolding kind_asked
  still_deleted h rest = request_still h delete_reply_type (delete_of rest) (λ q e. nor_create q ((delete_answers rest).sort q e))

  pub asked_still : (d : List ℕ) → asks_store d ≡ true → restarts_in (asked_of node d) node ≡ false
  unfolding asks_store asked_of header_of
  asked_still d e =
      let g : eqb (gate_of d) 0 ≡ true = and_left (eqb (gate_of d) 0) (eqb (kind_of d) modify_type || eqb (kind_of d) delete_type) e in
      or_split (eqb (kind_of d) modify_type) (eqb (kind_of d) delete_type) (and_right (eqb (gate_of d) 0) (eqb (kind_of d) modify_type || eqb (kind_of d) delete_type) e)
      (λ f. let k : kind_by (kind_of d) ≡ K.Modify = modify_kind (kind_of d) f in rw (g, k) (still_modified (header_of d) (drop (header_of d).fields d)))
      (λ f. let k : kind_by (kind_of d) ≡ K.Delete = delete_kind (kind_of d) f in rw (g, k) (still_deleted (header_of d) (drop (header_of d).fields d)))
