-- That what specs/Place.antt says holds, and what that rests on.
-- Assumes nothing.
use Rattle.std.specs.Prelude.{ℕ, ◌<◌, true, false, List, ◌≢◌, ◌≡◌, length, get_or, eqb, ltb, Option, Some, None, Result, Ok, Err}
use Rattle.std.proofs.Math.Path.{refl}
use Rattle.std.proofs.Common.{sym, ◌∙◌, arith, ne_eqb}
use Rattle.std.proofs.lemmas.List.{length-map}
use Rattle.base_octets.specs.Choice.{split, impossible, tests}
use Rattle.base_octets.specs.Places.{map_at}
use Rattle.unit_tunnel.specs.Numbering.{control_offset, last_use}
use Rattle.unit_tunnel.specs.Tunnel.{next_use}
use Rattle.unit_sharing.specs.Sharing.{admits}
use Rattle.unit_session.specs.declared.Session.{Session}
use Rattle.unit_session.specs.declared.Opening.{Opening}
use Rattle.unit_session.specs.declared.Peers.{Peers}
use Rattle.unit_session.specs.Session.{is_free, has_id, waits_for, blank_at, freed, opened, moved}
use Rattle.unit_table.specs.declared.Node.{Node}
use Rattle.unit_table.specs.Rules.{keeps_rules, live}
use Rattle.unit_table.specs.Change.{at_changed, nobody, changed_at, length_changed}
use Rattle.unit_table.specs.Find.{place_found, found_in, owner_of}
use Rattle.wire_requests.specs.declared.Create as C
use Rattle.call_own.specs.Outcome.{bare_on, on_owner, least_reply, no_reply}
use Rattle.call_own.specs.OnSession.{on_at}
use Rattle.wire_requests.specs.declared.Modify as M
use Rattle.wire_requests.specs.declared.Delete as D
use Rattle.wire_requests.specs.Change.{moves_of, means_of}
use Rattle.call_asked.specs.declared.Concern.{Concern}
use Rattle.call_asked.specs.declared.Concern.TheVariants as S
use Rattle.call_asked.specs.declared.Asked.{Asked}
use Rattle.call_asked.specs.declared.Asked.TheVariants as A
use Rattle.call_asked.specs.Asked.{asked_of}
use Rattle.call_control.specs.Echoes.{restarts_by, heard_by, heard_either, echo_taken, echo_ended, echo_reply_taken}
use Rattle.call_control.specs.Amends.{peers_of, cause_taken, cause_on, moved_on, modify_by, modify_on, freed_on, delete_on, bearer_on, concern_on, none_on, session_on}
use Rattle.call_control.specs.Creates.{opening_of, accepted_taken, opened_at, shared, is_repeat, settled_at, heard_create, create_taken}
use Rattle.call_control.specs.Control.{asked_taken, control_taken}
use Rattle.promise_demands.specs.Place.{gone, After}
use Rattle.wire_requests.specs.declared.Moves.{Moves}
use Rattle.wire_fields.specs.declared.Refusal.{Refusal}
use Rattle.wire_requests.specs.declared.Unreadable.{Unreadable}

-- and, so far, no new one has come
record Left (s x : Session) : Type 0 where
  usage : x.usage ≡ s.usage
  after : After s x

left_same : (s : Session) → Left s s
left_same s = record { usage = refl; after = λ g. record { state = refl; own = refl } }

pub same_after : (s : Session) → After s s
same_after s = (left_same s).after

pub freed-gone : (usage : ℕ) (x : Session) → gone usage (freed x) ≡ true
unfolding gone freed blank_at is_free
freed-gone usage x = refl

freed-after : (s x : Session) → After s (freed x)
freed-after s x g = impossible (sym g ∙ freed-gone s.usage x)

left-freed : (s x : Session) → x.usage ≡ s.usage → Left s (freed x)
unfolding freed blank_at
left-freed s x e = record { usage = e; after = freed-after s x }

moved-after : (s x : Session) (q : Peers) → Left s x → After s (moved q x)
unfolding moved gone is_free
moved-after s x q l g = let m = l.after g in record { state = m.state; own = m.own }

-- taking a place steps its use, so that it is never the same
pub next_other : (usage : ℕ) → next_use usage ≢ usage
unfolding next_use last_use
next_other usage e = split (ltb usage last_use) (λ t. let f = rw t at e in omega arith) (λ t. let f = rw t at e in omega (arith, tests))

opened_after : (s x : Session) (o : Opening) → x.usage ≡ s.usage → After s (opened o x)
unfolding gone opened is_free
opened_after s x o e g = let f : eqb (next_use x.usage) s.usage ≡ false = ne_eqb (next_use x.usage) s.usage (λ z. next_other x.usage (z ∙ sym e)) in impossible (sym (rw f at g))

-- what concerns one session leaves it the same, or frees it
module _ (s : Session) (seq : ℕ) where
  same : After s s
  same = (left_same s).after

  modify_after : (m : M.Modify) → After s (modify_on m seq s).session
  unfolding modify_on modify_by moved_on cause_on
  modify_after m = by (moves_of m s.ebi)
    where
      by : (x : Result Moves Refusal) → After s (modify_by x m.context seq s).session
      by (Err w) = same
      by (Ok moves) = moved-after s s (peers_of moves.control moves.user s) (left_same s)

  delete_after : (d : D.Delete) → After s (delete_on d seq s).session
  unfolding delete_on freed_on cause_on
  delete_after d = split (means_of d s.ebi) (λ e. rw e (freed-after s s)) (λ e. rw e same)

  bearer_after : (b : Result ℕ Unreadable) → After s (bearer_on b seq s).session
  unfolding bearer_on bare_on
  bearer_after (Err u) = same
  bearer_after (Ok c) = split (waits_for seq s) (λ e. rw e (freed-after s s)) (λ e. rw e same)

  live-after : (x : Concern) → After s (concern_on x seq s).session
  unfolding concern_on cause_on
  live-after (S.Modify m) = modify_after m
  live-after (S.Delete d) = delete_after d
  live-after (S.Refused type w) = same
  live-after (S.Bearer b) = bearer_after b

  none_after : (x : Concern) → After s (none_on x seq s).session
  unfolding none_on cause_on bare_on
  none_after (S.Modify m) = same
  none_after (S.Delete d) = same
  none_after (S.Refused type w) = same
  none_after (S.Bearer b) = same

  session_after : (x : Concern) → After s (session_on x seq s).session
  unfolding session_on
  session_after x = split (is_free s) (λ e. rw e (none_after x)) (λ e. rw e (live-after x))

module _ (i : ℕ) (l₀ : List Session) where
  abbrev s₀ : Session
  s₀ = get_or l₀ i nobody

  freed-at : (l : List Session) (j : ℕ) → i < length l → Left s₀ (get_or l i nobody) → Left s₀ (get_or (changed_at freed j l) i nobody)
  freed-at l j h q = at_changed (Left s₀) freed l i j h q (λ e. left-freed s₀ (get_or l i nobody) q.usage)

  -- Recovery
  heard-at : (r : Option ℕ) (node : Node) (t : List Session) → t ≡ l₀ → i < length l₀ → Left s₀ (get_or (heard_by r node t).table i nobody)
  heard-at r node t e h =
      rw (heard_either r node t)
      (split (restarts_by r node)
      (λ q. rw (q, e, map_at freed l₀ i nobody nobody h) (left-freed s₀ s₀ refl))
      (λ q. rw (q, e) (left_same s₀)))

heard-length : (r : Option ℕ) (node : Node) (t : List Session) → length (heard_by r node t).table ≡ length t
heard-length r node t =
    rw (heard_either r node t) (split (restarts_by r node) (λ q. rw (q, length-map t freed)) (λ q. rw q))

-- ---- each type of control datagram
module _ (i : ℕ) (node : Node) (t : List Session) (h : i < length t) where
  abbrev here : Session
  here = get_or t i nobody

  echo_reply_at : (r : Option ℕ) (reply : List ℕ) → After here (get_or (echo_reply_taken node t r reply).table i nobody)
  unfolding echo_reply_taken echo_ended no_reply
  echo_reply_at r reply = (heard-at i t r node t refl h).after

  -- Create: what Recovery and the replaced session left, and the place that is taken
  module _ (c : C.Create) (seq : ℕ) (reply : List ℕ) where
    shared_at : (n : Node) (m : List Session) → i < length m → Left here (get_or m i nobody)
        → After here (get_or (shared c seq n m node t reply).table i nobody)
    unfolding shared opened_at accepted_taken cause_taken no_reply
    shared_at n m k q = split (admits n.plan (live m) c.point) (λ a. rw a (place (found_in is_free m))) (λ a. rw a q.after)
      where
        place : (f : Option ℕ) → After here (get_or (opened_at f c seq n m node t reply).table i nobody)
        place None = (left_same here).after
        place (Some j) = at_changed (After here) (opened (opening_of c seq)) m i j k q.after (λ e. opened_after here (get_or m i nobody) (opening_of c seq) q.usage)

    settled_at_lem : (n : Node) (b : List Session) → i < length b → Left here (get_or b i nobody) → (f : Option ℕ)
        → After here (get_or (settled_at f c seq n b node t reply).table i nobody)
    unfolding settled_at accepted_taken
    settled_at_lem n b k q None = shared_at n b k q
    settled_at_lem n b k q (Some j) =
        split (is_repeat c seq (get_or b j nobody)) (λ x. rw x q.after)
        (λ x. rw x (shared_at n (changed_at freed j b) (let z = length_changed freed j b in omega arith) (freed-at i t b j k q)))

  create-at : (c : C.Create) (seq : ℕ) (reply : List ℕ) → After here (get_or (create_taken c seq node t reply).table i nobody)
  unfolding create_taken heard_create
  create-at c seq reply =
      settled_at_lem c seq reply (heard_by c.recovery node t).node (heard_by c.recovery node t).table (let z = heard-length c.recovery node t in omega arith)
      (heard-at i t c.recovery node t refl h) (found_in (has_id c.imsi c.ebi) (heard_by c.recovery node t).table)

  asked_at : (a : Asked) (reply : List ℕ) → After here (get_or (asked_taken node t a reply).table i nobody)
  unfolding asked_taken echo_taken cause_taken on_owner no_reply
  asked_at (A.Silent number) reply = (left_same here).after
  asked_at A.Version reply = (left_same here).after
  asked_at (A.Echo r seq) reply = (heard-at i t r node t refl h).after
  asked_at (A.EchoReply r) reply = echo_reply_at r reply
  asked_at (A.Create c seq) reply = create-at c seq reply
  asked_at (A.Refused w to seq) reply = (left_same here).after
  asked_at (A.Session teid seq x) reply =
      on_at node t (place_found (owner_of control_offset teid.0 t) t) (session_on x seq) reply (After here) i h (left_same here).after (λ e. session_after here seq x)

  pub control_at : (d reply : List ℕ) → After here (get_or (control_taken node t d reply).table i nobody)
  unfolding control_taken no_reply
  control_at d reply =
      split (ltb (length reply) least_reply) (λ a. rw a (left_same here).after)
      (λ a. split (keeps_rules node t) (λ e. rw (a, e) (asked_at (asked_of node d) reply)) (λ e. rw (a, e) (left_same here).after))
