-- A way to compute the control call on the two records that it can concern: which record is asked about, whether a place is opened, what becomes
-- of the two and what is put back. Nothing here is to be believed: crate step_whole shows that this is `control_taken` of the whole table.
-- Assumes nothing.
use Rattle.std.specs.Prelude.{◌≡◌, ℕ, ◌+◌, ◌-◌, ◌%◌, ◌<◌, ◌≤◌, Bool, true, false, ◌&&◌, List, length, ◌==◌, nat_lt, slice_index, slice_index_or, slice_set, Option, None}
use Rattle.std.proofs.Common.{sym, arith, lt-ltb, le-ltb}
use Rattle.std.proofs.Math.Path.{ap}
use Rattle.base_octets.specs.Choice.{pick}
use Rattle.base_octets.specs.Overlay.{overlay, Wrote}
use Rattle.base_octets.specs.Places.{map_first}
use Rattle.unit_tunnel.specs.Numbering.{places}
use Rattle.unit_plan.specs.declared.Plan.{Plan}
use Rattle.unit_sharing.specs.Sharing.{admits}
use Rattle.unit_session.specs.declared.Session.{Session}
use Rattle.unit_session.specs.Session.{freed, opened}
use Rattle.unit_table.specs.declared.Node.{Node}
use Rattle.unit_table.specs.declared.Change.TheVariants as Ch
use Rattle.unit_table.specs.Change.{nobody}
use Rattle.unit_table.specs.Become.{changed_by}
use Rattle.unit_table.specs.Own.{rested}
use Rattle.wire_messages.specs.Messages.{echo_of, version_not_supported}
use Rattle.step_keys.specs.Survey.{id_key, weight_of, weight_most}
use Rattle.step_keys.specs.Check.{unpacked_of}
use Rattle.wire_requests.specs.declared.Create as C
use Rattle.call_own.specs.declared.Span.{Span}
use Rattle.call_own.specs.Outcome.{Outcome, outcome, least_reply, no_places, all_places, one_place, two_places}
use Rattle.call_own.specs.Calls.{timed}
use Rattle.call_control.specs.Echoes.{heard_node}
use Rattle.call_control.specs.Control.{restarts_in}
use Rattle.call_control.specs.Amends.{cause_octets}
use Rattle.call_control.specs.Creates.{opening_of, accepted_octets, no_room, is_repeat}
use Rattle.step_check.specs.Summary.{stands_by}
use Rattle.step_check.specs.declared.Findings.{Findings}
use Rattle.step_check.specs.declared.Checked.{Checked}
use Rattle.step_session.specs.Amended.{AmendedWith, done_with, of_number}
use Rattle.step_control.specs.declared.Basis.{Basis}
use Rattle.step_control.specs.declared.Concerned.{Concerned}
use Rattle.step_control.specs.declared.Taken.{Taken}
use Rattle.unit_table.specs.Find.{control_place, has_control}
use Rattle.wire_messages.specs.Types.{create_reply_type, echo_reply_type}
use Rattle.call_asked.specs.declared.Concern.{Concern}
use Rattle.call_asked.specs.declared.Asked.{Asked}
use Rattle.call_asked.specs.declared.Asked.TheVariants as A
use Rattle.step_control.specs.declared.Verdict.{Verdict}
use Rattle.step_control.specs.declared.Verdict.TheVariants as Y
use Rattle.unit_session.specs.Wide.{long_words}

-- ---- of what is asked: whether all are freed first, and which record it is about
-- with a reply buffer that is short nothing is done, so that nobody is heard
unfoldable pub restarts_now : ℕ → Asked → Node → Bool
restarts_now room a node = pick (nat_lt room least_reply) false (restarts_in a node)

-- the key of IMSI and EBI that is asked for; 0, which no session has, where none is
unfoldable pub key_of : Asked → ℕ
key_of (A.Silent number) = 0
key_of A.Version = 0
key_of (A.Echo recovery seq) = 0
key_of (A.EchoReply recovery) = 0
key_of (A.Create c seq) = id_key c.imsi c.ebi
key_of (A.Refused w to seq) = 0
key_of (A.Session teid seq x) = 0

-- ---- what is seen of the records
-- the place of the record that it is about: that of the session with the key, or the one that is named; past the last where there is none
unfoldable pub old_of : Findings → Asked → ℕ
old_of findings (A.Silent number) = places
old_of findings A.Version = places
old_of findings (A.Echo recovery seq) = places
old_of findings (A.EchoReply recovery) = places
old_of findings (A.Create c seq) = pick {A = ℕ} (id_key c.imsi c.ebi == 0) places findings.old
old_of findings (A.Refused w to seq) = places
old_of findings (A.Session teid seq x) = control_place teid.0

-- after a restart no record is taken
unfoldable pub basis_by : Bool → ℕ → ℕ → ℕ → Bool → Basis
basis_by kept counts old free restart =
    pick (kept && restart) (record { kept = true; all = true; counts = 0; old = places; free = 0 })
    (record { kept = kept; all = false; counts = counts; old = old; free = free })

unfoldable pub basis_of : Checked → Node → Asked → ℕ → Basis
basis_of v node a room =
    basis_by (stands_by v.how) v.findings.summary.counts (old_of v.findings a) v.findings.free (restarts_now room a node)

-- ---- the place that is opened
-- a repeat of the Create that made the session of a place
unfoldable pub repeats_at : ℕ → C.Create → ℕ → Session → Bool
repeats_at place c seq s = nat_lt place places && is_repeat c seq s

-- the packed counts without a record
unfoldable pub counts_less : ℕ → Session → ℕ
counts_less counts s = (counts + long_words - weight_of s) % long_words

-- it is what gives the counts with the record's share
pub counts_less_lem : (r counts : ℕ) (s : Session) → r < long_words → (r + weight_of s) % long_words ≡ counts → r ≡ counts_less counts s
unfolding counts_less
counts_less_lem r counts s h e = let w = weight_most s in omega arith

-- in the words of the code: a difference that wraps
pub counts_less_is : (counts : ℕ) (s : Session) → (counts + (long_words - weight_of s)) % long_words ≡ counts_less counts s
unfolding counts_less
counts_less_is counts s = let w = weight_most s in omega arith

unfoldable pub room_for : Plan → ℕ → Session → ℕ → Bool
room_for plan counts s point = admits plan (λ a. slice_index (unpacked_of (counts_less counts s)) a) point

unfoldable pub lower : ℕ → ℕ → ℕ
lower a b = pick {A = ℕ} (nat_lt a b) a b

-- a repeat opens nothing; else the lower of the place that is freed and the first that is free, or there is no room
unfoldable pub verdict_of : Basis → Node → C.Create → ℕ → Session → Verdict
verdict_of g node c seq s =
    pick (repeats_at g.old c seq s) Y.Still
    (pick (room_for node.plan g.counts s c.point) (Y.Opens (lower g.old g.free)) Y.Full)

unfoldable pub verdict_in : Basis → Node → Asked → Session → Verdict
verdict_in g node (A.Silent number) s = Y.Still
verdict_in g node A.Version s = Y.Still
verdict_in g node (A.Echo recovery seq) s = Y.Still
verdict_in g node (A.EchoReply recovery) s = Y.Still
verdict_in g node (A.Create c seq) s = verdict_of g node c seq s
verdict_in g node (A.Refused w to seq) s = Y.Still
verdict_in g node (A.Session teid seq x) s = Y.Still

-- the place that is opened, past the table where none is
unfoldable pub opens_at : Verdict → ℕ
opens_at Y.Still = places
opens_at (Y.Opens place) = place
opens_at Y.Full = places

unfoldable pub concerned_of : Basis → Session → Verdict → Session → Concerned
concerned_of g s v t = record { kept = g.kept; all = g.all; old = g.old; new = opens_at v; verdict = v; oldrecord = s; newrecord = t }

-- the two records of a table, by what is opened
abbrev pub concerned_with : Basis → List Session → Verdict → Concerned
concerned_with g l v = concerned_of g (slice_index_or l g.old nobody) v (slice_index_or l (opens_at v) nobody)

unfoldable pub concerned_in : Basis → Node → List Session → Asked → Concerned
concerned_in g node l a = concerned_with g l (verdict_in g node a (slice_index_or l g.old nobody))

-- ---- what it comes to: an answer, and the reply buffer as it is left
pub record TakenWith : Type 0 where
  pub answer : Taken
  pub reply : List ℕ

abbrev pub taken_with : Taken → List ℕ → TakenWith
taken_with a reply = record { answer = a; reply = reply }

-- both records as they were
unfoldable pub unmoved_on : ℕ → ℕ → Bool → Option ℕ → Concerned → Taken
unmoved_on number size ended heard p = record { number = number; size = size; ended = ended; heard = heard; old = p.oldrecord; new = p.newrecord; span = no_places }

-- the same, with a message that answers
abbrev pub still_on : ℕ → Option ℕ → Concerned → List ℕ → List ℕ → TakenWith
still_on number heard p m reply = taken_with (unmoved_on number (length m) false heard p) (overlay m reply)

-- no room: 73, and the replaced session is gone
unfoldable pub full_on : C.Create → ℕ → Concerned → List ℕ → TakenWith
full_on c seq p reply = taken_with
    (record { number = no_room.cause; size = length (cause_octets create_reply_type c.control seq no_room); ended = false; heard = c.recovery; old = freed p.oldrecord; new = p.newrecord; span = one_place p.old })
    (overlay (cause_octets create_reply_type c.control seq no_room) reply)

unfoldable pub entered_on : C.Create → ℕ → Node → Concerned → List ℕ → TakenWith
entered_on c seq node p reply = taken_with
    (record {
      number = 0;
      size = length (accepted_octets node.plan seq p.new (opened (opening_of c seq) p.newrecord));
      ended = false;
      heard = c.recovery;
      old = freed p.oldrecord;
      new = opened (opening_of c seq) p.newrecord;
      span = two_places p.old p.new;
    })
    (overlay (accepted_octets node.plan seq p.new (opened (opening_of c seq) p.newrecord)) reply)

-- by what is opened: a repeat is answered from the record
unfoldable pub open_by : Verdict → C.Create → ℕ → Node → Concerned → List ℕ → TakenWith
open_by Y.Still c seq node p reply = still_on 0 c.recovery p (accepted_octets node.plan seq p.old p.oldrecord) reply
open_by (Y.Opens place) c seq node p reply = entered_on c seq node p reply
open_by Y.Full c seq node p reply = full_on c seq p reply

unfoldable pub open_on : C.Create → ℕ → Node → Concerned → List ℕ → TakenWith
open_on c seq node p reply = open_by p.verdict c seq node p reply

module _ (c : C.Create) (seq : ℕ) (node : Node) (p : Concerned) (reply : List ℕ) where
  open_is : (v : Verdict) → p.verdict ≡ v → open_by v c seq node p reply ≡ open_on c seq node p reply
  unfolding open_on
  open_is v e = ap (λ (x : Verdict). open_by x c seq node p reply) (sym e)

  pub open_still : p.verdict ≡ Y.Still → (size : ℕ) (after : List ℕ) → Wrote size after reply (accepted_octets node.plan seq p.old p.oldrecord)
      → taken_with (unmoved_on 0 size false c.recovery p) after ≡ open_on c seq node p reply
  unfolding open_by
  open_still e size after w = rw (w.length, w.octets) (open_is Y.Still e)

  pub open_in : (place : ℕ) → p.verdict ≡ Y.Opens place → entered_on c seq node p reply ≡ open_on c seq node p reply
  unfolding open_by
  open_in place e = open_is (Y.Opens place) e

  pub open_full : p.verdict ≡ Y.Full → full_on c seq p reply ≡ open_on c seq node p reply
  unfolding open_by
  open_full e = open_is Y.Full e

-- what concerns the session of the record, if it has the number
unfoldable pub named_places : Bool → ℕ → Span
named_places has i = pick has (one_place i) no_places

unfoldable pub named_with : Span → AmendedWith → Concerned → TakenWith
named_with span q p = taken_with
    (record { number = q.answer.number; size = q.answer.size; ended = false; heard = None; old = q.answer.session; new = p.newrecord; span = span })
    q.reply

unfoldable pub named_on : ℕ → Concern → ℕ → Concerned → List ℕ → TakenWith
named_on teid x seq p reply = named_with (named_places (has_control p.oldrecord teid) p.old) (done_with (of_number teid x seq p.oldrecord) reply) p

unfoldable pub asked_on : Node → Asked → Concerned → List ℕ → TakenWith
asked_on node (A.Silent number) p reply = taken_with (unmoved_on number 0 false None p) reply
asked_on node A.Version p reply = still_on 5 None p version_not_supported reply
asked_on node (A.Echo recovery seq) p reply = still_on 0 recovery p (echo_of echo_reply_type seq node.plan.recovery) reply
asked_on node (A.EchoReply recovery) p reply = taken_with (unmoved_on 0 0 true recovery p) reply
asked_on node (A.Create c seq) p reply = open_on c seq node p reply
asked_on node (A.Refused w to seq) p reply = still_on w.cause None p (cause_octets create_reply_type to seq w) reply
asked_on node (A.Session teid seq x) p reply = named_on teid.0 x seq p reply

-- in document 01's order: 1, 2, then what is asked
unfoldable pub taken_on : Node → Asked → Concerned → List ℕ → TakenWith
taken_on node a p reply =
    pick (nat_lt (length reply) least_reply) (taken_with (unmoved_on 1 0 false None p) reply)
    (pick p.kept (asked_on node a p reply) (taken_with (unmoved_on 2 0 false None p) reply))

module _ (node : Node) (a : Asked) (p : Concerned) (reply : List ℕ) where
  pub taken-short : length reply < least_reply → taken_with (unmoved_on 1 0 false None p) reply ≡ taken_on node a p reply
  unfolding taken_on
  taken-short h = rw (lt-ltb (length reply) least_reply h)

  module _ (room : least_reply ≤ length reply) where
    pub taken_broken : p.kept ≡ false → taken_with (unmoved_on 2 0 false None p) reply ≡ taken_on node a p reply
    unfolding taken_on
    taken_broken e =
        rw (le-ltb (length reply) least_reply room)
        (ap (λ (t : Bool). pick t (asked_on node a p reply) (taken_with (unmoved_on 2 0 false None p) reply)) (sym e))

    pub taken_kept : p.kept ≡ true → asked_on node a p reply ≡ taken_on node a p reply
    unfolding taken_on
    taken_kept e =
        rw (le-ltb (length reply) least_reply room)
        (ap (λ (t : Bool). pick t (asked_on node a p reply) (taken_with (unmoved_on 2 0 false None p) reply)) (sym e))

-- ---- what is put back
-- an echo that ended is due again after E ticks
unfoldable pub rested_node : Node → Node
rested_node node = timed (rested node.plan.interval node.echo) node.next node

unfoldable pub node_after : Taken → Node → Node
node_after o node = pick o.ended (rested_node (heard_node o.heard node)) (heard_node o.heard node)

-- how many records are freed first
unfoldable pub freed_count : Concerned → ℕ
freed_count p = pick {A = ℕ} p.all places 0

unfoldable pub concerned_put : List Session → Concerned → Taken → List Session
concerned_put l p o = slice_set (slice_set (map_first (changed_by Ch.Free) (freed_count p) l) p.old o.old) p.new o.new

-- the places that may have changed
unfoldable pub changed_places : Concerned → Taken → Span
changed_places p o = pick p.all all_places o.span

-- the answer with the node and the records
unfoldable pub placed_concerned : Node → Concerned → List Session → TakenWith → Outcome
placed_concerned node p l m = outcome
    (record { number = m.answer.number; size = m.answer.size; node = node_after m.answer node; span = changed_places p m.answer })
    (concerned_put l p m.answer)
    m.reply
