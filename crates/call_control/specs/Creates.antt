-- Create (32), decoded and sound: Recovery; a repeat; the replaced session; the sharing rule;
-- the place that is taken; and the reply from the record.
-- Assumes nothing.
use Rattle.std.specs.Prelude.{ℕ, ◌%◌, Bool, ◌&&◌, List, length, get_or, eqb, ltb, Option, Some, None}
use Rattle.base_octets.specs.Number.{taken, no_free_place}
use Rattle.base_octets.specs.Choice.{pick}
use Rattle.base_octets.specs.Search.{first_of}
use Rattle.unit_tunnel.specs.Numbering.{teids}
use Rattle.unit_tunnel.specs.Tunnel.{control_number, user_number}
use Rattle.unit_plan.specs.declared.Plan.{Plan}
use Rattle.unit_plan.specs.Address.{address_of}
use Rattle.unit_sharing.specs.Sharing.{admits}
use Rattle.unit_session.specs.declared.Session.{Session}
use Rattle.unit_session.specs.declared.Opening.{Opening}
use Rattle.unit_session.specs.Session.{is_free, has_id, opened, freed}
use Rattle.unit_table.specs.declared.Node.{Node}
use Rattle.unit_table.specs.Rules.{live}
use Rattle.unit_table.specs.Change.{nobody, changed_at}
use Rattle.unit_table.specs.Find.{found_in}
use Rattle.wire_messages.specs.Messages.{create_accepted}
use Rattle.wire_fields.specs.declared.Refusal.{Refusal}
use Rattle.wire_fields.specs.Refusal.{bare_refusal, no_room_cause}
use Rattle.wire_messages.specs.Types.{create_reply_type}
use Rattle.wire_requests.specs.declared.Create as C
use Rattle.call_own.specs.declared.Span.{Span}
use Rattle.call_own.specs.Outcome.{Held, Outcome, no_places, all_places, one_place, two_places, changing, no_reply, replied}
use Rattle.call_control.specs.Amends.{cause_taken}
use Rattle.call_control.specs.Echoes.{restarts_by, heard_by}

-- what of a Create a session keeps
unfoldable pub opening_of : C.Create → ℕ → Opening
opening_of c seq = record {
  imsi = c.imsi;
  control = c.control;
  controladdr = c.controladdr;
  user = c.user;
  useraddr = c.useraddr;
  created = seq;
  point = c.point % 256;
  ebi = c.ebi;
}

-- the accepted reply, from the record of a place
unfoldable pub accepted_octets : Plan → ℕ → ℕ → Session → List ℕ
accepted_octets plan seq i s =
    create_accepted s.control seq (control_number s.usage i % teids) plan.control (address_of plan.pool i) s.ebi
    (user_number s.usage i % teids) plan.user plan.recovery

unfoldable pub accepted_taken : ℕ → ℕ → Session → Node → List Session → List ℕ → Outcome
accepted_taken seq i s node t reply = replied taken node t (accepted_octets node.plan seq i s) reply

-- no room: 73, no field named
unfoldable pub no_room : Refusal
no_room = bare_refusal no_room_cause

-- a place taken: where none is free, 11 and the table as it was lent
unfoldable pub opened_at : Option ℕ → C.Create → ℕ → Node → List Session → Node → List Session → List ℕ → Outcome
opened_at None c seq node t node₀ t₀ reply = no_reply no_free_place node₀ t₀ reply
opened_at (Some i) c seq node t node₀ t₀ reply =
    accepted_taken seq i (opened (opening_of c seq) (get_or t i nobody)) node (changed_at (opened (opening_of c seq)) i t) reply

-- the sharing rule, on the table without the replaced session
unfoldable pub shared : C.Create → ℕ → Node → List Session → Node → List Session → List ℕ → Outcome
shared c seq node t node₀ t₀ reply =
    pick (admits node.plan (live t) c.point)
    (opened_at (found_in is_free t) c seq node t node₀ t₀ reply)
    (cause_taken create_reply_type c.control seq no_room node t reply)

-- a repeat: the session with this IMSI and EBI has this access point and creating number. Any other session with them is freed first
unfoldable pub is_repeat : C.Create → ℕ → Session → Bool
is_repeat c seq s = eqb s.point c.point && eqb s.created seq

unfoldable pub settled_at : Option ℕ → C.Create → ℕ → Node → List Session → Node → List Session → List ℕ → Outcome
settled_at None c seq node t node₀ t₀ reply = shared c seq node t node₀ t₀ reply
settled_at (Some i) c seq node t node₀ t₀ reply =
    pick (is_repeat c seq (get_or t i nobody))
    (accepted_taken seq i (get_or t i nobody) node t reply)
    (shared c seq node (changed_at freed i t) node₀ t₀ reply)

-- after Recovery
unfoldable pub heard_create : C.Create → ℕ → Held → Node → List Session → List ℕ → Outcome
heard_create c seq a node₀ t₀ reply = settled_at (found_in (has_id c.imsi c.ebi) a.table) c seq a.node a.table node₀ t₀ reply

-- ---- the places that it may change
-- where i is the place of the session with this IMSI and EBI, or past the last: a repeat changes none; else that session is replaced, and a place
-- is opened if there is room
unfoldable pub opened_places : C.Create → ℕ → Node → List Session → ℕ → Span
opened_places c seq node t i =
    pick (ltb i (length t) && is_repeat c seq (get_or t i nobody)) no_places
    (pick (admits node.plan (live (changed_at freed i t)) c.point) (two_places i (first_of is_free (changed_at freed i t))) (one_place i))

-- a restart of the exchange changes all
unfoldable pub create_places : C.Create → ℕ → Node → List Session → Span
create_places c seq node t = pick (restarts_by c.recovery node) all_places (opened_places c seq node t (first_of (has_id c.imsi c.ebi) t))

unfoldable pub create_taken : C.Create → ℕ → Node → List Session → List ℕ → Outcome
create_taken c seq node t reply = changing (create_places c seq node t) (heard_create c seq (heard_by c.recovery node t) node t reply)
