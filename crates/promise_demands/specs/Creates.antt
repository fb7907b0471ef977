-- A sound new Create after any run: 73 exactly when the sharing rule says so, and accepted otherwise; so accepted always for an access point
-- under its guarantee, and for one that has just lost a session.
-- Assumes nothing.
use Rattle.std.specs.Prelude.{ℕ, Bool, not, ◌&&◌, List, ◌≡◌, get_or, drop, Ok}
use Rattle.std.proofs.Math.Bool.{true}
use Rattle.base_octets.specs.Every.{every}
use Rattle.unit_plan.specs.declared.Plan.{Plan}
use Rattle.unit_session.specs.declared.Session.{Session}
use Rattle.unit_session.specs.Session.{has_id, opened}
use Rattle.unit_table.specs.Rules.{live_on}
use Rattle.unit_table.specs.Change.{nobody, changed_at}
use Rattle.unit_table.specs.Open.{replaced}
use Rattle.unit_table.specs.Room.{free_place}
use Rattle.wire_header.specs.Header.{header_of}
use Rattle.wire_header.specs.Gate.{gate_of}
use Rattle.wire_requests.specs.declared.Create as C
use Rattle.wire_requests.specs.declared.Request.TheVariants as Q
use Rattle.wire_requests.specs.Create.{create_of}
use Rattle.call_own.specs.Outcome.{Outcome, changing, Held}
use Rattle.wire_messages.specs.Types.{create_reply_type}
use Rattle.call_control.specs.Echoes.{heard_by}
use Rattle.call_control.specs.Amends.{cause_taken}
use Rattle.call_control.specs.Creates.{opening_of, accepted_taken, no_room, is_repeat, create_places}
use Rattle.call_store.specs.Stored.{State}

-- ---- what is asked
-- Recovery is read first: the records and what goes with them after it
abbrev pub heard : C.Create → State → Held
heard c s = heard_by c.recovery s.node s.table

-- the session that a Create repeats: live, with this IMSI, EBI, access point and creating sequence number
unfoldable pub repeats : C.Create → ℕ → Session → Bool
repeats c seq s = has_id c.imsi c.ebi s && is_repeat c seq s

-- the datagram is a Create that passes every check before the sharing rule: those of the header, and every field; it holds c
pub record SoundCreate (p : Plan) (d : List ℕ) (c : C.Create) : Type 0 where
  pub header : gate_of d ≡ 0
  pub kind : (header_of d).kind ≡ 32
  pub fields : create_of p (drop (header_of d).fields d) ≡ Ok (Q.Create c)

-- and it is new: no session, as they are after Recovery, is the one that it repeats
pub record NewCreate (p : Plan) (s : State) (d : List ℕ) (c : C.Create) : Type 0 where
  pub sound : SoundCreate p d c
  pub new : every (λ x. not (repeats c (header_of d).sequence x)) (heard c s).table ≡ true

-- the records of which the sharing rule is asked: after Recovery, and without the session that has this IMSI and EBI
unfoldable pub table_asked : C.Create → State → List Session
table_asked c s = replaced c.imsi c.ebi (heard c s).table

-- u of these records
abbrev pub asked_u : C.Create → State → ℕ → ℕ
asked_u c s a = live_on a (table_asked c s)

-- ---- what is done where the rule admits it: the lowest free place is opened, and the 78 octets go out
unfoldable pub accepted_of : ℕ → C.Create → State → List ℕ → Outcome
accepted_of seq c s reply =
    changing (create_places c seq s.node s.table)
    (accepted_taken seq (free_place (table_asked c s)) (opened (opening_of c seq) (get_or (table_asked c s) (free_place (table_asked c s)) nobody)) (heard c s).node
    (changed_at (opened (opening_of c seq)) (free_place (table_asked c s)) (table_asked c s)) reply)

-- and where it does not: cause 73, to the TEID of the sender
unfoldable pub refused_of : ℕ → C.Create → State → List ℕ → Outcome
refused_of seq c s reply =
    changing (create_places c seq s.node s.table) (cause_taken create_reply_type c.control seq no_room (heard c s).node (table_asked c s) reply)
