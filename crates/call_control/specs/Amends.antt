-- Modify (34), Delete (36) and the reply to a Delete Bearer (100), on the record of the session that they are for: what is refused with which
-- cause and to whom, what becomes of the record, and the reply.
-- Assumes nothing.
use Rattle.std.specs.Prelude.{ℕ, List, Option, Some, None, Result, Ok, Err, unwrap_or}
use Rattle.base_octets.specs.Number.{taken, not_awaited}
use Rattle.base_octets.specs.Choice.{pick}
use Rattle.unit_session.specs.declared.Session.{Session}
use Rattle.unit_session.specs.declared.Peers.{Peers}
use Rattle.unit_session.specs.Session.{is_free, waits_for, freed, moved}
use Rattle.unit_table.specs.declared.Node.{Node}
use Rattle.wire_messages.specs.Messages.{cause_reply, fault_reply, modify_bearer}
use Rattle.wire_fields.specs.declared.Refusal.{Refusal}
use Rattle.wire_fields.specs.declared.Fault.{Fault}
use Rattle.wire_fields.specs.Refusal.{bare_refusal, not_live_cause, accepted_cause}
use Rattle.wire_messages.specs.Types.{modify_reply_type, delete_reply_type}
use Rattle.wire_requests.specs.declared.Modify as M
use Rattle.wire_requests.specs.declared.Delete as D
use Rattle.wire_requests.specs.Change.{moves_of, means_of}
use Rattle.call_asked.specs.declared.Concern.{Concern}
use Rattle.call_asked.specs.declared.Concern.TheVariants as S
use Rattle.call_own.specs.Outcome.{Outcome, replied, Done, bare_on}
use Rattle.wire_requests.specs.declared.Moves.{Moves}
use Rattle.wire_requests.specs.declared.Context.{Context}
use Rattle.wire_fields.specs.declared.Tunnel.{Tunnel}
use Rattle.wire_requests.specs.declared.Unreadable.{Unreadable}

-- ---- a reply with a cause: the number is the cause, the table as it was
-- with the field at fault where one is named
unfoldable pub fault_octets : ℕ → ℕ → ℕ → ℕ → Option Fault → List ℕ
fault_octets type teid seq cause None = cause_reply type teid seq cause
fault_octets type teid seq cause (Some fault) = fault_reply type teid seq cause fault.kind fault.instance

unfoldable pub cause_octets : ℕ → ℕ → ℕ → Refusal → List ℕ
cause_octets type teid seq w = fault_octets type teid seq w.cause w.fault

unfoldable pub cause_taken : ℕ → ℕ → ℕ → Refusal → Node → List Session → List ℕ → Outcome
cause_taken type teid seq w node t reply = replied w.cause node t (cause_octets type teid seq w) reply

unfoldable pub cause_on : ℕ → ℕ → ℕ → Refusal → Session → Done
cause_on type teid seq w s = record { number = w.cause; session = s; message = cause_octets type teid seq w }

-- a session that is not there: `not_live_cause`, to nobody
unfoldable pub not_live : Refusal
not_live = bare_refusal not_live_cause

-- ---- Modify
-- where the peer is now: of the two tunnel ends each that came, and the old one of each that did not
abbrev pub control_end : Session → Tunnel
control_end s = record { teid = s.control; address = s.controladdr }

abbrev pub user_end : Session → Tunnel
user_end s = record { teid = s.user; address = s.useraddr }

unfoldable pub peers_of : Option Tunnel → Option Tunnel → Session → Peers
peers_of c u s = record {
  control = (unwrap_or c (control_end s)).teid;
  controladdr = (unwrap_or c (control_end s)).address;
  user = (unwrap_or u (user_end s)).teid;
  useraddr = (unwrap_or u (user_end s)).address;
}

-- the reply goes to the peer as it is after the change; a Bearer Context that came gets one back
unfoldable pub modify_octets : Option Context → ℕ → ℕ → ℕ → List ℕ
modify_octets None teid seq ebi = cause_reply modify_reply_type teid seq accepted_cause
modify_octets (Some context) teid seq ebi = modify_bearer teid seq ebi

unfoldable pub moved_on : Option Context → Peers → ℕ → Session → Done
moved_on context p seq s = record { number = taken; session = moved p s; message = modify_octets context p.control seq s.ebi }

-- all tests pass or nothing changes; a refusal answers the peer as it was
unfoldable pub modify_by : Result Moves Refusal → Option Context → ℕ → Session → Done
modify_by (Err w) context seq s = cause_on modify_reply_type s.control seq w s
modify_by (Ok moves) context seq s = moved_on context (peers_of moves.control moves.user s) seq s

unfoldable pub modify_on : M.Modify → ℕ → Session → Done
modify_on m seq s = modify_by (moves_of m s.ebi) m.context seq s

-- ---- Delete: another EBI than the session's is `not_live_cause`
unfoldable pub freed_on : ℕ → Session → Done
freed_on seq s = record { number = taken; session = freed s; message = cause_reply delete_reply_type s.control seq accepted_cause }

unfoldable pub delete_on : D.Delete → ℕ → Session → Done
delete_on d seq s = pick (means_of d s.ebi) (freed_on seq s) (cause_on delete_reply_type s.control seq not_live s)

-- ---- the reply to a Delete Bearer: with the awaited number and a readable Cause it frees the session
unfoldable pub bearer_on : Result ℕ Unreadable → ℕ → Session → Done
bearer_on (Err u) seq s = bare_on not_awaited s
bearer_on (Ok cause) seq s = pick (waits_for seq s) (bare_on taken (freed s)) (bare_on not_awaited s)

-- ---- whichever is asked: of a live session
unfoldable pub concern_on : Concern → ℕ → Session → Done
concern_on (S.Modify m) seq s = modify_on m seq s
concern_on (S.Delete d) seq s = delete_on d seq s
concern_on (S.Refused type w) seq s = cause_on type s.control seq w s
concern_on (S.Bearer b) seq s = bearer_on b seq s

-- where the number is no live session's: `not_live_cause`, to nobody; the reply to a Delete Bearer is not awaited
unfoldable pub none_on : Concern → ℕ → Session → Done
none_on (S.Modify m) seq s = cause_on modify_reply_type 0 seq not_live s
none_on (S.Delete d) seq s = cause_on delete_reply_type 0 seq not_live s
none_on (S.Refused type w) seq s = cause_on type 0 seq not_live s
none_on (S.Bearer b) seq s = bare_on not_awaited s

-- a free record stands for a session that there is not
unfoldable pub session_on : Concern → ℕ → Session → Done
session_on x seq s = pick (is_free s) (none_on x seq s) (concern_on x seq s)
