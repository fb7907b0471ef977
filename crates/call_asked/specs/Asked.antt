-- What a control datagram asks for: the first refusal of its header, or what it carries, read by its kind. The order of the header's refusals is
-- 3, 5, 4, 7, 8, 6, 8; number 5 is answered, the others are silent.
-- Assumes nothing.
use Rattle.std.specs.Prelude.{ℕ, List, drop, eqb, Option, Result, Ok, Err}
use Rattle.base_octets.specs.Number.{taken, other_version, not_awaited}
use Rattle.base_octets.specs.Choice.{pick}
use Rattle.unit_session.specs.OwnRequest.{awaits}
use Rattle.unit_table.specs.declared.Node.{Node}
use Rattle.wire_fields.specs.declared.Refusal.{Refusal}
use Rattle.wire_header.specs.declared.Kind.{Kind}
use Rattle.wire_header.specs.declared.Kind.TheVariants as K
use Rattle.wire_header.specs.declared.HeaderCursor.{HeaderCursor}
use Rattle.wire_header.specs.Types.{kind_by}
use Rattle.wire_messages.specs.Types.{modify_reply_type, delete_reply_type}
use Rattle.wire_header.specs.Header.{header_of}
use Rattle.wire_header.specs.Gate.{gate_of}
use Rattle.wire_requests.specs.Carried as carried
use Rattle.wire_requests.specs.declared.Request.{Request}
use Rattle.wire_requests.specs.declared.Request.TheVariants as Q
use Rattle.wire_requests.specs.Create.{create_of, reply_to}
use Rattle.wire_requests.specs.Change.{modify_of, delete_of}
use Rattle.call_asked.specs.declared.Concern.{Concern}
use Rattle.call_asked.specs.declared.Concern.TheVariants as S
use Rattle.call_asked.specs.declared.Asked.{Asked}
use Rattle.call_asked.specs.declared.Asked.TheVariants as A
use Rattle.wire_requests.specs.declared.Unreadable.{Unreadable}
use Rattle.wire_requests.specs.Chain.{Decoded}

-- the reply to the unit's own echo: awaited and readable, or 9
unfoldable pub end_asked : Result (Option ℕ) Unreadable → ℕ → Node → Asked
end_asked (Err u) seq node = A.Silent not_awaited
end_asked (Ok recovery) seq node = pick (awaits seq node.echo) (A.EchoReply recovery) (A.Silent not_awaited)

-- what concerns the session whose control TEID the header has
unfoldable pub session_asked : HeaderCursor → Concern → Asked
session_asked h x = A.Session (record { 0 = h.teid }) h.sequence x

-- a Create that is refused is answered as it stands, a Modify or a Delete by the session that it is for
unfoldable pub create_refused : HeaderCursor → List ℕ → Refusal → Asked
create_refused h rest w = A.Refused w (reply_to rest) h.sequence

unfoldable pub change_refused : HeaderCursor → ℕ → Refusal → Asked
change_refused h reply w = session_asked h (S.Refused reply w)

unfoldable pub sound_asked : HeaderCursor → Request → Asked
sound_asked h (Q.Create c) = A.Create c h.sequence
sound_asked h (Q.Modify m) = session_asked h (S.Modify m)
sound_asked h (Q.Delete x) = session_asked h (S.Delete x)

unfoldable pub request_asked : HeaderCursor → Decoded → (Refusal → Asked) → Asked
request_asked h (Err w) refused = refused w
request_asked h (Ok q) refused = sound_asked h q

-- by kind: what is behind the header is read as the kind has it
unfoldable pub kind_asked : Kind → HeaderCursor → List ℕ → Node → Asked
kind_asked K.Echo h rest node = A.Echo (carried.echo_read rest) h.sequence
kind_asked K.EchoReply h rest node = end_asked (carried.echo_reply_read rest) h.sequence node
kind_asked K.Create h rest node = request_asked h (create_of node.plan rest) (create_refused h rest)
kind_asked K.Modify h rest node = request_asked h (modify_of rest) (change_refused h modify_reply_type)
kind_asked K.Delete h rest node = request_asked h (delete_of rest) (change_refused h delete_reply_type)
kind_asked K.BearerReply h rest node = session_asked h (S.Bearer (carried.bearer_reply_read rest))
kind_asked K.Other h rest node = A.Silent taken

unfoldable pub asked_of : Node → List ℕ → Asked
asked_of node d =
    pick (eqb (gate_of d) taken) (kind_asked (kind_by (header_of d).kind) (header_of d) (drop (header_of d).fields d) node)
    (pick (eqb (gate_of d) other_version) A.Version (A.Silent (gate_of d)))
