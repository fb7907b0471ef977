-- The numbers that come back: on a table that keeps its rules each call answers a number of its own list, in which neither 2 nor 11 is; on
-- a table that breaks them the answer is 2 and nothing else, unless the reply buffer is short (1).
-- Assumes nothing.
use Rattle.std.specs.Prelude.{ℕ, true, List, [], ◌∷◌, ◌≡◌, length}
use Rattle.unit_tunnel.specs.Numbering.{places}
use Rattle.unit_plan.specs.declared.Plan.{Plan}
use Rattle.unit_session.specs.declared.Session.{Session}
use Rattle.unit_table.specs.declared.Node.{Node}
use Rattle.unit_store.specs.Row.{store_rows}
use Rattle.wire_header.specs.Types.{among}
use Rattle.call_asked.specs.Answers.{create_numbers}
use Rattle.call_asked.specs.declared.Concern.{Concern}
use Rattle.call_asked.specs.declared.Concern.TheVariants as S
use Rattle.call_asked.specs.declared.Asked.{Asked}
use Rattle.call_asked.specs.declared.Asked.TheVariants as A
use Rattle.wire_fields.specs.Refusal.{not_live_cause, short_cause, wrong_cause, missing_cause, no_room_cause, unknown_apn_cause, address_type_cause}
use Rattle.call_store.specs.Stored.{keeps, close_stored, send_stored, line_stored, fresh_stored, tick_stored, control_stored}

-- the numbers that each call may answer, of a table that keeps its rules
unfoldable pub fresh_numbers : List ℕ
fresh_numbers = 0 ∷ 16 ∷ []

unfoldable pub tick_numbers : List ℕ
tick_numbers = 0 ∷ []

unfoldable pub close_numbers : List ℕ
close_numbers = 0 ∷ 10 ∷ []

unfoldable pub send_numbers : List ℕ
send_numbers = 0 ∷ 1 ∷ 17 ∷ []

unfoldable pub line_numbers : List ℕ
line_numbers = 0 ∷ 1 ∷ 10 ∷ []

unfoldable pub control_numbers : List ℕ
control_numbers = 0 ∷ 1 ∷ 3 ∷ 4 ∷ 5 ∷ 6 ∷ 7 ∷ 8 ∷ 9
    ∷ not_live_cause ∷ short_cause ∷ wrong_cause ∷ missing_cause ∷ no_room_cause ∷ unknown_apn_cause ∷ address_type_cause ∷ []

-- what a control datagram is answered that is read and asks for nothing
unfoldable pub silent_numbers : List ℕ
silent_numbers = 0 ∷ 3 ∷ 4 ∷ 6 ∷ 7 ∷ 8 ∷ 9 ∷ []

-- what a Create that is read whole is answered
unfoldable pub created_numbers : List ℕ
created_numbers = 0 ∷ no_room_cause ∷ []

-- a cause that was read is one of a Create's
unfoldable pub ConcernKnown : Concern → Type 0
ConcernKnown (S.Modify m) = Unit {0}
ConcernKnown (S.Delete d) = Unit {0}
ConcernKnown (S.Refused type w) = among w.cause create_numbers ≡ true
ConcernKnown (S.Bearer b) = Unit {0}

-- ---- what is asked for: the numbers and causes that were read are of these lists
unfoldable pub AskedKnown : Asked → Type 0
AskedKnown (A.Silent number) = among number silent_numbers ≡ true
AskedKnown A.Version = Unit {0}
AskedKnown (A.Echo recovery seq) = Unit {0}
AskedKnown (A.EchoReply recovery) = Unit {0}
AskedKnown (A.Create c seq) = Unit {0}
AskedKnown (A.Refused w to seq) = among w.cause create_numbers ≡ true
AskedKnown (A.Session teid seq x) = ConcernKnown x

-- ---- the claims
unfoldable pub FreshNumbers : Type 0
FreshNumbers = (plan : Plan) (t : List Session) (w : List (List ℕ)) → length t ≡ places → length w ≡ store_rows
    → among (fresh_stored plan t w).call.answer.number fresh_numbers ≡ true

unfoldable pub TickNumbers : Type 0
TickNumbers = (node : Node) (t : List Session) (w : List (List ℕ)) → keeps node t w ≡ true → among (tick_stored node t w).call.answer.number tick_numbers ≡ true

unfoldable pub CloseNumbers : Type 0
CloseNumbers = (node : Node) (t : List Session) (w : List (List ℕ)) (place : ℕ) → keeps node t w ≡ true
    → among (close_stored node t w place).answer.number close_numbers ≡ true

unfoldable pub SendNumbers : Type 0
SendNumbers = (node : Node) (t : List Session) (w : List (List ℕ)) (reply : List ℕ) → keeps node t w ≡ true
    → among (send_stored node t w reply).answer.number send_numbers ≡ true

unfoldable pub LineNumbers : Type 0
LineNumbers = (node : Node) (t : List Session) (w : List (List ℕ)) (place : ℕ) (reply : List ℕ) → keeps node t w ≡ true
    → among (line_stored node t w place reply).answer.number line_numbers ≡ true

unfoldable pub ControlNumbers : Type 0
ControlNumbers = (node : Node) (t : List Session) (w : List (List ℕ)) (d reply : List ℕ) → keeps node t w ≡ true
    → among (control_stored node t w d reply).call.answer.number control_numbers ≡ true
