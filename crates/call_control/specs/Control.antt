-- Take control datagram: one definition that fixes number, reply length, reply buffer, records and what goes with them, for any datagram
-- and any table. The order of refusals is 1, 2, then what the datagram asks for.
-- Assumes nothing.
use Rattle.std.specs.Prelude.{ℕ, Bool, false, List, length, ltb}
use Rattle.base_octets.specs.Number.{reply_short, rules_broken, other_version}
use Rattle.base_octets.specs.Choice.{pick}
use Rattle.unit_session.specs.declared.Session.{Session}
use Rattle.unit_table.specs.declared.Node.{Node}
use Rattle.unit_table.specs.Rules.{keeps_rules}
use Rattle.wire_messages.specs.Messages.{version_not_supported}
use Rattle.wire_messages.specs.Types.{create_reply_type}
use Rattle.call_asked.specs.declared.Asked.{Asked}
use Rattle.call_asked.specs.declared.Asked.TheVariants as A
use Rattle.call_asked.specs.Asked.{asked_of}
use Rattle.call_own.specs.Outcome.{Outcome, least_reply, no_reply, replied, on_owner}
use Rattle.call_control.specs.Echoes.{restarts_by, echo_taken, echo_reply_taken}
use Rattle.call_control.specs.Amends.{cause_taken, session_on}
use Rattle.call_control.specs.Creates.{create_taken}

-- what is asked for, on a table that keeps its rules
unfoldable pub asked_taken : Node → List Session → Asked → List ℕ → Outcome
asked_taken node t (A.Silent number) reply = no_reply number node t reply
asked_taken node t A.Version reply = replied other_version node t version_not_supported reply
asked_taken node t (A.Echo recovery seq) reply = echo_taken node t seq recovery reply
asked_taken node t (A.EchoReply recovery) reply = echo_reply_taken node t recovery reply
asked_taken node t (A.Create c seq) reply = create_taken c seq node t reply
asked_taken node t (A.Refused w to seq) reply = cause_taken create_reply_type to seq w node t reply
asked_taken node t (A.Session teid seq x) reply = on_owner node t teid.0 (session_on x seq) reply

-- whether it says that the exchange restarted
unfoldable pub restarts_in : Asked → Node → Bool
restarts_in (A.Silent number) node = false
restarts_in A.Version node = false
restarts_in (A.Echo recovery seq) node = restarts_by recovery node
restarts_in (A.EchoReply recovery) node = restarts_by recovery node
restarts_in (A.Create c seq) node = restarts_by c.recovery node
restarts_in (A.Refused w to seq) node = false
restarts_in (A.Session teid seq x) node = false

-- in document 01's order: 1, 2, then what is asked for
abbrev pub control_asked : Node → List Session → Asked → List ℕ → Outcome
control_asked node t a reply =
    pick (ltb (length reply) least_reply) (no_reply reply_short node t reply)
    (pick (keeps_rules node t) (asked_taken node t a reply)
    (no_reply rules_broken node t reply))

unfoldable pub control_taken : Node → List Session → List ℕ → List ℕ → Outcome
control_taken node t d reply = control_asked node t (asked_of node d) reply
