-- A way to compute a send: who is sent next, what becomes of the record, what is answered. Nothing here is to be believed: lent_own shows that
-- these steps are `send_of`.
-- Assumes nothing.
use Rattle.std.specs.Prelude.{ℕ, ◌+◌, Bool, List, length, eqb, ltb}
use Rattle.base_octets.specs.Number.{taken, reply_short, rules_broken, nothing_due}
use Rattle.base_octets.specs.Choice.{pick}
use Rattle.base_octets.specs.Overlay.{overlay}
use Rattle.unit_tunnel.specs.Numbering.{places}
use Rattle.unit_session.specs.declared.Session.{Session}
use Rattle.unit_session.specs.OwnRequest.{sent_once}
use Rattle.unit_session.specs.Session.{sent}
use Rattle.unit_table.specs.declared.Node.{Node}
use Rattle.step_keys.specs.Survey.{wait_of}
use Rattle.step_keys.specs.Unclaimed.{free_among}
use Rattle.wire_messages.specs.Types.{echo_type}
use Rattle.wire_messages.specs.Messages.{echo_of, delete_bearer}
use Rattle.call_own.specs.Outcome.{least_reply, no_places, one_place, bare, Back, back}
use Rattle.call_own.specs.Calls.{timed, stepped}
use Rattle.step_check.specs.declared.Checked.{Checked}
use Rattle.step_check.specs.Summary.{stands_by, awaits}
use Rattle.step_own.specs.declared.Sending.{Sending}
use Rattle.step_own.specs.declared.Sending.TheVariants.{Nothing, Echo, At}

-- the number that a first send takes
unfoldable pub taken_among : Node → List ℕ → ℕ
taken_among node waits = free_among (places + 2) node.next (wait_of node.echo) waits

-- a place awaits a number
unfoldable pub awaiting_in : Checked → Bool
awaiting_in v = awaits v.how

-- who is sent next
unfoldable pub next_due : ℕ → Node → Checked → List ℕ → Sending
next_due room node v waits =
    pick (ltb room least_reply) (Nothing reply_short)
    (pick (stands_by v.how)
    (pick (eqb node.echo.timer 0) (Echo (taken_among node waits))
    (pick (ltb v.findings.due places) (At v.findings.due (taken_among node waits)) (Nothing nothing_due)))
    (Nothing rules_broken))

-- nobody where the store breaks its rules
unfoldable pub due_with : Bool → ℕ → Sending → Sending
due_with sound room p = pick sound p (pick (ltb room least_reply) (Nothing reply_short) (Nothing rules_broken))

-- ---- what is done with it
unfoldable pub place_of : Sending → ℕ
place_of (Nothing number) = places
place_of (Echo k) = places
place_of (At i k) = i

unfoldable pub sent_by : Sending → Node → Session → Session
sent_by (Nothing number) node s = s
sent_by (Echo k) node s = s
sent_by (At i k) node s = sent node.plan.resend k s

unfoldable pub echo_answer : Node → ℕ → List ℕ → Back
echo_answer node k reply = back
    (record {
      number = taken;
      size = length (echo_of echo_type (sent_once node.plan.resend k node.echo).number node.plan.recovery);
      node = timed (sent_once node.plan.resend k node.echo) (stepped node.echo.sends k node.next) node;
      span = no_places;
    })
    (overlay (echo_of echo_type (sent_once node.plan.resend k node.echo).number node.plan.recovery) reply)

unfoldable pub place_answer : Node → ℕ → ℕ → Session → List ℕ → Back
place_answer node k i s reply = back
    (record {
      number = taken;
      size = length (delete_bearer s.control (sent_once node.plan.resend k s.own).number s.ebi);
      node = timed node.echo (stepped s.own.sends k node.next) node;
      span = one_place i;
    })
    (overlay (delete_bearer s.control (sent_once node.plan.resend k s.own).number s.ebi) reply)

unfoldable pub send_answer : Sending → Node → Session → List ℕ → Back
send_answer (Nothing number) node s reply = back (bare number node) reply
send_answer (Echo k) node s reply = echo_answer node k reply
send_answer (At i k) node s reply = place_answer node k i s reply
