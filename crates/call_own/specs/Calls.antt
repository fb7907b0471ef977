-- The calls that no datagram brings about: fresh, tick, close and send next due. Each is one definition that fixes number, reply
-- length, reply buffer, records and what goes with them, for any table whatever; refusals stand in document 01's order.
-- Assumes nothing.
use Rattle.std.specs.Prelude.{ℕ, Bool, not, ◌&&◌, List, [], length, get_or, replicate, eqb, ltb}
use Rattle.base_octets.specs.Number.{taken, reply_short, rules_broken, no_place, plan_breaks, nothing_due}
use Rattle.base_octets.specs.Choice.{pick}
use Rattle.base_octets.specs.Every.{every}
use Rattle.unit_tunnel.specs.Numbering.{places}
use Rattle.unit_plan.specs.declared.Plan.{Plan}
use Rattle.unit_plan.specs.Limits.{no_plan}
use Rattle.unit_plan.specs.Plan.{accepted}
use Rattle.unit_session.specs.declared.OwnRequest.{OwnRequest}
use Rattle.unit_session.specs.declared.Session.{Session}
use Rattle.unit_session.specs.OwnRequest.{sent_once, spent}
use Rattle.unit_session.specs.Session.{is_free, closed, sent}
use Rattle.unit_table.specs.declared.Node.{Node}
use Rattle.unit_table.specs.Rules.{keeps_rules}
use Rattle.unit_table.specs.Change.{nobody, changed_at}
use Rattle.unit_table.specs.Number.{after, taken_number}
use Rattle.unit_table.specs.Own.{echo_ticked, all_ticked, due_place, fresh_node}
use Rattle.wire_messages.specs.Types.{echo_type}
use Rattle.wire_messages.specs.Messages.{echo_of, delete_bearer}
use Rattle.call_own.specs.declared.Answer.{Answer}
use Rattle.call_own.specs.declared.Span.{Span}
use Rattle.call_own.specs.Outcome.{Outcome, outcome, least_reply, Held, no_places, all_places, one_place, bare, spanning, changing, no_reply, replied, Done, bare_on, on_session}

-- the node with another echo and next number
unfoldable pub timed : OwnRequest → ℕ → Node → Node
timed echo next node = record { plan = node.plan; echo = echo; next = next; heard = node.heard; recovery = node.recovery }

-- ---- fresh: 2 where there are not as many records as places, 16 where the plan breaks a limit
-- a plan that breaks a limit leaves a state with no access points
unfoldable pub fresh_answer : Plan → Answer
fresh_answer p = spanning all_places (pick (accepted p) (bare taken (fresh_node p)) (bare plan_breaks (fresh_node no_plan)))

-- records are zero, use included, either way
unfoldable pub fresh_held : Plan → Held
fresh_held p = record { node = (fresh_answer p).node; table = replicate places nobody }

-- another count of records keeps them, with the state that a refused plan leaves
unfoldable pub fresh_of : Plan → List Session → Outcome
fresh_of p t =
    pick (eqb (length t) places) (outcome (fresh_answer p) (fresh_held p).table [])
    (no_reply rules_broken (fresh_node no_plan) t [])

-- what is answered by value, from the count of records
unfoldable pub fresh_by : ℕ → Plan → Answer
fresh_by count p = pick (eqb count places) (fresh_answer p) (bare rules_broken (fresh_node no_plan))

-- ---- tick: 2
-- no place awaits a number, so that no timer runs
unfoldable pub quiet : List Session → Bool
quiet t = every (λ s. eqb s.own.sends 0) t

-- where all are quiet no record changes, unless the echo is given up, which frees all
unfoldable pub tick_places : Node → List Session → Span
tick_places node t = pick (quiet t && not (spent node.plan.sends node.echo)) no_places all_places

unfoldable pub tick_of : Node → List Session → Outcome
tick_of node t =
    pick (keeps_rules node t)
    (changing (tick_places node t)
    (no_reply taken (timed (echo_ticked node.plan node.echo) node.next node) (all_ticked node.plan node.echo t) []))
    (no_reply rules_broken node t [])

-- ---- close: 2, 10; a place that is closing already stays as it is
unfoldable pub close_on : Session → Done
close_on s = pick (is_free s) (bare_on no_place s) (bare_on taken (closed s))

unfoldable pub close_of : Node → List Session → ℕ → Outcome
close_of node t i = pick (keeps_rules node t) (on_session node t i close_on []) (no_reply rules_broken node t [])

-- ---- send next due: 1, 2, 17; the echo first, then places upward
-- a first send takes the number k, and the next is the one after it; a resend leaves the next number as it is
unfoldable pub stepped : ℕ → ℕ → ℕ → ℕ
stepped sends k next = pick {A = ℕ} (eqb sends 0) (after k) next

unfoldable pub echo_sent : Node → List Session → ℕ → List ℕ → Outcome
echo_sent node t k reply =
    replied taken (timed (sent_once node.plan.resend k node.echo) (stepped node.echo.sends k node.next) node) t
    (echo_of echo_type (sent_once node.plan.resend k node.echo).number node.plan.recovery) reply

unfoldable pub place_sent : Node → List Session → ℕ → ℕ → Session → List ℕ → Outcome
place_sent node t k i s reply =
    changing (one_place i)
    (replied taken (timed node.echo (stepped s.own.sends k node.next) node) (changed_at (sent node.plan.resend k) i t)
    (delete_bearer s.control (sent_once node.plan.resend k s.own).number s.ebi) reply)

-- who is sent next, of a table that keeps its rules
unfoldable pub due_sent : Node → List Session → ℕ → List ℕ → Outcome
due_sent node t k reply =
    pick (eqb node.echo.timer 0) (echo_sent node t k reply)
    (pick (ltb (due_place t) (length t))
    (place_sent node t k (due_place t) (get_or t (due_place t) nobody) reply)
    (no_reply nothing_due node t reply))

unfoldable pub send_of : Node → List Session → List ℕ → Outcome
send_of node t reply =
    pick (ltb (length reply) least_reply) (no_reply reply_short node t reply)
    (pick (keeps_rules node t)
    (due_sent node t (taken_number node.next node.echo t) reply)
    (no_reply rules_broken node t reply))
