-- What document 01 wants shown impossible: refusing all, one fixed reply or silence, a live count that is not taken from the records. Each is a
-- theorem that no such unit could meet. A tick that counts only in the first call is shut out in the file on ticks.
-- Assumes nothing.
use Rattle.std.specs.Prelude.{ℕ, ◌<◌, ◌≤◌, true, List, ◌≡◌, length, get_or}
use Rattle.base_octets.specs.Every.{every}
use Rattle.base_octets.specs.BigEndian.{is_octet}
use Rattle.unit_plan.specs.declared.Plan.{Plan}
use Rattle.unit_plan.specs.Plan.{accepted}
use Rattle.call_own.specs.Outcome.{least_reply}
use Rattle.call_store.specs.Stored.{State, fresh_state, control_stored}
use Rattle.promise_demands.specs.Run.{Event, control, step, answered, run, Run}
use Rattle.promise_demands.specs.Examples.{one_party, first, second, echo}

-- ---- refusing all: this Create is accepted by a fresh unit under this plan. A table that keeps its rules may have no room for it, so that from
-- any other start it is not so
pub record NotAllRefused : Type 0 where
  pub plan : accepted one_party ≡ true
  pub octets : every is_octet first ≡ true
  pub taken : (reply : List ℕ) → least_reply ≤ length reply → answered (control first reply) (fresh_state one_party) ≡ 0

-- ---- a live count that is not taken from the records: one Create, one plan, all that goes with the records the same; only the records differ,
-- and so does the answer. Two tables are named, a fresh one and the one behind it: an example, and it needs no more
pub record CountedFromRecords : Type 0 where
  pub same : (r : List ℕ) → least_reply ≤ length r → (step (control first r) (fresh_state one_party)).node ≡ (fresh_state one_party).node
  pub admitted : (reply : List ℕ) → least_reply ≤ length reply → answered (control second reply) (fresh_state one_party) ≡ 0
  pub no_reply : (r reply : List ℕ) → least_reply ≤ length r → least_reply ≤ length reply → answered (control second reply) (step (control first r) (fresh_state one_party)) ≡ 73

-- ---- one fixed reply, or silence: after any run an Echo Request is answered with 13 octets, and its own sequence number is in them
pub record EchoAnswered (s : State) (n : ℕ) (reply : List ℕ) : Type 0 where
  pub number : answered (control (echo n) reply) s ≡ 0
  pub size : (control_stored s.node s.table s.store (echo n) reply).call.answer.size ≡ 13
  pub octet : get_or (control_stored s.node s.table s.store (echo n) reply).call.reply 6 0 ≡ n

unfoldable pub NotOneReply : Type 0
NotOneReply = (p : Plan) (s : State) (es : List Event) → Run p s es → (reply : List ℕ) → least_reply ≤ length reply → (n : ℕ) → n < 256 → EchoAnswered (run es s) n reply
