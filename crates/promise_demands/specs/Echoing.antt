-- The unit's own echo, resent: from when it falls due, if no tick comes while it is due, it is sent for the k-th time when (k - 1) × T ticks have
-- gone by, each time with the same number; nobody answering, the N × T-th tick gives it up, and frees all places.
-- Assumes nothing.
use Rattle.std.specs.Prelude.{ℕ, ◌+◌, ◌*◌, ◌≤◌, false, ◌&&◌, ◌≡◌, length}
use Rattle.std.proofs.Math.Bool.{Bool, true, not}
use mathlib.Core.List.{List, [], ◌∷◌}
use Rattle.std.proofs.Math.Dec.{eqb}
use Rattle.base_octets.specs.Every.{every}
use Rattle.base_octets.specs.Overlay.{overlay}
use Rattle.unit_plan.specs.declared.Plan.{Plan}
use Rattle.unit_session.specs.declared.OwnRequest.{OwnRequest}
use Rattle.wire_messages.specs.Types.{echo_type}
use Rattle.wire_messages.specs.Messages.{echo_of}
use Rattle.call_own.specs.Outcome.{least_reply}
use Rattle.call_store.specs.Stored.{State, send_stored}
use Rattle.promise_demands.specs.Run.{Event, tick, send, step, run, of_octets, Start}
use Rattle.promise_demands.specs.InTime.{is_tick, ticks_in}

-- answered or given up, it is at rest until it falls due again
unfoldable pub at_rest : OwnRequest → Bool
at_rest r = eqb r.sends 0 && not (eqb r.timer 0)

-- no tick comes while it is due
unfoldable pub echo_prompt : List Event → State → Bool
echo_prompt [] s = true
echo_prompt (e ∷ es) s = not (is_tick e && eqb s.node.echo.timer 0) && echo_prompt es (step e s)

-- and it is not at rest after any of the calls
unfoldable pub under_way : List Event → State → Bool
under_way [] s = true
under_way (e ∷ es) s = not (at_rest (step e s).node.echo) && under_way es (step e s)

-- what goes out is the Echo Request with the number that the echo has then
unfoldable pub SendsEcho : State → List ℕ → Type 0
SendsEcho s reply =
    ((send_stored s.node s.table s.store reply).answer.number ≡ 0)
    × ((send_stored s.node s.table s.store reply).reply ≡ overlay (echo_of echo_type (step (send reply) s).node.echo.number s.node.plan.recovery) reply)

-- under way still after the calls `later`, which left the state s
pub record Echoes (p : Plan) (later : List Event) (s : State) : Type 0 where
  pub spaced : s.node.echo.sends * p.resend ≡ ticks_in later + s.node.echo.timer
  pub waits : s.node.echo.timer ≤ p.resend
  pub most : s.node.echo.sends ≤ p.sends
  pub last : eqb s.node.echo.timer 0 ≡ false → at_rest (step tick s).node.echo ≡ true → ticks_in later + 1 ≡ p.sends * p.resend
  pub number : (e : Event) → not (is_tick e && eqb s.node.echo.timer 0) ≡ true → at_rest (step e s).node.echo ≡ false
      → 1 ≤ s.node.echo.sends → (step e s).node.echo.number ≡ s.node.echo.number
  pub octets : (reply : List ℕ) → least_reply ≤ length reply → s.node.echo.timer ≡ 0 → SendsEcho s reply

-- from any table that keeps its rules under an accepted plan, where the echo has fallen due
unfoldable pub EchoWhole : Type 0
EchoWhole = (p : Plan) (s : State) → Start p s → s.node.echo.sends ≡ 0 → s.node.echo.timer ≡ 0
    → (later : List Event) → every of_octets later ≡ true → echo_prompt later s ≡ true → under_way later s ≡ true → Echoes p later (run later s)
