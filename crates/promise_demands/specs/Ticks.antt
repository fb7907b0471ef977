-- Ticks: after any run, ticks among it or not, a tick takes one off every timer that runs, and gives up what is at its last. So a tick that counts
-- only in the first call is impossible.
-- Assumes nothing.
use Rattle.std.specs.Prelude.{ℕ, ◌+◌, ◌<◌, ◌≤◌, true, false, List, ◌≡◌, replicate}
use Rattle.unit_tunnel.specs.Numbering.{places}
use Rattle.unit_plan.specs.declared.Plan.{Plan}
use Rattle.unit_plan.specs.Plan.{accepted}
use Rattle.unit_session.specs.OwnRequest.{spent}
use Rattle.unit_session.specs.Session.{is_free}
use Rattle.call_store.specs.Stored.{State, fresh_state}
use Rattle.promise_demands.specs.Run.{Event, tick, step, run, Start, Run}
use Rattle.promise_demands.specs.Bounds.{at}

pub record TickCounts (p : Plan) (s : State) : Type 0 where
  pub echo : 0 < s.node.echo.timer → spent p.sends s.node.echo ≡ false → (step tick s).node.echo.timer + 1 ≡ s.node.echo.timer
  pub place : (i : ℕ) → i < places → 0 < (at s i).own.timer → spent p.sends s.node.echo ≡ false → spent p.sends (at s i).own ≡ false
      → (at (step tick s) i).own.timer + 1 ≡ (at s i).own.timer
  pub given_up : (i : ℕ) → i < places → spent p.sends (at s i).own ≡ true → is_free (at (step tick s) i) ≡ true
  pub echo_lost : (i : ℕ) → i < places → spent p.sends s.node.echo ≡ true → is_free (at (step tick s) i) ≡ true

pub record EveryTickCounts : Type 0 where
  pub any : (p : Plan) (s : State) (es : List Event) → Run p s es → TickCounts p (run es s)
  -- where the echo has not been sent, its timer comes down by as many as there were ticks
  pub down : (p : Plan) (s : State) → Start p s → s.node.echo.sends ≡ 0 → (k : ℕ) → k ≤ s.node.echo.timer
      → (run (replicate k tick) s).node.echo.timer + k ≡ s.node.echo.timer
  -- from fresh it comes down from E; that it stands at E is not among the rules, so that of another start this is not said
  pub fresh : (p : Plan) → accepted p ≡ true → (k : ℕ) → k ≤ p.interval → (run (replicate k tick) (fresh_state p)).node.echo.timer + k ≡ p.interval
