-- Resends whole: a place that is closed, if no tick comes while its request is due, is sent for the k-th time when (k - 1) × T ticks have gone by
-- since its close, each time with the same number; nobody answering, it is there until the N × T-th tick, and that tick frees it.
-- Assumes nothing.
use Rattle.std.specs.Prelude.{ℕ, ◌+◌, ◌*◌, ◌<◌, ◌≤◌, true, false, not, ◌&&◌, ◌≡◌, length}
use mathlib.Core.List.{List}
use Rattle.base_octets.specs.Every.{every}
use Rattle.base_octets.specs.Overlay.{overlay}
use Rattle.unit_tunnel.specs.Numbering.{places}
use Rattle.unit_plan.specs.declared.Plan.{Plan}
use Rattle.unit_session.specs.OwnRequest.{spent}
use Rattle.unit_session.specs.Session.{is_due}
use Rattle.unit_table.specs.Own.{due_place}
use Rattle.wire_messages.specs.Messages.{delete_bearer}
use Rattle.call_own.specs.Outcome.{least_reply}
use Rattle.call_store.specs.Stored.{State, send_stored}
use Rattle.promise_demands.specs.Run.{Event, tick, send, close, step, run, of_octets, Run}
use Rattle.promise_demands.specs.Bounds.{at}
use Rattle.promise_demands.specs.Place.{gone}
use Rattle.promise_demands.specs.InTime.{is_tick, ticks_in, prompt, ever_gone}

-- a send for the place: the Delete Bearer to its peer, with the number that its record has then
unfoldable pub Sends : ℕ → State → List ℕ → Type 0
Sends i s reply =
    ((send_stored s.node s.table s.store reply).answer.number ≡ 0)
    × ((send_stored s.node s.table s.store reply).reply ≡ overlay (delete_bearer (at s i).control (at (step (send reply) s) i).own.number (at s i).ebi) reply)

-- the session of place i in that use is there still after the calls `later`, which left the state s
pub record Resends (p : Plan) (i usage : ℕ) (later : List Event) (s : State) : Type 0 where
  -- so often sent, so many ticks gone by, and so many to come until it is due: at most T
  pub spaced : (at s i).own.sends * p.resend ≡ ticks_in later + (at s i).own.timer
  pub waits : (at s i).own.timer ≤ p.resend
  -- at most N times
  pub most : (at s i).own.sends ≤ p.sends
  -- the tick that gives it up is the N × T-th; the unit's own echo, given up, frees all
  pub last : is_due (at s i) ≡ false → spent p.sends s.node.echo ≡ false → gone usage (at (step tick s) i) ≡ true
      → ticks_in later + 1 ≡ p.sends * p.resend
  -- once sent, its number stays, whatever is called
  pub number : (e : Event) → of_octets e ≡ true → not (is_tick e && is_due (at s i)) ≡ true → gone usage (at (step e s) i) ≡ false
      → 1 ≤ (at s i).own.sends → (at (step e s) i).own.number ≡ (at s i).own.number
  -- and this is what goes out when it is its turn: the echo goes first, then the lowest place that is due
  pub octets : (reply : List ℕ) → least_reply ≤ length reply → (s.node.echo.timer ≡ 0 → ⊥) → due_place s.table ≡ i → Sends i s reply

unfoldable pub ResendsWhole : Type 0
ResendsWhole = (p : Plan) (s : State) (es : List Event) → Run p s es → (i : ℕ) → i < places → (at (run es s) i).state ≡ 1
    → (later : List Event) → every of_octets later ≡ true → prompt i later (step (close i) (run es s)) ≡ true
    → ever_gone i (at (run es s) i).usage later (step (close i) (run es s)) ≡ false
    → Resends p i (at (run es s) i).usage later (run later (step (close i) (run es s)))
