-- If all due is sent before each tick, a place has been freed by the N × T-th tick after its close: in any run, whatever else is called between.
-- That all due can be sent, and when it has been: Ends.antt.
-- Assumes nothing.
use Rattle.std.specs.Prelude.{ℕ, ◌+◌, ◌*◌, ◌<◌, ◌≤◌, Bool, not, ◌&&◌, ◌||◌, ◌≡◌}
use Rattle.std.proofs.Math.Bool.{true, false}
use mathlib.Core.List.{List, [], ◌∷◌}
use Rattle.base_octets.specs.Every.{every}
use Rattle.base_octets.specs.Sums.{count_of}
use Rattle.unit_tunnel.specs.Numbering.{places}
use Rattle.unit_plan.specs.declared.Plan.{Plan}
use Rattle.unit_session.specs.declared.Session.{Session}
use Rattle.unit_session.specs.Session.{is_due}
use Rattle.call_store.specs.Stored.{State}
use Rattle.promise_demands.specs.Run.{Event, control, user, down, tick, send, close, line, step, run, of_octets, Run}
use Rattle.promise_demands.specs.Bounds.{at}
use Rattle.promise_demands.specs.Place.{gone}

unfoldable pub is_tick : Event → Bool
is_tick (control d reply) = false
is_tick (user d reply) = false
is_tick (down packet out) = false
is_tick tick = true
is_tick (send reply) = false
is_tick (close place) = false
is_tick (line place reply) = false

-- how many ticks there are among the calls
unfoldable pub ticks_in : List Event → ℕ
ticks_in es = count_of is_tick es

-- no tick comes while the request of place i is due: it has been sent before
unfoldable pub prompt : ℕ → List Event → State → Bool
prompt i [] s = true
prompt i (e ∷ es) s = not (is_tick e && is_due (at s i)) && prompt i es (step e s)

-- before the calls, between two of them or after the last, the session that place i had in that use was gone
unfoldable pub ever_gone : ℕ → ℕ → List Event → State → Bool
ever_gone i usage [] s = gone usage (at s i)
ever_gone i usage (e ∷ es) s = gone usage (at s i) || ever_gone i usage es (step e s)

-- a place is live and is closed; after it any calls, N × T ticks among them
unfoldable pub FreedInTime : Type 0
FreedInTime = (p : Plan) (s : State) (es : List Event) → Run p s es → (i : ℕ) → i < places → (at (run es s) i).state ≡ 1
    → (later : List Event) → every of_octets later ≡ true → prompt i later (step (close i) (run es s)) ≡ true
    → p.sends * p.resend ≤ ticks_in later
    → ever_gone i (at (run es s) i).usage later (step (close i) (run es s)) ≡ true

-- ---- a closing place through one call: closing still; its timer and sends spend just the ticks; and a number that was sent stays
pub record Spends (t ticks : ℕ) (s x : Session) : Type 0 where
  pub closing : x.state ≡ 2
  pub spends : x.own.timer + ticks + s.own.sends * t ≡ s.own.timer + x.own.sends * t
  pub number : 1 ≤ s.own.sends → x.own.number ≡ s.own.number
