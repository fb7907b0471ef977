-- A plan that breaks a limit (16), or another count of records than there are places or of rows than the store has (2), leaves a state with no
-- access points: every later call is 2, or 1 where its reply buffer is short, and changes nothing.
-- Assumes nothing.
use Rattle.std.specs.Prelude.{ℕ, false, ◌≢◌, ◌≡◌, length}
use mathlib.Core.List.{List}
use Rattle.unit_tunnel.specs.Numbering.{places}
use Rattle.unit_plan.specs.declared.Plan.{Plan}
use Rattle.unit_plan.specs.Plan.{accepted}
use Rattle.unit_session.specs.declared.Session.{Session}
use Rattle.unit_store.specs.Row.{store_rows}
use Rattle.call_own.specs.Outcome.{least_reply}
use Rattle.call_own.specs.Others.{uncounted}
use Rattle.call_store.specs.Stored.{State, fresh_stored}
use Rattle.promise_demands.specs.Run.{left, Event, control, user, down, tick, send, close, line, answered, run}

-- how long the reply buffer is; a call that has none has no short one
unfoldable pub room : Event → ℕ
room (control d reply) = length reply
room (user d reply) = length reply
room (down packet out) = least_reply
room tick = least_reply
room (send reply) = length reply
room (close place) = least_reply
room (line place reply) = length reply

-- whatever is called and then called again
pub record RefusesAll (s : State) : Type 0 where
  pub stays : (es : List Event) → run es s ≡ s
  pub two : (es : List Event) (e : Event) → answered e (run es s) ≡ uncounted (room e)

pub record SixteenThenTwo : Type 0 where
  pub sixteen : (plan : Plan) (t : List Session) (w : List (List ℕ)) → length t ≡ places → length w ≡ store_rows → accepted plan ≡ false
      → (fresh_stored plan t w).call.answer.number ≡ 16
  pub later : (plan : Plan) (t : List Session) (w : List (List ℕ)) → (fresh_stored plan t w).call.answer.number ≢ 0 → RefusesAll (left (fresh_stored plan t w))
