-- Send next due comes to an end: from any table that keeps its rules one send more than there are places, one for the echo and one for each place, leave nothing due. And
-- 17 is answered exactly when nothing is due.
-- Assumes nothing.
use Rattle.std.specs.Prelude.{ℕ, ◌+◌, ◌≤◌, Bool, true, false, List, map, ◌≢◌, ◌↔◌, length, leb}
use Rattle.std.proofs.Math.Path.{◌≡◌}
use Rattle.base_octets.specs.Every.{every}
use Rattle.unit_tunnel.specs.Numbering.{places}
use Rattle.unit_session.specs.Session.{is_due}
use Rattle.call_own.specs.Outcome.{least_reply}
use Rattle.call_store.specs.Stored.{State}
use Rattle.promise_demands.specs.Run.{send, answered, run, Kept}
use Rattle.promise_demands.specs.Bounds.{at}

-- nothing is due: neither the echo, whose timer runs, nor the request of a place
pub record NothingDue (s : State) : Type 0 where
  pub echo : s.node.echo.timer ≢ 0
  pub place : (i : ℕ) → is_due (at s i) ≡ false

-- a reply buffer that is not short
unfoldable pub roomy : List ℕ → Bool
roomy reply = leb least_reply (length reply)

pub record SendsEnd : Type 0 where
  pub exactly : (s : State) → Kept s → (reply : List ℕ) → roomy reply ≡ true → (answered (send reply) s ≡ 17) ↔ NothingDue s
  pub ends : (s : State) → Kept s → (replies : List (List ℕ)) → every roomy replies ≡ true → places + 1 ≤ length replies
      → NothingDue (run (map send replies) s)
