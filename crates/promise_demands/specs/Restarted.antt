-- What a Recovery value of a restart does, for each datagram that carries one: node and records as they are then.
-- Assumes nothing.
use Rattle.std.specs.Prelude.{ℕ, ◌<◌, true, List, ◌≡◌, length, get_or, Option, None}
use Rattle.unit_session.specs.declared.Session.{Session}
use Rattle.unit_table.specs.declared.Node.{Node}
use Rattle.unit_table.specs.Change.{nobody}
use Rattle.call_asked.specs.declared.Asked.{Asked}
use Rattle.call_asked.specs.declared.Asked.TheVariants as A
use Rattle.promise_demands.specs.Place.{gone}

-- the Recovery that is looked at: in types 1, 2 and 32
unfoldable pub recovery_in : Asked → Option ℕ
recovery_in (A.Silent number) = None
recovery_in A.Version = None
recovery_in (A.Echo r seq) = r
recovery_in (A.EchoReply r) = r
recovery_in (A.Create c seq) = c.recovery
recovery_in (A.Refused w to seq) = None
recovery_in (A.Session teid seq x) = None

-- ---- after a restart: node and records
pub record TableGone (t : List Session) (value : ℕ) (node : Node) (after : List Session) : Type 0 where
  pub heard : node.heard ≡ 1
  pub recovery : node.recovery ≡ value
  pub gone : (i : ℕ) → i < length t → gone (get_or t i nobody).usage (get_or after i nobody) ≡ true
