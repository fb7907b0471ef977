-- What a Recovery value of the exchange does after any run, by how far it is ahead of the stored one, modulo 256. One that came late is
-- thrown away: the datagram is answered as if it carried none, and no session goes. After a restart all are gone, and no reply is kept.
-- Assumes nothing.
use Rattle.std.specs.Prelude.{ℕ, ◌<◌, ◌≤◌, Bool, true, List, ◌≡◌, length, get_or, Some, None}
use Rattle.std.proofs.Math.Bool.{false}
use Rattle.base_octets.specs.Every.{every}
use Rattle.unit_plan.specs.declared.Plan.{Plan}
use Rattle.unit_session.specs.declared.Session.{Session}
use Rattle.unit_session.specs.Session.{is_free, has_id}
use Rattle.unit_table.specs.Change.{nobody}
use Rattle.unit_table.specs.Recovery.{turned}
use Rattle.unit_store.specs.Row.{is_unused}
use Rattle.unit_store.specs.Store.{emptied}
use Rattle.wire_requests.specs.declared.Create as C
use Rattle.call_asked.specs.declared.Asked.{Asked}
use Rattle.call_asked.specs.declared.Asked.TheVariants as A
use Rattle.call_asked.specs.Asked.{asked_of}
use Rattle.call_own.specs.Outcome.{least_reply}
use Rattle.call_control.specs.Control.{asked_taken}
use Rattle.call_store.specs.Stored.{State, control_stored}
use Rattle.promise_demands.specs.Run.{Event, control, step, run, Run}
use Rattle.promise_demands.specs.Place.{gone}
use Rattle.promise_demands.specs.Restarted.{recovery_in}

-- the same, but that it carries none
unfoldable pub create_without : C.Create → C.Create
create_without c = record {
  imsi = c.imsi;
  ebi = c.ebi;
  control = c.control;
  controladdr = c.controladdr;
  user = c.user;
  useraddr = c.useraddr;
  point = c.point;
  recovery = None;
}

unfoldable pub without : Asked → Asked
without (A.Silent number) = A.Silent number
without A.Version = A.Version
without (A.Echo r seq) = A.Echo None seq
without (A.EchoReply r) = A.EchoReply None
without (A.Create c seq) = A.Create (create_without c) seq
without (A.Refused w to seq) = A.Refused w to seq
without (A.Session teid seq x) = A.Session teid seq x

-- the session that a Create is for: the one with its IMSI and EBI
unfoldable pub is_for : Asked → Session → Bool
is_for (A.Silent number) x = false
is_for A.Version x = false
is_for (A.Echo r seq) x = false
is_for (A.EchoReply r) x = false
is_for (A.Create c seq) x = has_id c.imsi c.ebi x
is_for (A.Refused w to seq) x = false
is_for (A.Session teid seq x) y = false

-- the datagram carries the value, and one is stored
pub record Carries (s : State) (d : List ℕ) (value : ℕ) : Type 0 where
  pub carried : recovery_in (asked_of s.node d) ≡ Some value
  pub stored : 1 ≤ s.node.heard

-- received minus stored, modulo 256
abbrev pub ahead : State → ℕ → ℕ
ahead s value = turned value s.node.recovery

-- it came late
pub record ThrownAway (s : State) (d reply : List ℕ) : Type 0 where
  -- number, reply, node, records, and which of these may have changed: as if it carried none
  pub as_none : (control_stored s.node s.table s.store d reply).call ≡ asked_taken s.node s.table (without (asked_of s.node d)) reply
  -- the stored value is as it was
  pub heard : (step (control d reply) s).node.heard ≡ s.node.heard
  pub recovery : (step (control d reply) s).node.recovery ≡ s.node.recovery
  -- every session is as it was, but the one that a Create is for
  pub stays : (i : ℕ) → is_free (get_or s.table i nobody) ≡ false → is_for (asked_of s.node d) (get_or s.table i nobody) ≡ false
      → get_or (step (control d reply) s).table i nobody ≡ get_or s.table i nobody
  -- and so is the store
  pub store : (step (control d reply) s).store ≡ s.store

unfoldable pub LateKeeps : Type 0
LateKeeps = (p : Plan) (s : State) (es : List Event) → Run p s es → (d : List ℕ) (value : ℕ) → Carries (run es s) d value → 128 ≤ ahead (run es s) value
    → (reply : List ℕ) → least_reply ≤ length reply → ThrownAway (run es s) d reply

-- it is that of a restart: the value is stored, every session is gone, its place free or in another use, and no reply is kept
pub record AllGone (s : State) (value : ℕ) (after : State) : Type 0 where
  pub heard : after.node.heard ≡ 1
  pub recovery : after.node.recovery ≡ value
  pub gone : (i : ℕ) → i < length s.table → gone (get_or s.table i nobody).usage (get_or after.table i nobody) ≡ true
  pub store : after.store ≡ emptied s.store
  pub unused : every is_unused after.store ≡ true

unfoldable pub RestartsFree : Type 0
RestartsFree = (p : Plan) (s : State) (es : List Event) → Run p s es → (d : List ℕ) (value : ℕ) → Carries (run es s) d value
    → 1 ≤ ahead (run es s) value → ahead (run es s) value ≤ 127
    → (reply : List ℕ) → least_reply ≤ length reply → AllGone (run es s) value (step (control d reply) (run es s))
