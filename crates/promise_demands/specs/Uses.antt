-- Uses before the first call: fresh begins every place at use 0, so that after a restart of the unit an old packet may meet a new session. A host
-- may give the free records other uses first, and all that is said of runs holds from there.
-- Assumes nothing.
use Rattle.std.specs.Prelude.{ℕ, Bool, true, List, map, ◌↔◌, ◌≡◌, length, replicate, leb}
use Rattle.base_octets.specs.Every.{every}
use Rattle.unit_tunnel.specs.Numbering.{places, last_use}
use Rattle.unit_plan.specs.declared.Plan.{Plan}
use Rattle.unit_plan.specs.Plan.{accepted}
use Rattle.unit_session.specs.Session.{blank_at}
use Rattle.call_store.specs.Stored.{State, fresh_state}
use Rattle.promise_demands.specs.Run.{Start}

-- fresh, but for the uses of its records, which are free
unfoldable pub fresh_used : Plan → List ℕ → State
fresh_used p us = record { node = (fresh_state p).node; table = map blank_at us; store = (fresh_state p).store }

-- a use is at most the last
unfoldable pub is_use : ℕ → Bool
is_use usage = leb usage last_use

pub record AnyUsesStart : Type 0 where
  -- under an accepted plan a run may start from there exactly when there is a use for each place and none is past the last
  pub starts : (p : Plan) (us : List ℕ) → accepted p ≡ true → Start p (fresh_used p us) ↔ ((length us ≡ places) × (every is_use us ≡ true))
  -- with use 0 everywhere it is fresh
  pub zeros : (p : Plan) → fresh_used p (replicate places 0) ≡ fresh_state p
