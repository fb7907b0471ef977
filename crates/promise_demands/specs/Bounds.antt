-- After any run: table and store keep their rules, so that neither 2 nor 11 comes; no access point is over its ceiling and S is at most places; and
-- no two live sessions share a tunnel number, an address, or IMSI with EBI.
-- Assumes nothing.
use Rattle.std.specs.Prelude.{ℕ, ◌<◌, ◌≤◌, false, List, ◌≢◌, ◌≡◌, get_or}
use Rattle.unit_tunnel.specs.Numbering.{places, teids}
use Rattle.unit_tunnel.specs.Tunnel.{control_number, user_number}
use Rattle.unit_plan.specs.declared.Plan.{Plan}
use Rattle.unit_plan.specs.Address.{address_of}
use Rattle.unit_plan.specs.Limits.{parties}
use Rattle.unit_sharing.specs.Sharing.{share_of, ceiling_at}
use Rattle.unit_session.specs.declared.Session.{Session}
use Rattle.unit_session.specs.Session.{is_free}
use Rattle.unit_table.specs.Rules.{live_on}
use Rattle.unit_table.specs.Change.{nobody}
use Rattle.call_store.specs.Stored.{State}
use Rattle.promise_demands.specs.Run.{Event, answered, run, Start, Run}

-- the record of a place
abbrev pub at : State → ℕ → Session
at s i = get_or s.table i nobody

-- u of an access point, counted from the records
abbrev pub u : State → ℕ → ℕ
u s a = live_on a s.table

-- ---- 2 and 11
unfoldable pub RulesHold : Type 0
RulesHold = (p : Plan) (s : State) (es : List Event) → Run p s es → Start p (run es s)

unfoldable pub NeitherTwoNorEleven : Type 0
NeitherTwoNorEleven = (p : Plan) (s : State) (es : List Event) → Run p s es → (e : Event) → (answered e (run es s) ≢ 2) × (answered e (run es s) ≢ 11)

-- ---- u ≤ c and S ≤ places
unfoldable pub CeilingsKept : Type 0
CeilingsKept = (p : Plan) (s : State) (es : List Event) → Run p s es
    → ((a : ℕ) → a < parties p → u (run es s) a ≤ ceiling_at p a) × (share_of p (u (run es s)) ≤ places)

-- ---- two places that are live or closing
pub record Apart (p : Plan) (i j : ℕ) (s d : Session) : Type 0 where
  pub controls : control_number s.usage i ≢ control_number d.usage j
  pub users : user_number s.usage i ≢ user_number d.usage j
  pub addresses : address_of p.pool i ≢ address_of p.pool j
  pub ids : s.imsi ≡ d.imsi → s.ebi ≡ d.ebi → ⊥

-- one place: its two numbers are numbers of 32 bits, and never the same
pub record Own (i : ℕ) (s : Session) : Type 0 where
  pub control : control_number s.usage i < teids
  pub user : user_number s.usage i < teids
  pub kinds : (j v : ℕ) → j < places → control_number s.usage i ≢ user_number v j

unfoldable pub NoneShared : Type 0
NoneShared = (p : Plan) (s : State) (es : List Event) → Run p s es → (i : ℕ) → i < places
    → Own i (at (run es s) i)
    × ((j : ℕ) → j < places → i ≢ j → is_free (at (run es s) i) ≡ false → is_free (at (run es s) j) ≡ false
    → Apart p i j (at (run es s) i) (at (run es s) j))
