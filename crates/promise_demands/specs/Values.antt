-- The values of the fields of a Create, Modify and Delete as document 01 asks for them, with any octets behind; and what each reader makes of a
-- message whose first field of that type and instance has such a value.
-- Assumes nothing.
use Rattle.std.specs.Prelude.{ℕ, ◌+◌, ◌*◌, ◌%◌, ◌<◌, ◌≤◌, ◌||◌, ◌≡◌, length, get_or, Option, Some, None, List}
use Rattle.std.proofs.Math.Bool.{true}
use mathlib.Core.List.{List, [], ◌∷◌, ◌++◌}
use Rattle.std.proofs.Math.Dec.{eqb}
use Rattle.base_octets.specs.Every.{every}
use Rattle.base_octets.specs.BigEndian.{octets_of}
use Rattle.wire_fields.specs.Imsi.{is_half, decimal_from}
use Rattle.wire_fields.specs.Tunnel.{v4_flag, interfaces}
use Rattle.unit_plan.specs.declared.Plan.{Plan}
use Rattle.unit_plan.specs.Limits.{used, parties, no_point}
use Rattle.unit_plan.specs.Names.{name_of}
use Rattle.promise_demands.specs.Sent.{Sent, first_sent}
use Rattle.promise_demands.specs.Written.{Word}

-- ---- values, as document 01 asks for them; what stands behind them is ignored
-- digits, the first in the low half of each octet; the last high half is F
unfoldable pub packed : List ℕ → List ℕ
packed [] = []
packed (x ∷ []) = (240 + x) ∷ []
packed (x ∷ y ∷ l) = (y * 16 + x) ∷ packed l

-- IMSI: 15 digits
pub record ImsiValue (imsi : ℕ) (v : List ℕ) : Type 0 where
  pub digits : List ℕ
  pub behind : List ℕ
  pub fifteen : length digits ≡ 15
  pub each : every is_half digits ≡ true
  pub number : decimal_from 0 digits ≡ imsi
  pub octets : v ≡ packed digits ++ behind

-- RAT Type: 1 or 6
pub record RatValue (v : List ℕ) : Type 0 where
  pub rat : ℕ
  pub behind : List ℕ
  pub one_or_six : (eqb rat 1 || eqb rat 6) ≡ true
  pub octets : v ≡ rat ∷ behind

-- F-TEID: the V4 flag is set, the low 6 bits are the interface; TEID, which is not 0, and address
pub record TunnelValue (interface teid addr : ℕ) (v : List ℕ) : Type 0 where
  pub flags : ℕ
  pub behind : List ℕ
  pub v4 : v4_flag ≤ flags
  pub its : flags % interfaces ≡ interface
  pub live : 0 < teid
  pub teid_fits : Word teid
  pub addr_fits : Word addr
  pub octets : v ≡ flags ∷ octets_of 4 teid ++ (octets_of 4 addr ++ behind)

-- APN: the name of an access point of the plan
pub record ApnValue (plan : Plan) (point : ℕ) (v : List ℕ) : Type 0 where
  pub known : point < parties plan
  pub octets : v ≡ name_of (get_or (used plan) point no_point)

-- PAA: 5 octets; its type, the low 3 bits, is 1
pub record PaaValue (v : List ℕ) : Type 0 where
  pub type : ℕ
  pub behind : List ℕ
  pub ipv4 : type % 8 ≡ 1
  pub long : 4 ≤ length behind
  pub octets : v ≡ type ∷ behind

-- EBI: the low half
pub record EbiValue (ebi : ℕ) (v : List ℕ) : Type 0 where
  pub octet : ℕ
  pub behind : List ℕ
  pub low : octet % 16 ≡ ebi
  pub octets : v ≡ octet ∷ behind

-- Bearer QoS: 22 octets
pub record QosValue (v : List ℕ) : Type 0 where
  pub first : ℕ
  pub behind : List ℕ
  pub long : 21 ≤ length behind
  pub octets : v ≡ first ∷ behind

-- Recovery: absent or empty is none
unfoldable pub recovery_sent : Option (List ℕ) → Option ℕ
recovery_sent None = None
recovery_sent (Some []) = None
recovery_sent (Some (x ∷ v)) = Some x

-- the first field of a type and instance has a value that is good
pub record Has (l : List Sent) (kind inst : ℕ) (Good : List ℕ → Type 0) : Type 0 where
  pub value : List ℕ
  pub first : first_sent l kind inst ≡ Some value
  pub good : Good value
