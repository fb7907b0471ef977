-- An encoder for Create, Modify and Delete: every request in range as fields in the order of document 01's list, with any octets behind the
-- values; and each value that it writes fits the 2 octets of its length.
-- Assumes nothing.
use Rattle.std.specs.Prelude.{ℕ, zero, suc, ◌/◌, ◌%◌, ◌<◌, ◌≤◌, ◌||◌, List, [], ◌∷◌, ◌++◌, ◌≡◌, length, get_or, eqb, Option, Some, None, Result, Ok, Err}
use Rattle.std.proofs.Math.Bool.{true}
use Rattle.base_octets.specs.BigEndian.{octets_of}
use Rattle.wire_fields.specs.Kinds.{imsi_kind, rat_kind, tunnel_kind, apn_kind, paa_kind, bearer_kind, ebi_kind, qos_kind, recovery_kind}
use Rattle.unit_plan.specs.declared.Plan.{Plan}
use Rattle.unit_plan.specs.Limits.{used, parties, no_point}
use Rattle.unit_plan.specs.Names.{name_of}
use Rattle.wire_requests.specs.declared.Create as C
use Rattle.wire_requests.specs.declared.Modify as M
use Rattle.wire_requests.specs.declared.Delete as D
use Rattle.wire_requests.specs.Create.{CreateSound}
use Rattle.promise_demands.specs.Sent.{Sent, sent_octets}
use Rattle.promise_demands.specs.Values.{packed}
use Rattle.promise_demands.specs.Written.{Word}
use Rattle.wire_fields.specs.declared.Flaw.{Flaw}
use Rattle.wire_fields.specs.declared.Tunnel.{Tunnel}
use Rattle.wire_requests.specs.declared.Context.{Context}
use Rattle.wire_fields.specs.declared.Flaw.TheVariants as Flaw

-- ---- fields
abbrev pub field : ℕ → ℕ → List ℕ → Sent
field kind inst value = record { kind = kind; fourth = inst; value = value }

-- the last w decimal digits of a number
unfoldable pub digits_of : ℕ → ℕ → List ℕ
digits_of zero n = []
digits_of (suc w) n = digits_of w (n / 10) ++ (n % 10 ∷ [])

unfoldable pub tunnel_octets : ℕ → ℕ → ℕ → List ℕ → List ℕ
tunnel_octets flags teid addr behind = flags ∷ octets_of 4 teid ++ (octets_of 4 addr ++ behind)

-- what a message says that is not kept of it: RAT, the address of the PAA, the QoS, and octets behind the values, by the type of the field, in the
-- message and in the Bearer Context
pub record Besides : Type 0 where
  pub rat : ℕ
  pub address : ℕ
  pub qos : List ℕ
  pub behind : ℕ → List ℕ
  pub within : ℕ → List ℕ

-- none of them is so long that a length could not state it
pub record Short (x : Besides) : Type 0 where
  pub qos : length x.qos ≤ 10000
  pub behind : (kind : ℕ) → length (x.behind kind) ≤ 10000
  pub within : (kind : ℕ) → length (x.within kind) ≤ 10000

-- ---- the first octet of an F-TEID: V4, and interface 6 or 4
abbrev pub control_flags : ℕ
control_flags = 0x86

abbrev pub user_flags : ℕ
user_flags = 0x84

-- ---- Create
unfoldable pub create_bearer : C.Create → Besides → List Sent
create_bearer c x =
    field ebi_kind 0 (c.ebi ∷ x.within ebi_kind)
    ∷ field tunnel_kind 2 (tunnel_octets user_flags c.user c.useraddr (x.within tunnel_kind))
    ∷ field qos_kind 0 x.qos
    ∷ []

unfoldable pub recovery_field : Option ℕ → Besides → List Sent
recovery_field None x = []
recovery_field (Some r) x = field recovery_kind 0 (r ∷ x.behind recovery_kind) ∷ []

-- with the fields b in its Bearer Context
unfoldable pub create_fields : Plan → C.Create → Besides → List Sent → List Sent
create_fields plan c x b =
    field imsi_kind 0 (packed (digits_of 15 c.imsi) ++ x.behind imsi_kind)
    ∷ field rat_kind 0 (x.rat ∷ x.behind rat_kind)
    ∷ field tunnel_kind 0 (tunnel_octets control_flags c.control c.controladdr (x.behind tunnel_kind))
    ∷ field apn_kind 0 (name_of (get_or (used plan) c.point no_point))
    ∷ field paa_kind 0 (1 ∷ octets_of 4 x.address ++ x.behind paa_kind)
    ∷ field bearer_kind 0 (sent_octets b)
    ∷ recovery_field c.recovery x

-- 15 digits, EBI 5 to 15, TEIDs not 0, an access point of the plan; RAT 1 or 6; 22 octets of QoS
pub record CreateInRange (plan : Plan) (c : C.Create) (x : Besides) : Type 0 where
  pub sound : CreateSound (parties plan) c
  pub control : Word c.control
  pub controladdr : Word c.controladdr
  pub user : Word c.user
  pub useraddr : Word c.useraddr
  pub rat : (eqb x.rat 1 || eqb x.rat 6) ≡ true
  pub qos : 22 ≤ length x.qos

-- ---- Modify
unfoldable pub control_field : Option Tunnel → Besides → List Sent
control_field None x = []
control_field (Some end) x = field tunnel_kind 0 (tunnel_octets control_flags end.teid end.address (x.behind tunnel_kind)) ∷ []

unfoldable pub user_field : Result Tunnel Flaw → Besides → List Sent
user_field (Ok end) x = field tunnel_kind 1 (tunnel_octets user_flags end.teid end.address (x.within tunnel_kind)) ∷ []
user_field (Err Flaw.Missing) x = []
user_field (Err Flaw.Short) x = []
user_field (Err Flaw.Wrong) x = []

unfoldable pub context_field : Option Context → List Sent → List Sent
context_field None b = []
context_field (Some context) b = field bearer_kind 0 (sent_octets b) ∷ []

unfoldable pub context_bearer : Option Context → Besides → List Sent
context_bearer None x = []
context_bearer (Some context) x = field ebi_kind 0 (context.ebi ∷ x.within ebi_kind) ∷ user_field context.user x

unfoldable pub modify_fields : M.Modify → Besides → List Sent → List Sent
modify_fields m x b = control_field m.control x ++ context_field m.context b

pub record EndInRange (teid addr : ℕ) : Type 0 where
  pub live : 0 < teid
  pub teid_fits : Word teid
  pub addr_fits : Word addr

unfoldable pub PeerInRange : Option Tunnel → Type 0
PeerInRange None = Unit {0}
PeerInRange (Some end) = EndInRange end.teid end.address

unfoldable pub UserInRange : Result Tunnel Flaw → Type 0
UserInRange (Ok end) = EndInRange end.teid end.address
UserInRange (Err Flaw.Missing) = Unit {0}
UserInRange (Err Flaw.Short) = ⊥
UserInRange (Err Flaw.Wrong) = ⊥

unfoldable pub ContextInRange : Option Context → Type 0
ContextInRange None = Unit {0}
ContextInRange (Some context) = (5 ≤ context.ebi) × (context.ebi ≤ 15) × UserInRange context.user

pub record ModifyInRange (m : M.Modify) : Type 0 where
  pub control : PeerInRange m.control
  pub context : ContextInRange m.context

-- ---- Delete
unfoldable pub delete_fields : Option ℕ → Besides → List Sent
delete_fields None x = []
delete_fields (Some ebi) x = field ebi_kind 0 (ebi ∷ x.behind ebi_kind) ∷ []

unfoldable pub EbiInRange : Option ℕ → Type 0
EbiInRange None = Unit {0}
EbiInRange (Some ebi) = ebi ≤ 15

-- ---- the octets behind the header, with these fields and no other
unfoldable pub encoded_create : Plan → C.Create → Besides → List ℕ
encoded_create plan c x = sent_octets (create_fields plan c x (create_bearer c x))

unfoldable pub encoded_modify : M.Modify → Besides → List ℕ
encoded_modify m x = sent_octets (modify_fields m x (context_bearer m.context x))

unfoldable pub encoded_delete : D.Delete → Besides → List ℕ
encoded_delete d x = sent_octets (delete_fields d.ebi x)
