-- A well-formed Create, Modify or Delete is read: fields in any order, unknown ones among them, octets behind each value; whenever the first field
-- of each type and instance in document 01's list has a value as the paper asks, the request is sound and holds what those values mean.
-- Assumes nothing.
use Rattle.std.specs.Prelude.{ℕ, ◌≤◌, true, List, ◌≡◌, Option, Some, None, Result, Ok, Err}
use Rattle.base_octets.specs.Every.{every}
use Rattle.wire_fields.specs.Kinds.{imsi_kind, rat_kind, tunnel_kind, apn_kind, paa_kind, bearer_kind, ebi_kind, qos_kind, recovery_kind}
use Rattle.unit_plan.specs.declared.Plan.{Plan}
use Rattle.unit_plan.specs.Plan.{accepted}
use Rattle.wire_requests.specs.declared.Create as C
use Rattle.wire_requests.specs.declared.Modify as M
use Rattle.wire_requests.specs.declared.Delete as D
use Rattle.wire_requests.specs.declared.Request.TheVariants.{Create, Modify, Delete}
use Rattle.wire_requests.specs.Create.{create_of}
use Rattle.wire_requests.specs.Change.{modify_of, delete_of, moves_of, means_of}
use Rattle.promise_demands.specs.Values.{ImsiValue, RatValue, TunnelValue, ApnValue, PaaValue, EbiValue, QosValue, recovery_sent, Has}
use Rattle.promise_demands.specs.Sent.{Sent, fits, sent_octets, first_sent}
use Rattle.wire_fields.specs.declared.Flaw.{Flaw}
use Rattle.wire_fields.specs.declared.Tunnel.{Tunnel}
use Rattle.wire_requests.specs.declared.Context.{Context}
use Rattle.wire_fields.specs.declared.Flaw.TheVariants as Flaw

-- ---- a well-formed Create: the paper's list; in the Bearer Context fields of the same form
pub record CreateBearer (c : C.Create) (v : List ℕ) : Type 0 where
  pub fields : List Sent
  pub fit : every fits fields ≡ true
  pub ebi : Has fields ebi_kind 0 (EbiValue c.ebi)
  pub five : 5 ≤ c.ebi
  pub user : Has fields tunnel_kind 2 (TunnelValue 4 c.user c.useraddr)
  pub qos : Has fields qos_kind 0 QosValue
  pub octets : v ≡ sent_octets fields

pub record GoodCreate (plan : Plan) (l : List Sent) (c : C.Create) : Type 0 where
  pub fit : every fits l ≡ true
  pub imsi : Has l imsi_kind 0 (ImsiValue c.imsi)
  pub rat : Has l rat_kind 0 RatValue
  pub control : Has l tunnel_kind 0 (TunnelValue 6 c.control c.controladdr)
  pub apn : Has l apn_kind 0 (ApnValue plan c.point)
  pub paa : Has l paa_kind 0 PaaValue
  pub bearer : Has l bearer_kind 0 (CreateBearer c)
  pub recovery : recovery_sent (first_sent l recovery_kind 0) ≡ c.recovery

-- ---- a well-formed Modify: Sender F-TEID and Bearer Context, each if present; in this the EBI, and the F-TEID if present
unfoldable pub ControlSent : List Sent → Option Tunnel → Type 0
ControlSent l None = first_sent l tunnel_kind 0 ≡ None
ControlSent l (Some end) = Has l tunnel_kind 0 (TunnelValue 6 end.teid end.address)

unfoldable pub UserSent : List Sent → Result Tunnel Flaw → Type 0
UserSent b (Err Flaw.Missing) = first_sent b tunnel_kind 1 ≡ None
UserSent b (Ok end) = Has b tunnel_kind 1 (TunnelValue 4 end.teid end.address)
UserSent b (Err Flaw.Short) = ⊥
UserSent b (Err Flaw.Wrong) = ⊥

pub record ModifyBearer (ebi : ℕ) (user : Result Tunnel Flaw) (v : List ℕ) : Type 0 where
  pub fields : List Sent
  pub fit : every fits fields ≡ true
  pub its : Has fields ebi_kind 0 (EbiValue ebi)
  pub five : 5 ≤ ebi
  pub tunnel : UserSent fields user
  pub octets : v ≡ sent_octets fields

unfoldable pub ContextSent : List Sent → Option Context → Type 0
ContextSent l None = first_sent l bearer_kind 0 ≡ None
ContextSent l (Some context) = Has l bearer_kind 0 (ModifyBearer context.ebi context.user)

pub record GoodModify (l : List Sent) (m : M.Modify) : Type 0 where
  pub fit : every fits l ≡ true
  pub control : ControlSent l m.control
  pub context : ContextSent l m.context

-- ---- a well-formed Delete: EBI if present; a Bearer Context is not looked at, but has whole fields too
unfoldable pub EbiSent : List Sent → Option ℕ → Type 0
EbiSent l None = first_sent l ebi_kind 0 ≡ None
EbiSent l (Some ebi) = Has l ebi_kind 0 (EbiValue ebi)

pub record WholeFields (v : List ℕ) : Type 0 where
  pub fields : List Sent
  pub fit : every fits fields ≡ true
  pub octets : v ≡ sent_octets fields

unfoldable pub WholeBearer : Option (List ℕ) → Type 0
WholeBearer None = Unit {0}
WholeBearer (Some v) = WholeFields v

pub record GoodDelete (l : List Sent) (d : D.Delete) : Type 0 where
  pub fit : every fits l ≡ true
  pub ebi : EbiSent l d.ebi
  pub bearer : WholeBearer (first_sent l bearer_kind 0)

-- ---- what a session is asked for by its EBI: a Modify whose Bearer Context has it, if there is one; a Delete that has it or none
unfoldable pub ModifyFor : Option Context → ℕ → Type 0
ModifyFor None ebi = Unit {0}
ModifyFor (Some context) ebi = context.ebi ≡ ebi

unfoldable pub DeleteFor : Option ℕ → ℕ → Type 0
DeleteFor None ebi = Unit {0}
DeleteFor (Some x) ebi = x ≡ ebi

-- the user end that a Modify asks for: another, or as it was
unfoldable pub user_moved : Result Tunnel Flaw → Option Tunnel
user_moved (Ok end) = Some end
user_moved (Err e) = None

unfoldable pub user_end : Option Context → Option Tunnel
user_end None = None
user_end (Some context) = user_moved context.user

-- ---- the promise: what is well-formed is read, and holds what was meant; for its session a Modify moves the peer and a Delete is meant
pub record GoodIsRead : Type 0 where
  pub create : (plan : Plan) (l : List Sent) (c : C.Create) → accepted plan ≡ true → GoodCreate plan l c
      → create_of plan (sent_octets l) ≡ Ok (Create c)
  pub modify : (l : List Sent) (m : M.Modify) → GoodModify l m → modify_of (sent_octets l) ≡ Ok (Modify m)
  pub delete : (l : List Sent) (d : D.Delete) → GoodDelete l d → delete_of (sent_octets l) ≡ Ok (Delete d)
  pub moves : (l : List Sent) (m : M.Modify) (ebi : ℕ) → GoodModify l m → ModifyFor m.context ebi
      → moves_of m ebi ≡ Ok (record { control = m.control; user = user_end m.context })
  pub means : (l : List Sent) (d : D.Delete) (ebi : ℕ) → GoodDelete l d → DeleteFor d.ebi ebi → means_of d ebi ≡ true
