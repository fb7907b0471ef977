-- Create (32), read from the octets behind its header under a plan: first the overruns, then the fields in document 01's order, then an unknown APN (78)
-- and the type of the PAA (83), then Recovery.
-- Assumes nothing.
use Rattle.std.specs.Prelude.{ℕ, ◌<◌, ◌≤◌, not, List, eqb, Option, Result, Ok, Err}
use Rattle.base_octets.specs.Choice.{pick}
use Rattle.wire_fields.specs.Walk.{part}
use Rattle.wire_fields.specs.Search.{find}
use Rattle.wire_fields.specs.Overrun.{over_in}
use Rattle.wire_fields.specs.Imsi.{imsi_limit}
use Rattle.wire_fields.specs.declared.Flaw.{Flaw}
use Rattle.wire_fields.specs.declared.Tunnel.{Tunnel}
use Rattle.wire_fields.specs.Refusal.{short_cause, unknown_apn_cause, address_type_cause}
use Rattle.wire_fields.specs.Kinds.{imsi_kind, rat_kind, tunnel_kind, apn_kind, paa_kind, bearer_kind, ebi_kind, qos_kind}
use Rattle.wire_fields.specs.Readers.{imsi_in, rat_in, tunnel_in, paa_in, ebi_in, octet_in, recovery_in}
use Rattle.unit_plan.specs.declared.Plan.{Plan}
use Rattle.unit_plan.specs.Limits.{used}
use Rattle.unit_plan.specs.Names.{named_in}
use Rattle.wire_requests.specs.declared.Create as C
use Rattle.wire_requests.specs.declared.Request.TheVariants.{Create}
use Rattle.wire_requests.specs.Chain.{Decoded, refused_by, place, field, point}

-- the one PAA type that is served: IPv4
abbrev pub ipv4 : ℕ
ipv4 = 1

unfoldable pub create_of : Plan → List ℕ → Decoded
create_of plan s =
    refused_by short_cause (over_in s) (
    field imsi_kind 0 (imsi_in s) λ imsi.
    field rat_kind 0 (rat_in s) λ rat.
    field tunnel_kind 0 (tunnel_in s 0 6) λ control.
    place apn_kind 0 (find s apn_kind 0) λ apn size.
    field paa_kind 0 (paa_in s) λ paa.
    place bearer_kind 0 (find s bearer_kind 0) λ start all.
    field ebi_kind 0 (ebi_in (part s start all)) λ ebi.
    field tunnel_kind 2 (tunnel_in (part s start all) 2 4) λ user.
    field qos_kind 0 (octet_in (part s start all) qos_kind 22) λ qos.
    point unknown_apn_cause (named_in (used plan) (part s apn size)) λ point.
    refused_by address_type_cause (not (eqb paa ipv4)) (
    Ok (Create (record {
      imsi = imsi;
      ebi = ebi;
      control = control.teid;
      controladdr = control.address;
      user = user.teid;
      useraddr = user.address;
      point = point;
      recovery = recovery_in s;
    }))))

-- ---- the same in stages: of the message, of the Bearer Context, and what is settled after the list
-- who asks
pub record Sender : Type 0 where
  pub imsi : ℕ
  pub control : ℕ
  pub controladdr : ℕ

-- what is asked for
pub record Wanted : Type 0 where
  pub named : Option ℕ
  pub paa : ℕ
  pub recovery : Option ℕ

-- what the Bearer Context tells
pub record Bearer : Type 0 where
  pub ebi : ℕ
  pub user : ℕ
  pub useraddr : ℕ

unfoldable pub settled_of : Sender → Wanted → Bearer → Decoded
settled_of who what bearer =
    point unknown_apn_cause what.named λ point.
    refused_by address_type_cause (not (eqb what.paa ipv4)) (
    Ok (Create (record {
      imsi = who.imsi;
      ebi = bearer.ebi;
      control = who.control;
      controladdr = who.controladdr;
      user = bearer.user;
      useraddr = bearer.useraddr;
      point = point;
      recovery = what.recovery;
    })))

unfoldable pub bearer_of : List ℕ → Sender → Wanted → Decoded
bearer_of b who what =
    field ebi_kind 0 (ebi_in b) λ ebi.
    field tunnel_kind 2 (tunnel_in b 2 4) λ user.
    field qos_kind 0 (octet_in b qos_kind 22) λ qos.
    settled_of who what (record { ebi = ebi; user = user.teid; useraddr = user.address })

unfoldable pub wanted_of : Plan → List ℕ → Sender → Decoded
wanted_of plan s who =
    place apn_kind 0 (find s apn_kind 0) λ apn size.
    field paa_kind 0 (paa_in s) λ paa.
    place bearer_kind 0 (find s bearer_kind 0) λ start all.
    bearer_of (part s start all) who (record { named = named_in (used plan) (part s apn size); paa = paa; recovery = recovery_in s })

-- the TEID that a cause reply to a Create goes to: that of a Sender F-TEID that passes its own checks, else 0; 0 after an overrun
unfoldable pub teid_in : Result Tunnel Flaw → ℕ
teid_in (Ok t) = t.teid
teid_in (Err e) = 0

unfoldable pub reply_to : List ℕ → ℕ
reply_to s = pick {A = ℕ} (over_in s) 0 (teid_in (tunnel_in s 0 6))

-- ---- what a decoded Create holds
pub record CreateSound (parties : ℕ) (c : C.Create) : Type 0 where
  pub imsi : c.imsi < imsi_limit
  pub low : 5 ≤ c.ebi
  pub high : c.ebi ≤ 15
  pub control : 0 < c.control
  pub user : 0 < c.user
  pub point : c.point < parties
