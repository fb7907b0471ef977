-- What a Create read comes to is the same in stages; and what a decoded Create holds.
-- Assumes nothing.
use Rattle.std.specs.Prelude.{ℕ, not, List, ◌≡◌, refl, eqb, Ok}
use Rattle.wire_fields.specs.Walk.{part}
use Rattle.wire_fields.specs.Search.{find}
use Rattle.wire_fields.specs.Overrun.{over_in}
use Rattle.wire_fields.specs.Refusal.{short_cause, unknown_apn_cause, address_type_cause}
use Rattle.wire_fields.specs.Kinds.{imsi_kind, rat_kind, tunnel_kind, apn_kind, paa_kind, bearer_kind, ebi_kind, qos_kind}
use Rattle.wire_fields.specs.Readers.{imsi_in, rat_in, tunnel_in, paa_in, ebi_in, octet_in, imsi_in_below, ebi_range, tunnel_in_live}
use Rattle.unit_plan.specs.declared.Plan.{Plan}
use Rattle.unit_plan.specs.Limits.{used, parties, no_point}
use Rattle.unit_plan.specs.Names.{named_in, named_is}
use Rattle.wire_requests.specs.declared.Create as C
use Rattle.wire_requests.specs.declared.Request.{Request}
use Rattle.wire_requests.specs.declared.Request.TheVariants.{Create, Modify, Delete}
use Rattle.wire_requests.specs.Chain.{Decoded, refused_by, field, refuse_got, place_got, field_got, point_got}
use Rattle.wire_requests.specs.Create.{ipv4, create_of, wanted_of, bearer_of, settled_of, CreateSound}

pub create_stages : (plan : Plan) (s : List ℕ) → create_of plan s ≡
    refused_by short_cause (over_in s) (
    field imsi_kind 0 (imsi_in s) λ imsi.
    field rat_kind 0 (rat_in s) λ rat.
    field tunnel_kind 0 (tunnel_in s 0 6) λ control.
    wanted_of plan s (record { imsi = imsi; control = control.teid; controladdr = control.address }))
unfolding create_of wanted_of bearer_of settled_of
create_stages plan s = refl

-- a request that came of it is a Create that is sound
module _ (plan : Plan) (s : List ℕ) (q : Request) (P : Request → Type 0) where
  is_create_lem : (r : C.Create) → ◌≡◌ {A = Decoded} (Ok (Create r)) (Ok q) → P (Create r) → P q
  is_create_lem r e h = let g : Create r ≡ q = cc in rw (← g) h

  pub create_is : create_of plan s ≡ Ok q → ((c : C.Create) → CreateSound (parties plan) c → P (Create c)) → P q
  unfolding create_of
  create_is e k =
      refuse_got q short_cause (over_in s) _ e λ o e0.
      field_got q imsi_kind 0 (imsi_in s) _ e0 λ x hx e1.
      field_got q rat_kind 0 (rat_in s) _ e1 λ rat hr e2.
      field_got q tunnel_kind 0 (tunnel_in s 0 6) _ e2 λ control ht e3.
      place_got q apn_kind 0 (find s apn_kind 0) _ e3 λ apn ha e4.
      field_got q paa_kind 0 (paa_in s) _ e4 λ paa hp e5.
      place_got q bearer_kind 0 (find s bearer_kind 0) _ e5 λ bearer hb e6.
      field_got q ebi_kind 0 (ebi_in (part s bearer.start bearer.size)) _ e6 λ ebi he e7.
      field_got q tunnel_kind 2 (tunnel_in (part s bearer.start bearer.size) 2 4) _ e7 λ user hu e8.
      field_got q qos_kind 0 (octet_in (part s bearer.start bearer.size) qos_kind 22) _ e8 λ qos hq e9.
      point_got q unknown_apn_cause (named_in (used plan) (part s apn.start apn.size)) _ e9 λ p hn e10.
      refuse_got q address_type_cause (not (eqb paa ipv4)) _ e10 λ hv e11.
      is_create_lem _ e11 (k _ (record {
        imsi = imsi_in_below s x hx;
        low = (ebi_range (part s bearer.start bearer.size) ebi he).0;
        high = (ebi_range (part s bearer.start bearer.size) ebi he).1;
        control = tunnel_in_live s 0 6 control ht;
        user = tunnel_in_live (part s bearer.start bearer.size) 2 4 user hu;
        point = (named_is (used plan) (part s apn.start apn.size) p no_point hn).0;
      }))

unfoldable SoundIf : ℕ → Request → Type 0
SoundIf n (Create c) = CreateSound n c
SoundIf n (Modify m) = Unit {0}
SoundIf n (Delete d) = Unit {0}

pub create_sound : (plan : Plan) (s : List ℕ) (c : C.Create) → create_of plan s ≡ Ok (Create c) → CreateSound (parties plan) c
unfolding SoundIf
create_sound plan s c e = create_is plan s (Create c) (SoundIf (parties plan)) e (λ x h. h)
