-- That what specs/Wellformed.antt says holds, and what that rests on.
-- Assumes nothing.
use Rattle.std.specs.Prelude.{ℕ, true, false, List, ◌≡◌, refl, length, Option, Some, None, Result, Ok, Err}
use Rattle.std.proofs.Common.{◌∙◌, eq-eqb}
use Rattle.base_octets.specs.Every.{every}
use Rattle.wire_fields.specs.Overrun.{over_in, over_no_bearer, over_bearer}
use Rattle.wire_fields.specs.Kinds.{apn_kind, bearer_kind, ebi_kind, recovery_kind}
use Rattle.wire_fields.specs.Readers.{octet_at, octet_in, tunnel_in}
use Rattle.unit_plan.specs.declared.Plan.{Plan}
use Rattle.unit_plan.specs.Limits.{used, no_point}
use Rattle.unit_plan.specs.Plan.{accepted}
use Rattle.wire_requests.specs.declared.Create as C
use Rattle.wire_requests.specs.declared.Modify as M
use Rattle.wire_requests.specs.declared.Delete as D
use Rattle.wire_requests.specs.declared.Request.TheVariants.{Create, Modify, Delete}
use Rattle.wire_requests.specs.Create.{create_of}
use Rattle.wire_requests.specs.Change.{modify_of, delete_of, end_moves, context_moves, moves_of, ebi_means, means_of}
use Rattle.promise_demands.proofs.Values.{found, imsi-sent, rat_sent, tunnel-sent, tunnel-lacks, paa_sent}
use Rattle.promise_demands.proofs.Values.{ebi_octet, ebi_sent, qos_sent, recovery_sent_lem, named-point, plan_names}
use Rattle.promise_demands.specs.Sent.{Sent, fits, sent_octets, first_sent, SentIsFound}
use Rattle.promise_demands.proofs.Sent.{sent_is_found}
use Rattle.promise_demands.specs.Wellformed.{GoodCreate, ControlSent, UserSent, ContextSent, GoodModify, EbiSent, WholeBearer, GoodDelete, ModifyFor, DeleteFor, user_end, user_moved, GoodIsRead}
use Rattle.wire_fields.specs.declared.Flaw.{Flaw}
use Rattle.wire_fields.specs.declared.Tunnel.{Tunnel}
use Rattle.wire_requests.specs.declared.Context.{Context}
use Rattle.wire_requests.specs.Chain.{if_present}
use Rattle.wire_fields.specs.declared.Flaw.TheVariants as Flaw

-- ---- laws: no overrun
module _ (l : List Sent) (fit : every fits l ≡ true) where
  whole_without : first_sent l bearer_kind 0 ≡ None → over_in (sent_octets l) ≡ false
  whole_without e = over_no_bearer (sent_octets l) (found l fit).whole ((found l fit).missing bearer_kind 0 e)

  whole_with : (v : List ℕ) (b : List Sent) → first_sent l bearer_kind 0 ≡ Some v → v ≡ sent_octets b → every fits b ≡ true → over_in (sent_octets l) ≡ false
  unfolding SentIsFound
  whole_with v b e f w =
      let r = (found l fit).held bearer_kind 0 v e in
      over_bearer (sent_octets l) _ (found l fit).whole r.found ∙ rw (r.octets, f) (sent_is_found b w).whole

  whole_either : (m : Option (List ℕ)) → first_sent l bearer_kind 0 ≡ m → WholeBearer m → over_in (sent_octets l) ≡ false
  unfolding WholeBearer
  whole_either None e w = whole_without e
  whole_either (Some v) e w = whole_with v w.fields e w.octets w.fit

-- ---- laws: one request
create_good : (plan : Plan) (l : List Sent) (c : C.Create) → accepted plan ≡ true → GoodCreate plan l c
    → create_of plan (sent_octets l) ≡ Ok (Create c)
unfolding create_of
create_good plan l c p g =
    let b = g.bearer.good in
    let at = (found l g.fit).held bearer_kind 0 g.bearer.value g.bearer.first in
    let apn = (found l g.fit).held apn_kind 0 g.apn.value g.apn.first in
    let name = g.apn.good in
    rw (
      whole_with l g.fit g.bearer.value b.fields g.bearer.first b.octets b.fit,
      imsi-sent l g.fit c.imsi g.imsi,
      rat_sent l g.fit g.rat,
      tunnel-sent l g.fit 0 6 c.control c.controladdr g.control,
      apn.found,
      paa_sent l g.fit g.paa,
      at.found,
      at.octets,
      b.octets,
      ebi_sent b.fields b.fit c.ebi b.five b.ebi,
      tunnel-sent b.fields b.fit 2 4 c.user c.useraddr b.user,
      qos_sent b.fields b.fit b.qos,
      apn.octets,
      name.octets,
      named-point (used plan) c.point no_point (plan_names plan p) name.known,
      recovery_sent_lem l g.fit (first_sent l recovery_kind 0) refl,
      g.recovery,
    )

modify_good : (l : List Sent) (m : M.Modify) → GoodModify l m → modify_of (sent_octets l) ≡ Ok (Modify m)
unfolding modify_of ControlSent UserSent ContextSent
modify_good l m g = by m.control m.context g.control g.context
  where
    within : (b : List Sent) → every fits b ≡ true → (t : Result Tunnel Flaw) → UserSent b t → tunnel_in (sent_octets b) 1 4 ≡ t
    within b fit (Err Flaw.Missing) h = tunnel-lacks b fit 1 4 h
    within b fit (Ok end) h = tunnel-sent b fit 1 4 end.teid end.address h
    within b fit (Err Flaw.Short) h = absurd h
    within b fit (Err Flaw.Wrong) h = absurd h

    by : (p : Option Tunnel) (x : Option Context) → ControlSent l p → ContextSent l x → modify_of (sent_octets l) ≡ Ok (Modify (record { control = p; context = x }))
    by None None h k =
        rw (whole_without l g.fit k, tunnel-lacks l g.fit 0 6 h, (found l g.fit).missing bearer_kind 0 k)
    by (Some end) None h k =
        rw (whole_without l g.fit k, tunnel-sent l g.fit 0 6 end.teid end.address h, (found l g.fit).missing bearer_kind 0 k)
    by None (Some context) h k =
        let b = k.good in
        let at = (found l g.fit).held bearer_kind 0 k.value k.first in
        rw (
          whole_with l g.fit k.value b.fields k.first b.octets b.fit,
          tunnel-lacks l g.fit 0 6 h,
          at.found,
          at.octets,
          b.octets,
          ebi_sent b.fields b.fit context.ebi b.five b.its,
          within b.fields b.fit context.user b.tunnel,
        )
    by (Some end) (Some context) h k =
        let b = k.good in
        let at = (found l g.fit).held bearer_kind 0 k.value k.first in
        rw (
          whole_with l g.fit k.value b.fields k.first b.octets b.fit,
          tunnel-sent l g.fit 0 6 end.teid end.address h,
          at.found,
          at.octets,
          b.octets,
          ebi_sent b.fields b.fit context.ebi b.five b.its,
          within b.fields b.fit context.user b.tunnel,
        )

delete_good : (l : List Sent) (d : D.Delete) → GoodDelete l d → delete_of (sent_octets l) ≡ Ok (Delete d)
unfolding delete_of EbiSent octet_in octet_at
delete_good l d g = by d.ebi g.ebi
  where
    by : (x : Option ℕ) → EbiSent l x → delete_of (sent_octets l) ≡ Ok (Delete (record { ebi = x }))
    by None h = rw (whole_either l g.fit (first_sent l bearer_kind 0) refl g.bearer, (found l g.fit).missing ebi_kind 0 h)
    by (Some ebi) h =
        rw (whole_either l g.fit (first_sent l bearer_kind 0) refl g.bearer, ebi_octet l g.fit ebi h, h.good.low)

modify_moves : (l : List Sent) (m : M.Modify) (ebi : ℕ) → GoodModify l m → ModifyFor m.context ebi
    → moves_of m ebi ≡ Ok (record { control = m.control; user = user_end m.context })
unfolding ModifyFor ContextSent UserSent user_end user_moved moves_of context_moves end_moves
modify_moves l m ebi g h = by m.context g.context h
  where
    tunnel : (b : List Sent) (t : Result Tunnel Flaw) → UserSent b t → end_moves m.control (if_present t) ≡ Ok (record { control = m.control; user = user_moved t })
    tunnel b (Ok end) k = refl
    tunnel b (Err Flaw.Missing) k = refl
    tunnel b (Err Flaw.Short) k = absurd k
    tunnel b (Err Flaw.Wrong) k = absurd k

    by : (k : Option Context) → ContextSent l k → ModifyFor k ebi → context_moves m.control k ebi ≡ Ok (record { control = m.control; user = user_end k })
    by None c f = refl
    by (Some context) c f = rw (eq-eqb context.ebi ebi f) (tunnel c.good.fields context.user c.good.tunnel)

delete_means : (l : List Sent) (d : D.Delete) (ebi : ℕ) → GoodDelete l d → DeleteFor d.ebi ebi → means_of d ebi ≡ true
unfolding DeleteFor means_of ebi_means
delete_means l d ebi g h = by d.ebi h
  where
    by : (k : Option ℕ) → DeleteFor k ebi → ebi_means k ebi ≡ true
    by None f = refl
    by (Some x) f = eq-eqb x ebi f

pub good_is_read : GoodIsRead
good_is_read = record {
  create = create_good;
  modify = modify_good;
  delete = delete_good;
  moves = modify_moves;
  means = delete_means;
}
