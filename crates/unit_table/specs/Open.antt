-- Opening a session at a free place keeps every rule, where the sharing rule admits it and nobody else has its IMSI and EBI.
-- Assumes nothing.
use Rattle.std.specs.Prelude.{◌≡◌, ℕ, ◌+◌, ◌<◌, ◌≤◌, true, false, ◌&&◌, List, length, ◌==◌, slice_index_or, slice_set, refl}
use Rattle.std.proofs.Common.{◌∙◌, eqb-true}
use native.Mathlib.Omega.{arith}
use Rattle.std.proofs.Math.ListN.{length-set}
use mir.Val.{bool_byte}
use Rattle.base_octets.specs.Choice.{split, and_left, and_right}
use Rattle.base_octets.specs.Every.{every_set}
use Rattle.base_octets.specs.Sums.{count_of, sum_set, sum_set_most}
use Rattle.base_octets.specs.Search.{first_of, first-gone}
use Rattle.unit_plan.specs.declared.Plan.{Plan}
use Rattle.unit_plan.specs.Limits.{parties}
use Rattle.unit_sharing.specs.Sharing.{admits, guarantee_at, ceiling_at}
use Rattle.unit_sharing.proofs.Sharing.{admitted-keeps}
use Rattle.unit_session.specs.declared.OwnRequest.{OwnRequest}
use Rattle.unit_session.specs.declared.Session.{Session}
use Rattle.unit_session.specs.declared.Opening.{Opening}
use Rattle.unit_session.specs.Session.{is_free, is_on, has_id, waits_for, record_ok, blank_at, freed, opened}
use Rattle.unit_session.specs.Keep.{opening_ok, ok_opened, opened_on, opened_id, opened_waits}
use Rattle.unit_table.specs.Rules.{live_on, live, bounds_of, Rules}
use Rattle.unit_table.specs.Change.{nobody, changed_at, record_ok_lem}
use Rattle.unit_table.specs.Room.{admits-known}

-- a session with this IMSI and EBI is freed, if there is one
unfoldable pub replaced : ℕ → ℕ → List Session → List Session
replaced imsi ebi l = changed_at freed (first_of (has_id imsi ebi) l) l

-- then nobody has them: a freed record is nobody's
pub freed_none : (imsi ebi : ℕ) (s : Session) → has_id imsi ebi (freed s) ≡ false
unfolding freed blank_at has_id is_free
freed_none imsi ebi s = refl

pub replaced_none : (p : Plan) (echo : OwnRequest) (next : ℕ) (l : List Session) → Rules p echo next l → (imsi ebi : ℕ) → count_of (has_id imsi ebi) (replaced imsi ebi l) ≡ 0
unfolding replaced changed_at
replaced_none p echo next l r imsi ebi =
    first-gone (has_id imsi ebi) l (freed (slice_index_or l (first_of (has_id imsi ebi) l) nobody)) nobody (freed_none imsi ebi (slice_index_or l (first_of (has_id imsi ebi) l) nobody)) (r.once imsi ebi)

module _ (p : Plan) (echo : OwnRequest) (next : ℕ) (l : List Session) (r : Rules p echo next l) (o : Opening) (i : ℕ)
    (h : i < length l) (n : is_free (slice_index_or l i nobody) ≡ true) where
  -- a free record weighs nothing
  free_on : (a : ℕ) → bool_byte (is_on a (slice_index_or l i nobody)) ≡ 0
  unfolding is_on
  free_on a = rw n

  free_id : (imsi ebi : ℕ) → bool_byte (has_id imsi ebi (slice_index_or l i nobody)) ≡ 0
  unfolding has_id
  free_id imsi ebi = rw n

  -- one more on its access point, and on no other
  pub opened-live : (a : ℕ) → live_on a (changed_at (opened o) i l) ≡ live_on a l + bool_byte (o.point == a)
  unfolding live_on changed_at
  opened-live a =
      let e = sum_set (λ x. bool_byte (is_on a x)) l i (opened o (slice_index_or l i nobody)) nobody h in
      let f = free_on a in
      let g = rw (opened_on o (slice_index_or l i nobody) a) at e in
      omega arith

  -- its IMSI and EBI are had once, all others as before
  alone : count_of (has_id o.imsi o.ebi) l ≡ 0 → (imsi ebi : ℕ) → count_of (has_id imsi ebi) (slice_set l i (opened o (slice_index_or l i nobody))) ≤ 1
  alone none imsi ebi =
      let e = sum_set (λ x. bool_byte (has_id imsi ebi x)) l i (opened o (slice_index_or l i nobody)) nobody h in
      let f = free_id imsi ebi in
      let g = rw (opened_id o (slice_index_or l i nobody) imsi ebi) at e in
      let q = r.once imsi ebi in
      split (o.imsi == imsi && o.ebi == ebi)
      (λ t. let a = eqb-true o.imsi imsi (and_left (o.imsi == imsi) (o.ebi == ebi) t) in
      let b = eqb-true o.ebi ebi (and_right (o.imsi == imsi) (o.ebi == ebi) t) in
      let z : count_of (has_id imsi ebi) l ≡ 0 = rw (← a, ← b) none in
      let y = rw t at g in
      omega arith)
      (λ t. let y = rw t at g in omega arith)

  pub rules-opened : opening_ok (bounds_of p) o ≡ true → count_of (has_id o.imsi o.ebi) l ≡ 0 → admits p (live l) o.point ≡ true → Rules p echo next (changed_at (opened o) i l)
  unfolding changed_at
  rules-opened ok none adm = record {
    planned = r.planned;
    size = length-set l i (opened o (slice_index_or l i nobody)) ∙ r.size;
    each = every_set (record_ok (bounds_of p)) l i (opened o (slice_index_or l i nobody)) r.each (ok_opened (bounds_of p) (slice_index_or l i nobody) (record_ok_lem p echo next l r i) o ok);
    once = alone none;
    within = admitted-keeps (parties p) (guarantee_at p) (ceiling_at p) (live l) o.point (admits-known p (live l) o.point adm) r.within adm
        (live (changed_at (opened o) i l)) (λ a q. let e = opened-live a in omega arith);
    echoes = r.echoes;
    counted = r.counted;
    waits = λ k.
        let a = r.waits k in
        let w = opened_waits o (slice_index_or l i nobody) k in
        let m = sum_set_most (λ x. bool_byte (waits_for k x)) l i (opened o (slice_index_or l i nobody)) nobody (rw w (omega arith)) in
        omega arith;
  }
