-- The laws of what specs/Basis.antt says.
-- Assumes nothing.
use Rattle.std.specs.Prelude.{ℕ, ◌+◌, ◌*◌, ◌%◌, ◌≤◌, Bool, ◌&&◌, List, ◌≡◌, eqb, ltb}
use Rattle.std.proofs.Math.Bool.{true, false}
use Rattle.std.proofs.Math.Path.{refl, ap}
use Rattle.std.proofs.Common.{sym, ◌∙◌, arith, ne_eqb}
use Rattle.base_octets.specs.Choice.{split}
use Rattle.base_octets.specs.Search.{first_of}
use Rattle.unit_plan.specs.Limits.{parties}
use Rattle.unit_session.specs.declared.Session.{Session}
use Rattle.unit_session.specs.Session.{is_free, has_id}
use Rattle.unit_table.specs.declared.Node.{Node}
use Rattle.unit_table.specs.Rules.{keeps_rules, rules_of, bounds_of}
use Rattle.unit_table.specs.Find.{control_place}
use Rattle.step_keys.specs.Survey.{id_key, imsi_part}
use Rattle.wire_requests.specs.declared.Create as C
use Rattle.wire_requests.specs.Create.{CreateSound}
use Rattle.call_own.specs.Outcome.{least_reply}
use Rattle.call_control.specs.Control.{restarts_in}
use Rattle.step_check.specs.Summary.{stands_by}
use Rattle.step_check.specs.declared.Checked.{Checked}
use Rattle.unit_tunnel.specs.declared.ControlTeid.{ControlTeid}
use Rattle.call_asked.specs.declared.Concern.{Concern}
use Rattle.call_asked.specs.declared.Asked.{Asked}
use Rattle.call_asked.specs.declared.Asked.TheVariants as A
use Rattle.call_asked.specs.Sound.{AskedSound}
use Rattle.step_control.specs.declared.Basis.{Basis}
use Rattle.step_control.specs.Step.{restarts_now, key_of, old_of, basis_by, basis_of}
use Rattle.step_control.specs.Places.{key_place_lem, free_place_lem}
use Rattle.step_whole.specs.Basis.{Known, Cleared, Sees, CheckTold}

module _ (kept : Bool) (counts old free : ℕ) (restart : Bool) where
  basis_kept : (basis_by kept counts old free restart).kept ≡ kept
  unfolding basis_by
  basis_kept = by kept restart refl
    where
      by : (a b : Bool) → kept ≡ a → (basis_by a counts old free b).kept ≡ a
      by true true e = refl
      by true false e = refl
      by false true e = refl
      by false false e = refl

  basis_all : (basis_by kept counts old free restart).all ≡ (kept && restart)
  unfolding basis_by
  basis_all = split (kept && restart) (λ e. rw e) (λ e. rw e)

  basis_cleared : (kept && restart) ≡ true → Cleared (basis_by kept counts old free restart)
  unfolding basis_by
  basis_cleared e = record { old = rw e; free = rw e; counts = rw e }

  basis_still : (kept && restart) ≡ false → basis_by kept counts old free restart ≡ record { kept = kept; all = false; counts = counts; old = old; free = free }
  unfolding basis_by
  basis_still e = rw e

-- a sound Create's key is not 0
not-zero : (c : C.Create) → 5 ≤ c.ebi → eqb (id_key c.imsi c.ebi) 0 ≡ false
not-zero c h = ne_eqb (c.imsi % imsi_part * 256 + c.ebi) 0 (λ q. omega arith)

module _ (node : Node) (l : List Session) (k : keeps_rules node l ≡ true) (c : C.Create) (seq : ℕ) (s : CreateSound (parties node.plan) c)
    (v : Checked) (told : CheckTold node (key_of (A.Create c seq)) l v) where
  asked : eqb (key_of (A.Create c seq)) 0 ≡ false
  unfolding key_of
  asked = not-zero c s.low

  old_open : old_of v.findings (A.Create c seq) ≡ first_of (has_id c.imsi c.ebi) l
  unfolding old_of key_of
  old_open =
      rw asked
      (told.old k asked ∙ key_place_lem (bounds_of node.plan) l (rules_of node l k).each c.imsi c.ebi s.imsi s.low s.high)

  free_open : v.findings.free ≡ first_of is_free l
  free_open = told.free k asked ∙ free_place_lem (bounds_of node.plan) l (rules_of node l k).each

off : (b : Bool) → (b && false) ≡ false
off true = refl
off false = refl

-- ---- what was seen says what is gone by
module _ (node : Node) (l : List Session) (v : Checked) (w : Asked) (room : ℕ) (told : CheckTold node (key_of w) l v) (sound : AskedSound node.plan w) where
  abbrev kept : Bool
  kept = stands_by v.how

  abbrev old : ℕ
  old = old_of v.findings w

  abbrev free : ℕ
  free = v.findings.free

  abbrev counts : ℕ
  counts = v.findings.summary.counts

  abbrev g : Basis
  g = basis_by kept counts old free (restarts_now room w node)

  all_is : g.all ≡ (kept && restarts_now room w node)
  all_is = basis_all kept counts old free (restarts_now room w node)

  basis_is : (kept && restarts_now room w node) ≡ false → g ≡ record { kept = kept; all = false; counts = counts; old = old; free = free }
  basis_is e = basis_still kept counts old free (restarts_now room w node) e

  no_restart : (teid : ControlTeid) (seq : ℕ) (x : Concern) → w ≡ A.Session teid seq x → (kept && restarts_now room w node) ≡ false
  unfolding restarts_now restarts_in
  no_restart teid seq x e = rw e (split (ltb room least_reply) (λ b. rw b (off kept)) (λ b. rw b (off kept)))

  named_is : (teid : ControlTeid) (seq : ℕ) (x : Concern) → w ≡ A.Session teid seq x → g.old ≡ control_place teid.0
  unfolding old_of
  named_is teid seq x e = ap (λ (y : Basis). y.old) (basis_is (no_restart teid seq x e)) ∙ rw e

  sound_open : (c : C.Create) (seq : ℕ) → w ≡ A.Create c seq → CreateSound (parties node.plan) c
  unfolding AskedSound
  sound_open c seq e = rw e at sound

  known_is : (c : C.Create) (seq : ℕ) → w ≡ A.Create c seq → keeps_rules node l ≡ true → g.all ≡ false → Known l c g
  known_is c seq e k a =
      let i = basis_is (sym all_is ∙ a) in
      let s = sound_open c seq e in
      record {
        old = ap (λ (x : Basis). x.old) i ∙ rw e (old_open node l k c seq s v (rw e at told));
        free = ap (λ (x : Basis). x.free) i ∙ free_open node l k c seq s v (rw e at told);
        counts = ap (λ (x : Basis). x.counts) i ∙ told.counts k;
      }

  sees_by : Sees node l w room g
  sees_by = record {
    kept = basis_kept kept counts old free (restarts_now room w node) ∙ told.how;
    all = all_is ∙ ap (λ (b : Bool). b && restarts_now room w node) told.how;
    cleared = λ a. basis_cleared kept counts old free (restarts_now room w node) (sym all_is ∙ a);
    named = named_is;
    known = known_is;
  }

pub basis_sees : (node : Node) (l : List Session) (v : Checked) (w : Asked) (room : ℕ) → AskedSound node.plan w → CheckTold node (key_of w) l v
    → Sees node l w room (basis_of v node w room)
unfolding basis_of
basis_sees node l v w room sound told = sees_by node l v w room told sound
