-- The basis of the control call, as facts of a table that keeps its rules. What the check finds of the records says these facts.
-- Assumes nothing.
use Rattle.std.specs.Prelude.{ℕ, ◌&&◌, List, map, ◌≡◌, eqb}
use Rattle.std.proofs.Math.Bool.{true, false}
use Rattle.base_octets.specs.Sums.{sum_of}
use Rattle.base_octets.specs.Search.{first_of}
use Rattle.unit_tunnel.specs.Numbering.{places}
use Rattle.unit_session.specs.declared.Session.{Session}
use Rattle.unit_session.specs.Session.{is_free, has_id}
use Rattle.unit_table.specs.declared.Node.{Node}
use Rattle.unit_table.specs.Rules.{keeps_rules, bounds_of}
use Rattle.unit_table.specs.Find.{control_place}
use Rattle.step_keys.specs.Survey.{weight_of}
use Rattle.wire_requests.specs.declared.Create as C
use Rattle.step_check.specs.Digest.{digest_of}
use Rattle.step_check.specs.Summary.{stands_by}
use Rattle.step_check.specs.Findings.{key_place, free_in}
use Rattle.step_check.specs.declared.Checked.{Checked}
use Rattle.unit_tunnel.specs.declared.ControlTeid.{ControlTeid}
use Rattle.call_asked.specs.declared.Concern.{Concern}
use Rattle.call_asked.specs.declared.Asked.{Asked}
use Rattle.call_asked.specs.declared.Asked.TheVariants as A
use Rattle.step_control.specs.declared.Basis.{Basis}
use Rattle.step_control.specs.Step.{restarts_now}

-- where a sound Create is asked for: the place of the session with its IMSI and EBI, the first free place, and the counts
pub record Known (l : List Session) (c : C.Create) (g : Basis) : Type 0 where
  pub old : g.old ≡ first_of (has_id c.imsi c.ebi) l
  pub free : g.free ≡ first_of is_free l
  pub counts : g.counts ≡ sum_of weight_of l

-- where all records are freed first
pub record Cleared (g : Basis) : Type 0 where
  pub old : g.old ≡ places
  pub free : g.free ≡ 0
  pub counts : g.counts ≡ 0

-- what is gone by for what is asked
pub record Sees (node : Node) (l : List Session) (w : Asked) (room : ℕ) (g : Basis) : Type 0 where
  pub kept : g.kept ≡ keeps_rules node l
  pub all : g.all ≡ (keeps_rules node l && restarts_now room w node)
  pub cleared : g.all ≡ true → Cleared g
  pub named : (teid : ControlTeid) (seq : ℕ) (x : Concern) → w ≡ A.Session teid seq x → g.old ≡ control_place teid.0
  pub known : (c : C.Create) (seq : ℕ) → w ≡ A.Create c seq → keeps_rules node l ≡ true → g.all ≡ false → Known l c g

-- ---- what was seen of the records: whether they keep the rules, and then their packed counts, and the places by their digests
pub record CheckTold (node : Node) (key : ℕ) (l : List Session) (v : Checked) : Type 0 where
  pub how : stands_by v.how ≡ keeps_rules node l
  pub counts : keeps_rules node l ≡ true → v.findings.summary.counts ≡ sum_of weight_of l
  pub old : keeps_rules node l ≡ true → eqb key 0 ≡ false → v.findings.old ≡ key_place (map (digest_of (bounds_of node.plan)) l) key
  pub free : keeps_rules node l ≡ true → eqb key 0 ≡ false → v.findings.free ≡ free_in (map (digest_of (bounds_of node.plan)) l)
