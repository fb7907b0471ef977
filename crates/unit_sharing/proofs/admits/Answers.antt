use Prim.Native.Nat.{ℕ, ◌<◌}
use mathlib.Core.Path.{◌≡◌, sym}
use native.Mathlib.Omega.{arith}
use lib.ListN.{length, get_or}
use Rattle.unit_tunnel.specs.Numbering.{places}
use Rattle.unit_plan.specs.Limits.{parties, parties_most}
use Rattle.unit_sharing.specs.Sharing.{admits_out}
use Rattle.unit_sharing.proofs.Sharing.{admits-at}
use borrow.Author.Rules.{rules}
use Rattle.unit_plan.specs.declared.Plan.{Plan}
use Rattle.unit_sharing.proofs.admits.Goals as goal

-- the access point is one of the slots
in_slots : (p : Plan) (point : ℕ) → length p.points ≡ 4 → point < parties p → point < 4
in_slots p point l h = let m = parties_most p l in omega arith

pub returns-then-parties-point : goal.returns-then-parties-point
returns-then-parties-point c = let e = c.parties.ensures in sym (admits_out c.args.plan (λ a. get_or c.args.live a 0) c.args.point (omega arith))

pub offset_bounds-plan-point : goal.offset_bounds-plan-point
offset_bounds-plan-point c = let h = let e = c.parties.ensures in in_slots c.args.plan c.args.point c.well_formed.0.1.1.1.1.1.1.1.1.1.1.0.1.0.1 (omega arith) in search rules

pub bounds-plan-point : goal.bounds-plan-point
bounds-plan-point c = let e = c.parties.ensures in in_slots c.args.plan c.args.point c.well_formed.0.1.1.1.1.1.1.1.1.1.1.0.1.0.1 (omega arith)

pub offset_bounds-live-point : goal.offset_bounds-live-point
offset_bounds-live-point c = let h = let e = c.parties.ensures in in_slots c.args.plan c.args.point c.well_formed.0.1.1.1.1.1.1.1.1.1.1.0.1.0.1 (omega arith) in search rules

pub bounds-live-point : goal.bounds-live-point
bounds-live-point c = let e = c.parties.ensures in in_slots c.args.plan c.args.point c.well_formed.0.1.1.1.1.1.1.1.1.1.1.0.1.0.1 (omega arith)

pub returns : goal.returns
unfolding places
returns c = let e = c.parties.ensures in
    rw c.share_of-s.ensures (admits-at c.args.plan (λ a. get_or c.args.live a 0) c.args.point _ (omega arith))
