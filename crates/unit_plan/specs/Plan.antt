-- An accepted plan (number 16 otherwise), and what being accepted tells.
-- Assumes nothing.
use Rattle.std.specs.Prelude.{ℕ, ◌<◌, ◌≤◌, ◌%◌, Bool, true, false, ◌&&◌, ◌≡◌, refl, eqb}
use Rattle.std.proofs.Common.{arith, length-take}
use Rattle.std.proofs.Math.Dec.{leb}
use borrow.Author.Tests.{le-leb, lt-leb}
use Rattle.base_octets.specs.Choice.{split, and_left, and_right, and_no, tests}
use Rattle.base_octets.specs.Every.{every}
use Rattle.base_octets.specs.Sums.{sum_of}
use Rattle.unit_tunnel.specs.Numbering.{places}
use Rattle.unit_plan.specs.declared.Plan.{Plan}
use Rattle.unit_plan.specs.Limits.{used, parties, no_plan, most_points, most_sends, pool_step, figures_ok, point_ok}
use Rattle.unit_plan.specs.Names.{names_differ}

-- the guarantees, added
unfoldable pub guaranteed : Plan → ℕ
guaranteed p = sum_of (λ a. a.guarantee) (used p)

unfoldable pub accepted : Plan → Bool
accepted p = figures_ok p && every point_ok (used p) && leb (guaranteed p) places && names_differ (used p)

-- ---- what an accepted plan's figures are
pub record Figures (p : Plan) : Type 0 where
  pub some : 1 ≤ p.count
  pub most : p.count ≤ most_points
  pub resends : 1 ≤ p.resend
  pub first : 1 ≤ p.sends
  pub last : p.sends ≤ most_sends
  pub echoes : 1 ≤ p.interval
  pub whole : p.pool % pool_step ≡ 0

pub accepted_figures : (p : Plan) → accepted p ≡ true → Figures p
unfolding accepted figures_ok
accepted_figures p e =
    let a : leb 1 p.count ≡ true = search (and_left, and_right) depth 9 in
    let b : leb p.count most_points ≡ true = search (and_left, and_right) depth 9 in
    let t : leb 1 p.resend ≡ true = search (and_left, and_right) depth 9 in
    let n : leb 1 p.sends ≡ true = search (and_left, and_right) depth 9 in
    let m : leb p.sends most_sends ≡ true = search (and_left, and_right) depth 9 in
    let i : leb 1 p.interval ≡ true = search (and_left, and_right) depth 9 in
    let w : eqb (p.pool % pool_step) 0 ≡ true = search (and_left, and_right) depth 9 in
    record {
      some = omega (arith, tests);
      most = omega (arith, tests);
      resends = omega (arith, tests);
      first = omega (arith, tests);
      last = omega (arith, tests);
      echoes = omega (arith, tests);
      whole = omega (arith, tests);
    }

-- at most four access points take part
pub parties_four : (p : Plan) → accepted p ≡ true → parties p ≤ 4
unfolding used most_points
parties_four p e = let f = (accepted_figures p e).most in simp length-take (omega arith)

-- ---- the test made limit by limit: one that is broken refuses the plan, and where the others are kept the figures decide
module _ (p : Plan) where
  pub count_refused : most_points < p.count → accepted p ≡ false
  unfolding accepted figures_ok
  count_refused h = rw (lt-leb p.count most_points h, and_no (leb 1 p.count))

  pub points_refused : every point_ok (used p) ≡ false → accepted p ≡ false
  unfolding accepted
  points_refused e = rw (e, and_no (figures_ok p))

  pub sum_refused : places < guaranteed p → accepted p ≡ false
  unfolding accepted
  sum_refused h = rw (lt-leb (guaranteed p) places h, and_no (figures_ok p && every point_ok (used p)))

  pub names_refused : names_differ (used p) ≡ false → accepted p ≡ false
  unfolding accepted
  names_refused e = rw (e, and_no (figures_ok p && every point_ok (used p) && leb (guaranteed p) places))

  pub figures_decide : every point_ok (used p) ≡ true → guaranteed p ≤ places → names_differ (used p) ≡ true → figures_ok p ≡ accepted p
  unfolding accepted
  figures_decide e h n = rw (e, le-leb (guaranteed p) places h, n) (split (figures_ok p) (λ f. rw f) (λ f. rw f))

-- a plan without access points is refused, so a unit that was given no plan answers 2
pub no_plan_refused : accepted no_plan ≡ false
unfolding accepted figures_ok no_plan
no_plan_refused = refl
