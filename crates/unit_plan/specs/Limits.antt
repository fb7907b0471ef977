-- The limits of a plan, each figure of document 01 in one place, and the access points that a plan has.
-- Assumes nothing.
use Rattle.std.specs.Prelude.{ℕ, ◌<◌, ◌≤◌, min, ◌%◌, Bool, ◌&&◌, List, map, ◌≡◌, length, take, get_or, replicate, eqb, leb}
use Rattle.std.proofs.Common.{sym, ◌∙◌, take_all, arith}
use Rattle.std.proofs.Math.ListN.{length-take}
use Rattle.std.proofs.Math.Seq.{get_or-take}
use Rattle.base_octets.specs.Choice.{split, tests}
use Rattle.base_octets.specs.Places.{map_at}
use Rattle.unit_tunnel.specs.Numbering.{places}
use Rattle.unit_plan.specs.declared.AccessPoint.{AccessPoint}
use Rattle.unit_plan.specs.declared.Plan.{Plan}

unfoldable pub most_points : ℕ
most_points = 4

unfoldable pub longest_name : ℕ
longest_name = 63

unfoldable pub most_sends : ℕ
most_sends = 10

-- a pool base is a multiple of it
unfoldable pub pool_step : ℕ
pool_step = 256

-- what a unit without an accepted plan has
unfoldable pub no_point : AccessPoint
no_point = record { name = replicate longest_name 0; size = 0; guarantee = 0; ceiling = 0 }

unfoldable pub no_plan : Plan
no_plan = record {
  control = 0;
  user = 0;
  pool = 0;
  recovery = 0;
  resend = 0;
  sends = 0;
  interval = 0;
  count = 0;
  points = replicate 4 no_point;
}

-- the access points of a plan: it has slots for four, and a slot past its count is not looked at
unfoldable pub used : Plan → List AccessPoint
used p = take p.count p.points

abbrev pub parties : Plan → ℕ
parties p = length (used p)

-- 1 to 4 access points, T 1 to 255, N 1 to 10, E 1 to 255 (T and E are octets: none is over 255), pool base a multiple of `pool_step`
unfoldable pub figures_ok : Plan → Bool
figures_ok p =
    leb 1 p.count && leb p.count most_points
    && leb 1 p.resend
    && leb 1 p.sends && leb p.sends most_sends
    && leb 1 p.interval
    && eqb (p.pool % pool_step) 0

-- name 1 to `longest_name` octets; 0 ≤ g ≤ c ≤ places, c ≥ 1
unfoldable pub point_ok : AccessPoint → Bool
point_ok a =
    leb 1 a.size && leb a.size longest_name
    && leb a.guarantee a.ceiling && leb 1 a.ceiling && leb a.ceiling places

-- ---- laws
module _ (p : Plan) where
  pub parties_is : length p.points ≡ 4 → parties p ≡ min p.count 4
  unfolding used
  parties_is l = simp length-take (omega arith)

  -- the slots that the count leaves, whatever it is
  pub used_slots : (n : ℕ) → length p.points ≡ 4 → n ≡ min p.count 4 → take n p.points ≡ used p
  unfolding used
  used_slots n l e =
      split (leb p.count 4)
      (λ t. let k : n ≡ p.count = omega (arith, tests) in rw k)
      (λ t. let k : n ≡ 4 = omega (arith, tests) in rw k (take_all 4 p.points (omega arith) ∙ sym (take_all p.count p.points (omega (arith, tests)))))

  pub parties_most : length p.points ≡ 4 → parties p ≤ 4
  parties_most l = let e = parties_is l in omega arith

  pub used-at : (i : ℕ) (d : AccessPoint) → i < parties p → get_or (used p) i d ≡ get_or p.points i d
  unfolding used
  used-at i d h = let k = rw (length-take p.count p.points) at h in get_or-take p.count p.points i d (omega arith)

  -- one figure of each
  pub used_figure : (i : ℕ) (d : AccessPoint) → i < parties p → (f : AccessPoint → ℕ) → get_or (map f (used p)) i 0 ≡ f (get_or p.points i d)
  used_figure i d h f = map_at f (used p) i d 0 h ∙ rw (used-at i d h)
