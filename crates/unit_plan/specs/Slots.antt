-- What the limits of access points say of the plan's slots, and of names of two sizes.
-- Assumes nothing.
use Rattle.std.specs.Prelude.{ℕ, ◌<◌, true, ◌≡◌, length, take, get_or, leb}
use Rattle.std.proofs.Common.{arith, length-take}
use Rattle.base_octets.specs.Choice.{and_left, and_right, tests}
use Rattle.base_octets.specs.Every.{every, every_in}
use Rattle.base_octets.specs.Same.{same_unlike}
use Rattle.unit_plan.specs.declared.AccessPoint.{AccessPoint}
use Rattle.unit_plan.specs.declared.Plan.{Plan}
use Rattle.unit_plan.specs.Limits.{used, parties, point_ok, longest_name, used-at}
use Rattle.unit_plan.specs.Names.{name_of, same_name, goes_by, unlike}

-- names of two sizes differ; a size past the longest name's would not say how many octets there are
pub sizes_unlike : (a b : AccessPoint) → length a.name ≡ longest_name → length b.name ≡ longest_name → point_ok a ≡ true → point_ok b ≡ true
    → (a.size ≡ b.size → ⊥) → unlike a b ≡ true
unfolding unlike goes_by same_name name_of point_ok longest_name
sizes_unlike a b la lb oa ob h =
    let sa : leb a.size longest_name ≡ true = search (and_left, and_right) in
    let sb : leb b.size longest_name ≡ true = search (and_left, and_right) in
    let n : length (take a.size a.name) ≡ length (take b.size b.name) → ⊥
    = λ e. h (let k = simp length-take at e in omega (arith, tests)) in
    rw (same_unlike (take a.size a.name) (take b.size b.name) n)

module _ (p : Plan) (d : AccessPoint) where
  pub point-fits : (i : ℕ) → every point_ok (used p) ≡ true → i < parties p → point_ok (get_or p.points i d) ≡ true
  point-fits i e h = rw (← used-at p i d h) (every_in point_ok (used p) i d e h)
