use Rattle.std.proofs.Common.{◌≡◌, ◌-◌, ◌≤◌, map, length, take, drop}
use Rattle.unit_store.specs.Row.{life_in, kept_ok, mark_in}
use Rattle.base_octets.specs.Every.{every}
use Rattle.base_octets.specs.Sums.{sum_of}
use Rattle.unit_store.proofs.apart.Given as goal

abbrev pub invariant-loop-left : goal.invariant-loop-left
invariant-loop-left l = (l.i ≤ 32) × ((length l.marks ≡ 32) × ((every kept_ok l.rows ≡ every kept_ok (drop l.i l.rows)) × ((take l.i l.marks ≡ map mark_in (take l.i l.rows)) × (l.left ≡ sum_of life_in (drop l.i l.rows)))))

abbrev pub decreases-loop-left : goal.decreases-loop-left
decreases-loop-left l = 32 - l.i
