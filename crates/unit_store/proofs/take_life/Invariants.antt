-- After as many turns as the index says the first rows are changed.
use Rattle.std.proofs.Common.{◌≡◌}
use Rattle.base_octets.specs.Places.{map_first}
use Rattle.unit_store.specs.Row.{life_taken}
use Rattle.unit_store.proofs.take_life.Given as goal

abbrev pub invariant-loop-r : goal.invariant-loop-r
invariant-loop-r l = l.r-items ≡ map_first (life_taken l.all) l.r-index l.initial.r-items
