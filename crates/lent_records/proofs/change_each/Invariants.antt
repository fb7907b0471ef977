-- After as many turns as the index says the first records are changed.
use Rattle.std.proofs.Common.{◌≡◌}
use Rattle.base_octets.specs.Places.{map_first}
use Rattle.unit_table.specs.Become.{changed_by}
use Rattle.lent_records.proofs.change_each.Given as goal

abbrev pub invariant-loop-s : goal.invariant-loop-s
invariant-loop-s l = l.s-items ≡ map_first (changed_by l.c) l.s-index l.initial.s-items
