use Rattle.std.proofs.Common.{◌≡◌}
use Rattle.bench_unit.specs.State.{SameLent}
use Rattle.bench.proofs.run.Given as goal

abbrev pub invariant-loop : goal.invariant-loop
invariant-loop g l = record { lent : SameLent l.fn.desk.run l.desk.run; many : l.desk.many ≡ l.fn.desk.many }
