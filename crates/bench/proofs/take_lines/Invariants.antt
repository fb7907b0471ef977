use Rattle.std.proofs.Common.{◌≡◌, length, ◌≤◌}
use Rattle.bench_unit.specs.State.{SameLent}
use Rattle.bench.proofs.take_lines.Given as goal

abbrev pub invariant-loop-end : goal.invariant-loop-end
invariant-loop-end g l = record {
  within : length l.rest ≤ length l.text;
  lent : SameLent l.fn.desk.run l.desk.run;
  many : l.desk.many ≡ l.fn.desk.many;
}

abbrev pub decreases-loop-end : goal.decreases-loop-end
decreases-loop-end g l = length l.rest
