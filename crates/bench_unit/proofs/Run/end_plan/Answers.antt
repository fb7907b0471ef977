use Rattle.bench_unit.specs.Ended.{end_plan, end_taken}
use Rattle.bench_unit.proofs.Run.end_plan.Goals as goal

pub returns-then-is_over-clause-taken : goal.returns-then-is_over-clause-taken
unfolding end_plan end_taken
returns-then-is_over-clause-taken c = rw (← c.take_plan.ensures.taken, ← c.is_over.ensures, c.if-is_over.true)

pub returns-clause-taken : goal.returns-clause-taken
unfolding end_plan end_taken
returns-clause-taken c = rw (← c.take_plan.ensures.taken, ← c.is_over.ensures, c.if-is_over.false) c.print_places.ensures.printed
