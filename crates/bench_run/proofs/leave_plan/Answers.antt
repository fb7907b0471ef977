use Rattle.bench_run.specs.Taken.{left, leave_plan}
use Rattle.bench_run.proofs.leave_plan.Goals as goal

pub returns-then-is_over-clause-left : goal.returns-then-is_over-clause-left
unfolding leave_plan left
returns-then-is_over-clause-left c = rw (← c.take_plan.ensures.taken, ← c.is_over.ensures, c.if-is_over.true)

pub returns-clause-left : goal.returns-clause-left
unfolding leave_plan left
returns-clause-left c = rw (← c.take_plan.ensures.taken, ← c.is_over.ensures, c.if-is_over.false) c.run_line.ensures.run
