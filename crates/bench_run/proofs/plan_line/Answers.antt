use Rattle.bench_run.specs.Taken.{is_point, point_line, plan_line}
use Rattle.bench_run.proofs.Left.{no_point}
use Rattle.bench_run.proofs.plan_line.Goals as goal

pub returns-in-Point-clause-taken : goal.returns-in-Point-clause-taken
unfolding plan_line is_point point_line
returns-in-Point-clause-taken c = rw (c.in-Point.is, ← c.front.ensures) c.one_more.ensures.point

pub returns-in-BadPoint-clause-taken : goal.returns-in-BadPoint-clause-taken
unfolding plan_line is_point point_line
returns-in-BadPoint-clause-taken c = rw c.in-BadPoint.is c.end_bad.ensures.bad

pub returns-in_default-clause-taken : goal.returns-in_default-clause-taken
unfolding plan_line
returns-in_default-clause-taken c = rw (no_point c.args.line c.in_default.not-Point c.in_default.not-BadPoint) c.leave_plan.ensures.left
