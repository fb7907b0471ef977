use Rattle.std.proofs.Common.{arith, ◌<◌, ◌≤◌}
use borrow.Author.Tests.{le-leb, lt-leb, lt-ltb}
use Rattle.bench_unit.specs.Plans.{one_more, with_point, with_plan}
use Rattle.bench_unit.proofs.Run.one_more.Goals as goal

pub returns-then-n-ge-MOST_POINTS-clause-point : goal.returns-then-n-ge-MOST_POINTS-clause-point
unfolding one_more
returns-then-n-ge-MOST_POINTS-clause-point c =
    let h : 4 ≤ c.args.self.now.bench.node.plan.count = omega (arith, c.from-n.ensures) in rw (le-leb _ _ h) c.end_bad.ensures.bad

pub returns-clause-point : goal.returns-clause-point
unfolding one_more with_point with_plan
returns-clause-point c =
    let h : c.args.self.now.bench.node.plan.count < 4 = omega (arith, c.from-n.ensures) in
    rw (lt-leb _ _ h, lt-ltb _ _ h, c.from-n.ensures, c.point_from.ensures)
