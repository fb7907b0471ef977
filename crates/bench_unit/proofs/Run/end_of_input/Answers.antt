use Rattle.std.proofs.Common.{◌∙◌}
use Rattle.bench_unit.specs.declared.Phase.TheVariants as P
use Rattle.bench_unit.specs.Ended.{end_by, end_first, ended}
use Rattle.bench_unit.proofs.Run.end_of_input.Goals as goal

pub returns-in-First-clause-ended : goal.returns-in-First-clause-ended
unfolding end_by end_first
returns-in-First-clause-ended c = let r = c.args.self.now in
    rw c.with_line-self.ensures at c.end_bad.ensures.bad ∙ ended P.First r.bench r.recs.now r.store.now r.out.now c.in-First.is

pub returns-in-Plan-clause-ended : goal.returns-in-Plan-clause-ended
unfolding end_by
returns-in-Plan-clause-ended c = let r = c.args.self.now in
    c.end_plan.ensures.taken ∙ ended P.Plan r.bench r.recs.now r.store.now r.out.now c.in-Plan.is

pub returns-in-Runs-clause-ended : goal.returns-in-Runs-clause-ended
unfolding end_by
returns-in-Runs-clause-ended c = let r = c.args.self.now in
    c.print_places.ensures.printed ∙ ended P.Runs r.bench r.recs.now r.store.now r.out.now c.in-Runs.is

pub returns-in-Over-clause-ended : goal.returns-in-Over-clause-ended
unfolding end_by
returns-in-Over-clause-ended c = let r = c.args.self.now in ended P.Over r.bench r.recs.now r.store.now r.out.now c.in-Over.is
