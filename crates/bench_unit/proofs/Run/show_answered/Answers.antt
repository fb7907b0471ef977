use Rattle.std.proofs.Common.{ap}
use Rattle.bench_unit.specs.State.{beside, answered_shown, kept_in, printed_by}
use Rattle.bench_unit.proofs.Run.show_answered.Goals as goal

pub returns-clause-answered : goal.returns-clause-answered
unfolding answered_shown kept_in
returns-clause-answered c = let r = c.args.self.now in
    rw (← c.front.ensures) (ap (beside r.recs.now r.store.now) (printed_by _ (λ made. kept_in c.args.a.node made r.bench) _ _ _ _ c.put_answer-self.ensures))
