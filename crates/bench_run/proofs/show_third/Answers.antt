use Rattle.std.proofs.Common.{ap}
use Rattle.bench_unit.specs.State.{beside, with_made, printed_by}
use Rattle.bench_run.specs.Run.{third_text, third_shown}
use Rattle.bench_run.proofs.show_third.Goals as goal

pub returns-in-Some-clause-shown : goal.returns-in-Some-clause-shown
unfolding third_shown third_text with_made
returns-in-Some-clause-shown c = let r = c.args.run.now in
    rw c.in-Some.is (ap (beside r.recs.now r.store.now) (printed_by _ (λ made. with_made made r.bench) _ _ _ _ c.put_packet-run.ensures))

pub returns-in-None-clause-shown : goal.returns-in-None-clause-shown
unfolding third_shown third_text with_made
returns-in-None-clause-shown c = let r = c.args.run.now in
    rw c.in-None.is (ap (beside r.recs.now r.store.now) (printed_by _ (λ made. with_made made r.bench) _ _ _ _ c.put_answer-run.ensures))
