use Rattle.std.proofs.Common.{ap}
use Rattle.bench_unit.specs.State.{beside, end_bad, bad_at, printed_by}
use Rattle.bench_unit.proofs.Run.end_bad.Goals as goal

pub returns-clause-bad : goal.returns-clause-bad
unfolding end_bad bad_at
returns-clause-bad c = let r = c.args.self.now in
    ap (beside r.recs.now r.store.now) (printed_by _ (bad_at r.bench) _ _ _ _ c.put_bad-self.ensures)
