use Rattle.std.proofs.Common.{◌∙◌}
use Rattle.bench_run.specs.Taken.{run_line}
use Rattle.bench_run.proofs.Left.{no_run}
use Rattle.bench_run.proofs.run_line.Goals as goal

pub returns-in-Control-clause-run : goal.returns-in-Control-clause-run
unfolding run_line
returns-in-Control-clause-run c = rw (c.in-Control.is, ← c.front.ensures) c.run_control.ensures.run

pub returns-in-User-clause-run : goal.returns-in-User-clause-run
unfolding run_line
returns-in-User-clause-run c = rw (c.in-User.is, ← c.front-in-User.ensures) c.run_user.ensures.run

pub returns-in-Down-clause-run : goal.returns-in-Down-clause-run
unfolding run_line
returns-in-Down-clause-run c = rw (c.in-Down.is, ← c.front-in-Down.ensures) c.run_down.ensures.run

pub returns-in-Tick-clause-run : goal.returns-in-Tick-clause-run
unfolding run_line
returns-in-Tick-clause-run c = rw c.in-Tick.is c.run_tick.ensures.run

pub returns-in-Close-clause-run : goal.returns-in-Close-clause-run
unfolding run_line
returns-in-Close-clause-run c = rw (c.in-Close.is, ← c.from.ensures) c.run_close.ensures.run

pub returns-in_default-clause-run : goal.returns-in_default-clause-run
returns-in_default-clause-run c = let r = c.args.run.now in
    c.end_bad.ensures.bad ∙ no_run c.args.line c.args.octets.now r.bench r.recs.now r.store.now r.out.now
    c.in_default.not-Control c.in_default.not-User c.in_default.not-Down c.in_default.not-Tick c.in_default.not-Close
