use Rattle.bench_unit.specs.State.{unit_shown}
use Rattle.bench_run.specs.Run.{answer_sent, tick_run}
use Rattle.bench_run.proofs.run_tick.Goals as goal

pub returns-clause-run : goal.returns-clause-run
unfolding tick_run answer_sent unit_shown
returns-clause-run c = rw (← c.grugavorn_tick-a.ensures) c.send_answer.ensures.sent
