use Rattle.call_own.specs.Outcome.{least_reply}
use Rattle.bench_unit.specs.State.{lent_reply, unit_shown}
use Rattle.bench_run.specs.Run.{control_run}
use Rattle.bench_run.proofs.run_control.Goals as goal

pub returns-clause-run : goal.returns-clause-run
unfolding control_run unit_shown lent_reply least_reply
returns-clause-run c = rw (← c.grugavorn_control-a.ensures) c.show_answered.ensures.answered
