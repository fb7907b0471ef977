use Rattle.std.proofs.Common.{ap, ◌∙◌}
use Rattle.bench_run.specs.Run.{answer_sent, then_sent}
use Rattle.bench_run.proofs.send_answer.Goals as goal

pub returns-clause-sent : goal.returns-clause-sent
unfolding answer_sent then_sent
returns-clause-sent c = c.send_all.ensures.sent ∙ ap then_sent c.show_answered.ensures.answered
