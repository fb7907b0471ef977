use Rattle.std.proofs.Common.{eq-eqb, ne_eqb}
use Rattle.bench_unit.specs.State.{phased, kept_in}
use Rattle.bench_unit.specs.Plans.{plan_taken, plan_shown}
use Rattle.bench_unit.proofs.Run.take_plan.Goals as goal

pub returns-then-a-ne-TAKEN-clause-taken : goal.returns-then-a-ne-TAKEN-clause-taken
unfolding plan_taken plan_shown phased
returns-then-a-ne-TAKEN-clause-taken c = rw (← c.grugavorn_fresh-a.ensures, ne_eqb _ _ c.if-a-ne-TAKEN.true) c.show_answered.ensures.answered

pub returns-clause-taken : goal.returns-clause-taken
unfolding plan_taken plan_shown phased kept_in
returns-clause-taken c = rw (← c.grugavorn_fresh-a.ensures, eq-eqb _ _ c.if-a-ne-TAKEN.false)
