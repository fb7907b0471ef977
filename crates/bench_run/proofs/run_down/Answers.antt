use Rattle.std.proofs.Common.{eq-eqb, ne_eqb}
use Rattle.bench_text.specs.Lines.{datagram_most}
use Rattle.bench_run.specs.Run.{third_text, third_shown, down_text, down_shown, gpdu_most, lent_output, down_run}
use Rattle.bench_run.proofs.run_down.Goals as goal

pub returns-then-w-eq-TAKEN-clause-run : goal.returns-then-w-eq-TAKEN-clause-run
unfolding third_shown third_text down_run down_shown down_text lent_output gpdu_most datagram_most
returns-then-w-eq-TAKEN-clause-run c =
    rw (← c.grugavorn_down-w.ensures, eq-eqb _ _ c.if-w-eq-TAKEN.true, ← c.front-part.ensures, ← c.octets32.ensures) c.show_third.ensures.shown

pub returns-clause-run : goal.returns-clause-run
unfolding third_shown third_text down_run down_shown down_text lent_output gpdu_most datagram_most
returns-clause-run c =
    rw (← c.grugavorn_down-w.ensures, ne_eqb _ _ c.if-w-eq-TAKEN.false, ← c.front-part.ensures) c.show_third-2.ensures.shown
