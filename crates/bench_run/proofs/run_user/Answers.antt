use Rattle.std.proofs.Common.{length, eq-eqb, ne_eqb}
use Rattle.call_own.specs.Outcome.{least_reply}
use Rattle.bench_run.specs.Run.{third_text, third_shown, user_text, handed_run}
use Rattle.bench_run.proofs.run_user.Goals as goal
use Rattle.bench_run.proofs.run_user.Goals.{else-h-eq-TAKEN-via-then-h-eq-TAKEN+else-h-eq0, else-h-eq-TAKEN-via-else-h-eq-TAKEN}

pub returns-then-h-eq0-clause-run : goal.returns-then-h-eq0-clause-run
unfolding third_shown third_text user_text least_reply
returns-then-h-eq0-clause-run c = let r = c.args.run.now in
    let e = handed_run c.grugavorn_user-h.result (length c.args.d.now) c.grugavorn_user-h.new.reply c.args.d.now r.bench r.recs.now r.store.now r.out.now c.grugavorn_user-h.ensures in
    rw (← e, eq-eqb _ _ c.if-h-eq-TAKEN.true, eq-eqb _ _ c.if-h-eq0.true, ← c.front-part.ensures, ← c.behind.ensures) c.show_third.ensures.shown

pub returns-clause-run : goal.returns-clause-run
unfolding third_shown third_text user_text least_reply
returns-clause-run c = let r = c.args.run.now in
    let e = handed_run c.grugavorn_user-h.result (length c.args.d.now) c.grugavorn_user-h.new.reply c.args.d.now r.bench r.recs.now r.store.now r.out.now c.grugavorn_user-h.ensures in
    elim c.else-h-eq-TAKEN.branch [
      | else-h-eq-TAKEN-via-then-h-eq-TAKEN+else-h-eq0 w ↦ rw (← e, eq-eqb _ _ w.if-h-eq-TAKEN.true, ne_eqb _ _ w.if-h-eq0.false, ← c.front-part.ensures) c.show_third-2.ensures.shown
      | else-h-eq-TAKEN-via-else-h-eq-TAKEN w ↦ rw (← e, ne_eqb _ _ w.if-h-eq-TAKEN.false, ← c.front-part.ensures) c.show_third-2.ensures.shown
    ]
