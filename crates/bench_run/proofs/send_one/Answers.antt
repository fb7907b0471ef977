use Rattle.std.proofs.Common.{ap, eq-eqb, ne_eqb}
use Rattle.call_own.specs.Outcome.{least_reply}
use Rattle.bench_unit.specs.State.{beside, lent_reply, kept_in, printed_by}
use Rattle.bench_run.specs.Run.{send_try, has_due, sent_shown, one_sent}
use Rattle.bench_run.proofs.send_one.Goals as goal

pub returns-then-a-ne-TAKEN-clause-due : goal.returns-then-a-ne-TAKEN-clause-due
unfolding has_due send_try lent_reply least_reply
returns-then-a-ne-TAKEN-clause-due c = rw (← c.grugavorn_send-a.ensures, ne_eqb _ _ c.if-a-ne-TAKEN.true)

pub returns-then-a-ne-TAKEN-clause-sent : goal.returns-then-a-ne-TAKEN-clause-sent
unfolding one_sent sent_shown send_try lent_reply least_reply
returns-then-a-ne-TAKEN-clause-sent c = rw (← c.grugavorn_send-a.ensures, ne_eqb _ _ c.if-a-ne-TAKEN.true)

pub returns-clause-due : goal.returns-clause-due
unfolding has_due send_try lent_reply least_reply
returns-clause-due c = rw (← c.grugavorn_send-a.ensures, eq-eqb _ _ c.if-a-ne-TAKEN.false)

pub returns-clause-sent : goal.returns-clause-sent
unfolding one_sent sent_shown send_try lent_reply least_reply kept_in
returns-clause-sent c = let r = c.args.run.now in
    rw (← c.grugavorn_send-a.ensures, eq-eqb _ _ c.if-a-ne-TAKEN.false, ← c.front.ensures)
    (ap (beside c.grugavorn_send-a.new.recs r.store.now) (printed_by _ (λ made. kept_in c.grugavorn_send-a.result.node made r.bench) _ _ _ _ c.put_due-run.ensures))
