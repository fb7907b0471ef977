use Rattle.std.proofs.Common.{arith, refl, ◌<◌, ◌+◌}
use Rattle.unit_tunnel.specs.Numbering.{places}
use Rattle.bench_unit.specs.State.{ran_of, on, lent_on}
use Rattle.bench_run.specs.Run.{all_sent, sent_none, sent_stop, sent_on, sent_end}
use Rattle.bench_run.proofs.send_all.Goals as goal

pub loop-init : goal.loop-init
loop-init c = let r = c.args.run.now in record { sent = sent_none r.bench r.recs.now r.store.now r.out.now; lent = (refl, refl, refl, refl, refl, refl) }

pub returns-then-not-send_one-clause-sent : goal.returns-then-not-send_one-clause-sent
unfolding places
returns-then-not-send_one-clause-sent c =
    let h : c.loop.counter < places + 1 = omega arith in
    sent_stop (on all_sent c.args.run.now) (ran_of c.loop.run) (ran_of c.send_one.new.run) c.loop.counter c.send_one.result h c.loop.invariant.sent
    c.send_one.ensures.due c.send_one.ensures.sent c.if-not-send_one.true

pub returns-then-not-send_one-clause-lent : goal.returns-then-not-send_one-clause-lent
returns-then-not-send_one-clause-lent c = lent_on c.args.run.now c.loop.run c.send_one.new.run c.loop.invariant.lent c.send_one.ensures.lent

pub loop-preserved : goal.loop-preserved
unfolding places
loop-preserved c = record {
  sent = let h : c.loop.counter < places + 1 = omega arith in
      sent_on (on all_sent c.args.run.now) (ran_of c.loop.run) (ran_of c.send_one.new.run) c.loop.counter c.send_one.result h c.loop.invariant.sent
      c.send_one.ensures.due c.send_one.ensures.sent c.if-not-send_one.false;
  lent = lent_on c.args.run.now c.loop.run c.send_one.new.run c.loop.invariant.lent c.send_one.ensures.lent;
}

pub returns-clause-sent : goal.returns-clause-sent
unfolding places
returns-clause-sent c =
    sent_end (on all_sent c.args.run.now) (ran_of c.loop.run) c.loop.counter c.loop.invariant.sent (omega (arith, c.loop.auto.counter-end))
