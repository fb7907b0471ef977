use Rattle.std.proofs.Common.{map, replicate, get_or, rules, sym, arith}
use Rattle.std.specs.Fn.{FnReturnsAt}
use Rattle.unit_tunnel.specs.Numbering.{places}
use Rattle.unit_session.specs.OwnRequest.{idle}
use Rattle.unit_session.specs.Session.{blank_at}
use Rattle.lent_records.specs.Mixed.{mixed_none}
use Rattle.lent_check.specs.Read.{read_none, read_step, read_end}
use Rattle.lent_check.proofs.read.Goals as goal
use Rattle.lent_check.proofs.read.Goals.{then-wanted-recs+else-loop-i-test, else-wanted-recs}

pub loop-i-init : goal.loop-i-init
unfolding places
loop-i-init g c = λ h says. sym (mixed_none (map h c.args.recs.now) (replicate places 0))

pub loop-i-preserved : goal.loop-i-preserved
unfolding blank_at idle
loop-i-preserved g c = λ h says. let recs = c.args.recs.now in
    let p : FnReturnsAt g.F.Fn c.args.f (get_or recs c.loop-i.i (blank_at 0)) c.f.result = search rules in
    rw (says _ _ p, c.loop-i.invariant h says) (read_step h recs (replicate places 0) c.loop-i.i (omega arith))

pub returns : goal.returns
unfolding places
returns g c = λ h says. elim c.if-wanted-recs.branch [
  | then-wanted-recs+else-loop-i-test w ↦ rw (w.t-is, w.loop-i.invariant h says) (read_end h c.args.wanted c.args.recs.now w.loop-i.i w.if-wanted-recs.true (omega arith))
  | else-wanted-recs w ↦ rw w.t-is (read_none h c.args.wanted c.args.recs.now w.if-wanted-recs.false)
]
