use Rattle.std.proofs.Common.{ap, ◌∙◌}
use Rattle.bench_unit.specs.State.{beside}
use Rattle.bench_unit.specs.Plans.{start_line, first_line}
use Rattle.bench_unit.proofs.Left.{not_node}
use Rattle.bench_unit.proofs.Run.start_line.Goals as goal

pub returns-in-Node-clause-first : goal.returns-in-Node-clause-first
unfolding start_line first_line
returns-in-Node-clause-first c = rw (c.in-Node.is, c.fresh-self.ensures, c.none.ensures)

pub returns-in_default-clause-first : goal.returns-in_default-clause-first
returns-in_default-clause-first c = let r = c.args.self.now in
    c.end_bad.ensures.bad ∙ ap (beside r.recs.now r.store.now) (not_node c.args.line r.bench r.out.now c.in_default.not-Node)
