use Rattle.std.proofs.Common.{sym, ◌∙◌}
use Rattle.bench_unit.specs.declared.Phase.TheVariants as P
use Rattle.bench_run.specs.Taken.{taken_by, taken}
use Rattle.bench_run.proofs.Left.{runs_only, over_only}
use Rattle.bench_run.proofs.take_line.Goals as goal

pub returns-then-is_over-clause-taken : goal.returns-then-is_over-clause-taken
unfolding taken_by
returns-then-is_over-clause-taken c = let r = c.args.run.now in
    taken P.Over c.args.text.now r.bench r.recs.now r.store.now r.out.now (over_only _ (sym c.is_over.ensures ∙ c.if-is_over.true))

pub returns-in-First-clause-taken : goal.returns-in-First-clause-taken
unfolding taken_by
returns-in-First-clause-taken c = let r = c.args.run.now in
    rw (← taken P.First c.args.text.now r.bench r.recs.now r.store.now r.out.now c.in-First.is, ← c.read_line-line.ensures, ← c.with_line-run.ensures) c.start_line.ensures.first

pub returns-in-Plan-clause-taken : goal.returns-in-Plan-clause-taken
unfolding taken_by
returns-in-Plan-clause-taken c = let r = c.args.run.now in
    rw (← taken P.Plan c.args.text.now r.bench r.recs.now r.store.now r.out.now c.in-Plan.is, ← c.read_line-line.ensures, ← c.with_line-run.ensures) c.plan_line.ensures.taken

pub returns-in_default-clause-taken : goal.returns-in_default-clause-taken
unfolding taken_by
returns-in_default-clause-taken c = let r = c.args.run.now in
    let e = runs_only _ (sym c.is_over.ensures ∙ c.if-is_over.false) c.in_default.not-First c.in_default.not-Plan in
    rw (← taken P.Runs c.args.text.now r.bench r.recs.now r.store.now r.out.now e, ← c.read_line-line.ensures, ← c.with_line-run.ensures) c.run_line.ensures.run
