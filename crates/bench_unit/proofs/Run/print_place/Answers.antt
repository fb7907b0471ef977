use Rattle.std.proofs.Common.{ap, ◌∙◌, eq-eqb, ne_eqb}
use Rattle.base_numerals.specs.Laid.{laid_on}
use Rattle.call_own.specs.Outcome.{least_reply}
use Rattle.bench_unit.specs.State.{beside, lent_reply, with_made, printed_by}
use Rattle.bench_unit.specs.Ended.{line_shown, line_printed, place_printed}
use Rattle.bench_unit.proofs.Run.print_place.Goals as goal

pub returns-then-read-eq0-clause-printed : goal.returns-then-read-eq0-clause-printed
unfolding place_printed
returns-then-read-eq0-clause-printed c = rw (← c.read.ensures, eq-eqb _ _ c.if-read-eq0.true)

pub returns-clause-printed : goal.returns-clause-printed
unfolding place_printed line_printed line_shown with_made lent_reply least_reply
returns-clause-printed c = let r = c.args.self.now in
    rw (← c.read.ensures, ne_eqb _ _ c.if-read-eq0.false, ← c.grugavorn_line-a.ensures, ← c.front.ensures)
    (ap (beside r.recs.now r.store.now) (printed_by _ (λ made. with_made made r.bench) _ _ _ _ (c.put-self.ensures ∙ laid_on _ _ _ _ _ _ c.put_text-end.ensures)))
