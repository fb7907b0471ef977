use mathlib.Core.Path.{◌∙◌}
use Rattle.base_numerals.specs.Laid.{laid_on}
use Rattle.call_line.specs.Line.{line_text}
use Rattle.call_line.proofs.put_line.Goals as goal

pub returns : goal.returns
unfolding line_text
returns c = let b = c.put_number-b.ensures ∙ laid_on _ _ _ _ _ _ c.put_decimal-a.ensures in
    let d = c.put-c.ensures ∙ laid_on _ _ _ _ _ _ b in
    let e = c.put-d.ensures ∙ laid_on _ _ _ _ _ _ d in
    rw (← c.state_letter.ensures) (c.put_rest.ensures ∙ laid_on _ _ _ _ _ _ e)
