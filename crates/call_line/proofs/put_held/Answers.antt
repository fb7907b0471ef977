use mathlib.Core.Path.{◌∙◌}
use Rattle.base_numerals.specs.Laid.{laid_on}
use Rattle.call_line.specs.Line.{held_text}
use Rattle.call_line.proofs.put_held.Goals as goal

pub returns : goal.returns
unfolding held_text
returns c = let b = c.put_imsi-b.ensures ∙ laid_on _ _ _ _ _ _ c.put_number-a.ensures in
    let d = c.put_number-c.ensures ∙ laid_on _ _ _ _ _ _ b in
    let e = c.put_peer-d.ensures ∙ laid_on _ _ _ _ _ _ d in
    let f = c.put_peer-e.ensures ∙ laid_on _ _ _ _ _ _ e in
    rw (← c.from.ensures, ← c.from-2.ensures) (c.put_number.ensures ∙ laid_on _ _ _ _ _ _ f)
