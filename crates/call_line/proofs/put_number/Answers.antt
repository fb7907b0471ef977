use mathlib.Core.Path.{◌∙◌}
use Rattle.base_numerals.specs.Laid.{laid_on}
use Rattle.call_line.specs.Line.{number_text}
use Rattle.call_line.proofs.put_number.Goals as goal

pub returns : goal.returns
unfolding number_text
returns c = rw (← c.from.ensures) (c.put_decimal.ensures ∙ laid_on _ _ _ _ _ _ c.put-p.ensures)
