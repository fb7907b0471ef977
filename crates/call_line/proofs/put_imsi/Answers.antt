use mathlib.Core.Path.{◌∙◌}
use Rattle.base_numerals.specs.Laid.{laid_on}
use Rattle.call_line.specs.Line.{imsi_text}
use Rattle.call_line.proofs.put_imsi.Goals as goal

pub returns : goal.returns
unfolding imsi_text
returns c = c.put_decimal.ensures ∙ laid_on _ _ _ _ _ _ c.put-p.ensures
