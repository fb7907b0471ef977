use mathlib.Core.Path.{◌∙◌}
use Rattle.base_numerals.specs.Laid.{laid_on}
use Rattle.call_line.specs.Line.{address_text}
use Rattle.call_line.proofs.put_address.Goals as goal

pub returns : goal.returns
unfolding address_text
returns c = rw (← c.octets32.ensures) (c.put_hex.ensures ∙ laid_on _ _ _ _ _ _ c.put-p.ensures)
