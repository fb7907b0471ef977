use mathlib.Core.Path.{◌∙◌}
use Rattle.base_numerals.specs.Laid.{laid_on}
use Rattle.call_line.proofs.put_peer.Goals as goal

pub returns : goal.returns
returns c = c.put_address.ensures ∙ laid_on _ _ _ _ _ _ c.put_number-p.ensures
