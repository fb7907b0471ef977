use Rattle.std.proofs.Common.{◌∙◌}
use Rattle.base_numerals.specs.Laid.{laid_on}
use Rattle.bench_text.specs.Prints.{due_text}
use Rattle.bench_text.proofs.put_due.Goals as goal

pub returns : goal.returns
unfolding due_text
returns c = c.put.ensures ∙ laid_on _ _ _ _ _ _ (c.put_octets-b.ensures ∙ laid_on _ _ _ _ _ _ c.put_text-a.ensures)
