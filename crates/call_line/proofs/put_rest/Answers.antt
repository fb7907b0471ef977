use mathlib.Core.Path.{sym, ◌∙◌}
use Rattle.call_line.specs.Line.{rest_text, dashes}
use Rattle.call_line.proofs.put_rest.Goals as goal

pub returns-then-is_free : goal.returns-then-is_free
unfolding rest_text dashes
returns-then-is_free c = rw (sym c.is_free.ensures ∙ c.if-is_free.true) c.put_text.ensures

pub returns : goal.returns
unfolding rest_text
returns c = rw (sym c.is_free.ensures ∙ c.if-is_free.false) c.put_held.ensures
