use mathlib.Core.Path.{sym, ◌∙◌}
use Rattle.call_line.specs.Where.{peer_of}
use Rattle.call_line.proofs.peer_of.Goals as goal

pub returns-then-is_free : goal.returns-then-is_free
unfolding peer_of
returns-then-is_free c = rw (sym c.is_free.ensures ∙ c.if-is_free.true)

pub returns : goal.returns
unfolding peer_of
returns c = rw (sym c.is_free.ensures ∙ c.if-is_free.false)
