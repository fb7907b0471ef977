use mathlib.Core.Path.{sym, ◌∙◌}
use borrow.Author.Tests.{eq-eqb, ne_eqb}
use Rattle.unit_session.specs.Session.{is_closing}
use Rattle.call_line.specs.Line.{state_letter}
use Rattle.call_line.proofs.state_letter.Goals as goal

pub returns-then-is_free : goal.returns-then-is_free
unfolding state_letter
returns-then-is_free c = rw (sym c.is_free.ensures ∙ c.if-is_free.true)

pub returns-then-s-eq-CLOSING : goal.returns-then-s-eq-CLOSING
unfolding state_letter is_closing
returns-then-s-eq-CLOSING c = rw (sym c.is_free.ensures ∙ c.if-is_free.false, eq-eqb _ _ c.if-s-eq-CLOSING.true)

pub returns : goal.returns
unfolding state_letter is_closing
returns c = rw (sym c.is_free.ensures ∙ c.if-is_free.false, ne_eqb _ _ c.if-s-eq-CLOSING.false)
