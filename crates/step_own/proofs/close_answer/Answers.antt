use Rattle.std.proofs.Common.{sym, ◌∙◌}
use Rattle.call_own.specs.Outcome.{bare_on}
use Rattle.call_own.specs.Calls.{close_on}
use Rattle.step_own.specs.Step.{close_answer}
use Rattle.step_own.proofs.close_answer.Goals as goal

pub returns-then-not-kept : goal.returns-then-not-kept
unfolding close_answer close_on bare_on
returns-then-not-kept c = rw (c.if-not-kept.true, c.bare.ensures)

pub returns-then-is_free : goal.returns-then-is_free
unfolding close_answer close_on bare_on
returns-then-is_free c = rw (c.if-not-kept.false, sym c.is_free.ensures ∙ c.if-is_free.true, c.bare-then-is_free.ensures)

pub returns : goal.returns
unfolding close_answer close_on bare_on
returns c = rw (c.if-not-kept.false, sym c.is_free.ensures ∙ c.if-is_free.false, c.spanning.ensures, c.bare-2.ensures, c.one_place.ensures)
