use Rattle.std.proofs.Common.{sym, ◌∙◌}
use Rattle.call_own.specs.Calls.{timed}
use Rattle.step_own.specs.Step.{tick_answer}
use Rattle.step_own.proofs.tick_answer.Goals as goal

pub returns-then-not-stands_by : goal.returns-then-not-stands_by
unfolding tick_answer timed
returns-then-not-stands_by c = rw (sym c.stands_by.ensures ∙ c.if-not-stands_by.true, c.bare.ensures)

pub returns : goal.returns
unfolding tick_answer timed
returns c = rw (sym c.stands_by.ensures ∙ c.if-not-stands_by.false, c.spanning.ensures, c.bare-2.ensures, c.first_places.ensures, c.echo_ticked-node.ensures)
