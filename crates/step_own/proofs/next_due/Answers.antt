use Rattle.step_own.specs.Send.{next_due}
use Rattle.call_own.specs.Outcome.{least_reply}
use Rattle.unit_tunnel.specs.Numbering.{places}
use Rattle.std.proofs.Common.{sym, ◌∙◌}
use borrow.Author.Tests.{eq-eqb, ne_eqb, lt-ltb, le-ltb}
use Rattle.step_own.proofs.next_due.Goals as goal

pub returns-then-room-lt-LEAST_REPLY : goal.returns-then-room-lt-LEAST_REPLY
unfolding next_due least_reply
returns-then-room-lt-LEAST_REPLY c = rw (lt-ltb _ _ c.if-room-lt-LEAST_REPLY.true)

pub returns-then-not-stands_by : goal.returns-then-not-stands_by
unfolding next_due least_reply
returns-then-not-stands_by c = rw (le-ltb _ _ c.if-room-lt-LEAST_REPLY.false, sym c.stands_by.ensures ∙ c.if-not-stands_by.true)

pub returns-then-echo-eq0 : goal.returns-then-echo-eq0
unfolding next_due least_reply
returns-then-echo-eq0 c = rw (le-ltb _ _ c.if-room-lt-LEAST_REPLY.false, sym c.stands_by.ensures ∙ c.if-not-stands_by.false, eq-eqb _ _ c.if-echo-eq0.true, c.taken_among-number.ensures)

pub returns-then-place-ge-PLACES : goal.returns-then-place-ge-PLACES
unfolding next_due least_reply places
returns-then-place-ge-PLACES c = rw (le-ltb _ _ c.if-room-lt-LEAST_REPLY.false, sym c.stands_by.ensures ∙ c.if-not-stands_by.false, ne_eqb _ _ c.if-echo-eq0.false, le-ltb _ _ c.if-place-ge-PLACES.true)

pub returns : goal.returns
unfolding next_due least_reply places
returns c = rw (le-ltb _ _ c.if-room-lt-LEAST_REPLY.false, sym c.stands_by.ensures ∙ c.if-not-stands_by.false, ne_eqb _ _ c.if-echo-eq0.false, lt-ltb _ _ c.if-place-ge-PLACES.false, c.taken_among-number-2.ensures)
