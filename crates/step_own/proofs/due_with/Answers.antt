use borrow.Author.Tests.{lt-ltb, le-ltb}
use Rattle.call_own.specs.Outcome.{least_reply}
use Rattle.step_own.specs.Send.{due_with}
use Rattle.step_own.proofs.due_with.Goals as goal

pub returns-then-sound : goal.returns-then-sound
unfolding due_with
returns-then-sound c = rw c.if-sound.true

pub returns-then-room-lt-LEAST_REPLY : goal.returns-then-room-lt-LEAST_REPLY
unfolding due_with least_reply
returns-then-room-lt-LEAST_REPLY c = rw (c.if-sound.false, lt-ltb _ _ c.if-room-lt-LEAST_REPLY.true)

pub returns : goal.returns
unfolding due_with least_reply
returns c = rw (c.if-sound.false, le-ltb _ _ c.if-room-lt-LEAST_REPLY.false)
