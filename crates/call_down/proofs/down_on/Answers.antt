use borrow.Author.Tests.{lt-ltb, le-ltb}
use Rattle.call_down.specs.Down.{down_on}
use Rattle.call_down.proofs.down_on.Goals as goal

pub returns-then-out-packet : goal.returns-then-out-packet
unfolding down_on
returns-then-out-packet c = rw (lt-ltb _ _ c.if-out-packet.true, c.bare.ensures)

pub returns : goal.returns
unfolding down_on
returns c = rw (le-ltb _ _ c.if-out-packet.false, c.gpdu_of-size.ensures.length, c.gpdu_of-size.ensures.octets)
