use borrow.Author.Tests.{lt-ltb, le-ltb}
use Rattle.unit_tunnel.specs.Numbering.{places}
use Rattle.call_line.specs.Where.{address_at}
use Rattle.call_line.proofs.address_at.Goals as goal

pub returns-then-place-lt-PLACES : goal.returns-then-place-lt-PLACES
unfolding address_at places
returns-then-place-lt-PLACES c = rw (lt-ltb _ _ c.if-place-lt-PLACES.true, c.address.ensures)

pub returns : goal.returns
unfolding address_at places
returns c = rw (le-ltb _ _ c.if-place-lt-PLACES.false)
