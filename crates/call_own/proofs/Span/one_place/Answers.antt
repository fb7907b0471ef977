use borrow.Author.Tests.{lt-ltb, le-ltb}
use Rattle.unit_tunnel.specs.Numbering.{places}
use Rattle.call_own.specs.Outcome.{one_place}
use Rattle.call_own.proofs.Span.one_place.Goals as goal

pub returns-then-i-lt-PLACES : goal.returns-then-i-lt-PLACES
unfolding one_place places
returns-then-i-lt-PLACES c = rw (lt-ltb _ _ c.if-i-lt-PLACES.true)

pub returns : goal.returns
unfolding one_place places
returns c = rw (le-ltb _ _ c.if-i-lt-PLACES.false)
