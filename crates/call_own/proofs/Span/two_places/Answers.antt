use borrow.Author.Tests.{lt-ltb, le-ltb}
use Rattle.unit_tunnel.specs.Numbering.{places}
use Rattle.call_own.specs.Outcome.{between, two_places}
use Rattle.call_own.proofs.Span.two_places.Goals as goal

pub returns-then-i-ge-PLACES : goal.returns-then-i-ge-PLACES
unfolding two_places places
returns-then-i-ge-PLACES c = rw (le-ltb _ _ c.if-i-ge-PLACES.true, c.one_place.ensures)

pub returns-then-j-ge-PLACES : goal.returns-then-j-ge-PLACES
unfolding two_places places
returns-then-j-ge-PLACES c = rw (lt-ltb _ _ c.if-i-ge-PLACES.false, le-ltb _ _ c.if-j-ge-PLACES.true, c.one_place-then-j-ge-PLACES.ensures)

pub returns-then-i-j : goal.returns-then-i-j
unfolding two_places between places
returns-then-i-j c = rw (lt-ltb _ _ c.if-i-ge-PLACES.false, lt-ltb _ _ c.if-j-ge-PLACES.false, lt-ltb _ _ c.if-i-j.true)

pub returns : goal.returns
unfolding two_places between places
returns c = rw (lt-ltb _ _ c.if-i-ge-PLACES.false, lt-ltb _ _ c.if-j-ge-PLACES.false, le-ltb _ _ c.if-i-j.false)
