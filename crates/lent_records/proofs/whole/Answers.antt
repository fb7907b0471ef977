use borrow.Author.Tests.{eq-eqb, ne_eqb}
use Rattle.unit_tunnel.specs.Numbering.{places}
use Rattle.lent_records.specs.Records.{whole_of}
use Rattle.lent_records.proofs.whole.Goals as goal

pub returns-then-count-eq-PLACES : goal.returns-then-count-eq-PLACES
unfolding whole_of places
returns-then-count-eq-PLACES c = rw (eq-eqb _ _ c.if-count-eq-PLACES.true)

pub returns : goal.returns
unfolding whole_of places
returns c = rw (ne_eqb _ _ c.if-count-eq-PLACES.false)
