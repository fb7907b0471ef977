use borrow.Author.Tests.{eq-eqb, ne_eqb}
use Rattle.unit_tunnel.specs.Numbering.{places}
use Rattle.call_store.specs.Steps.{cleared_rows}
use Rattle.call_store.proofs.cleared_rows.Goals as goal

pub returns-then-count-eq-PLACES : goal.returns-then-count-eq-PLACES
unfolding cleared_rows places
returns-then-count-eq-PLACES c = rw (eq-eqb _ _ c.if-count-eq-PLACES.true)

pub returns : goal.returns
unfolding cleared_rows places
returns c = rw (ne_eqb _ _ c.if-count-eq-PLACES.false)
