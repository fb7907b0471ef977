use Rattle.std.proofs.Common.{sym, ◌∙◌, eq-eqb, ne_eqb}
use Rattle.unit_tunnel.specs.Numbering.{places}
use Rattle.call_own.specs.Calls.{fresh_answer, fresh_by}
use Rattle.call_own.proofs.fresh_by.Goals as goal

pub returns-then-count-ne-PLACES : goal.returns-then-count-ne-PLACES
unfolding fresh_by fresh_answer places
returns-then-count-ne-PLACES c = rw (ne_eqb _ _ c.if-count-ne-PLACES.true, c.bare.ensures, c.fresh-empty.ensures, c.none.ensures)

pub returns-then-accepted : goal.returns-then-accepted
unfolding fresh_by fresh_answer places
returns-then-accepted c = rw (eq-eqb _ _ c.if-count-ne-PLACES.false, sym c.accepted.ensures ∙ c.if-accepted.true, c.spanning.ensures, c.bare-then-accepted.ensures, c.fresh.ensures, c.first_places-all.ensures)

pub returns : goal.returns
unfolding fresh_by fresh_answer places
returns c = rw (eq-eqb _ _ c.if-count-ne-PLACES.false, sym c.accepted.ensures ∙ c.if-accepted.false, c.spanning-2.ensures, c.bare-2.ensures, c.fresh-empty.ensures, c.none.ensures, c.first_places-all.ensures)
