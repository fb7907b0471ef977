use Rattle.std.proofs.Common.{sym, ◌∙◌, eq-eqb, ne_eqb}
use Rattle.base_octets.specs.Sums.{sum_by_of}
use Rattle.unit_store.specs.Row.{life_in}
use Rattle.unit_store.specs.Store.{store_ok, vacant_ok}
use Rattle.unit_store.proofs.store_ok.Goals as goal

pub returns-then-rows-ne-ROWS : goal.returns-then-rows-ne-ROWS
unfolding store_ok
returns-then-rows-ne-ROWS c = rw (ne_eqb _ _ c.if-rows-ne-ROWS.true)

pub returns-then-sum-eq0 : goal.returns-then-sum-eq0
unfolding store_ok
returns-then-sum-eq0 c = let a = c.args in
    rw (eq-eqb _ _ c.if-rows-ne-ROWS.false) (sym (vacant_ok a.rows.now (sym (sum_by_of life_in a.rows.now) ∙ sym c.lives-sum.ensures ∙ c.if-sum-eq0.true)))

pub apart-requires : goal.apart-requires
apart-requires c = (c.if-rows-ne-ROWS.false, c.lives-sum.ensures ∙ sum_by_of life_in c.args.rows.now)

pub returns : goal.returns
unfolding store_ok
returns c = rw (eq-eqb _ _ c.if-rows-ne-ROWS.false, c.apart.ensures)
