use Rattle.std.proofs.Common.{◌≡◌, ◌-◌, ◌<◌, min, length, sym, ◌∙◌, arith, eqb-true}
use Rattle.std.proofs.lemmas.Bool.{eqb-false}
use Rattle.base_octets.specs.Search.{first_of, first_or_last}
use Rattle.unit_store.specs.Row.{is_unused}
use Rattle.unit_store.specs.Store.{pushed_none, pushed_first}
use Rattle.unit_store.proofs.keep.Goals as goal

pub returns-then-is_empty : goal.returns-then-is_empty
returns-then-is_empty c = pushed_none c.args.row c.args.rows.now (eqb-true _ _ (sym c.is_empty.ensures ∙ c.if-is_empty.true))

pub returns : goal.returns
returns c =
    let z = eqb-false (length c.args.rows.now) 0 (sym c.is_empty.ensures ∙ c.if-is_empty.false) in
    let h : 0 < length c.args.rows.now = omega arith in
    let i : c.unwrap_or-last.result ≡ min (first_of is_unused c.args.rows.now) (length c.args.rows.now - 1)
    = rw (c.unwrap_or-last.ensures, c.first_unused.ensures) (first_or_last is_unused c.args.rows.now) in
    pushed_first c.args.row c.args.rows.now _ c.unwrap_or-last.result h i c.rotate_right.ensures.after
