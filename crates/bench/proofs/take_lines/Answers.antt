use Rattle.std.proofs.Common.{◌==◌, rules, tests, sym, ◌∙◌}
use Rattle.std.proofs.lemmas.Iterator.{YieldsList-from_slice}
use Rattle.std.proofs.lemmas.Iterator.Search.{position_from_yields_List}
use Rattle.bench.proofs.take_lines.Goals as goal

pub take_next-requires : goal.take_next-requires
take_next-requires g c =
    let e = position_from_yields_List (λ x. x == 10) _ _ c.position.result c.position.ensures.ran (YieldsList-from_slice c.loop-end.rest.now cc)
    (λ x b q k. search (rules, tests)) in
    sym e ∙ c.in-Some.is
