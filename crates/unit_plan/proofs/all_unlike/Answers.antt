use Rattle.std.proofs.Common.{◌≡◌, arith, rules}
use Rattle.std.proofs.lemmas.Grind.{common_steps}
use Rattle.std.proofs.lemmas.Iterator.{YieldsList-from_slice}
use Rattle.std.proofs.lemmas.Iterator.Search.{all_from_yields_List}
use Rattle.unit_plan.specs.Names.{unlike}
use Rattle.unit_plan.proofs.all_unlike.Goals as goal

pub returns : goal.returns
returns c =
    let r : c.iter.result.rest.now ≡ c.args.rest.now = grind (arith, common_steps) in
    all_from_yields_List (unlike c.args.first.now) _ _ _ c.all.ensures.ran (YieldsList-from_slice c.args.rest.now r) (λ x b q k. search rules)
