use Rattle.std.proofs.Common.{◌∙◌}
use Rattle.call_store.specs.Steps.{keeps_whole, keeps_broken}
use Rattle.lent_check.proofs.keeps.Goals as goal

pub returns-then-store_ok : goal.returns-then-store_ok
returns-then-store_ok c = keeps_whole c.args.node c.args.recs.now c.args.store.now c.store_ok.result c.keeps_rules.result c.store_ok.ensures c.if-store_ok.true c.keeps_rules.ensures

pub returns-else-store_ok : goal.returns-else-store_ok
returns-else-store_ok c = c.if-store_ok.false ∙ keeps_broken c.args.node c.args.recs.now c.args.store.now c.store_ok.result c.store_ok.ensures c.if-store_ok.false
