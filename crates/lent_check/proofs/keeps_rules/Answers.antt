use Rattle.std.proofs.Common.{◌∙◌, ap}
use Rattle.step_check.specs.Summary.{stands_by, stands_kept}
use Rattle.lent_check.proofs.keeps_rules.Goals as goal

pub returns : goal.returns
returns c = c.stands_by.ensures ∙ ap stands_by c.stands.ensures ∙ stands_kept c.args.node c.args.recs.now
