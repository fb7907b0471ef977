use Rattle.std.proofs.Common.{◌∙◌, ap}
use Rattle.step_check.specs.declared.Checked.{Checked}
use Rattle.lent_check.specs.Kept.{checked_how}
use Rattle.lent_check.proofs.stands.Goals as goal

pub returns : goal.returns
returns c = ap (λ (z : Checked). z.how) c.checked.ensures ∙ checked_how c.args.node 0 c.args.recs.now
