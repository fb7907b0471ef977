use Rattle.unit_plan.specs.Limits.{used_slots}
use Rattle.std.proofs.Common.{arith, rules}
use Rattle.unit_plan.proofs.Plan.used.Goals as goal

pub returns : goal.returns
returns c = used_slots c.args.self.now _ (search rules) (omega (arith, c.from.ensures, c.min.ensures))
