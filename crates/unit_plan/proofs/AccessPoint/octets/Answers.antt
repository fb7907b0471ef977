use Rattle.unit_plan.specs.Limits.{longest_name}
use Rattle.unit_plan.specs.Names.{name-part}
use Rattle.std.proofs.Common.{arith, rules}
use Rattle.unit_plan.proofs.AccessPoint.octets.Goals as goal

pub returns : goal.returns
unfolding longest_name
returns c = name-part c.args.self.now _ (search rules) (omega (arith, c.from.ensures, c.min.ensures))
