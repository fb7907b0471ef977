use Rattle.std.proofs.Common.{rules}
use Rattle.base_octets.specs.Sums.{sum_by_of}
use Rattle.unit_plan.specs.Limits.{used, parties_most}
use Rattle.unit_plan.specs.Plan.{guaranteed}
use Rattle.unit_plan.proofs.Plan.guaranteed.Goals as goal

pub promised-requires : goal.promised-requires
promised-requires c = rw c.used.ensures (parties_most c.args.self.now (search rules))

pub returns : goal.returns
unfolding guaranteed
returns c = rw (c.promised.ensures, c.used.ensures) (sum_by_of _ (used c.args.self.now))
