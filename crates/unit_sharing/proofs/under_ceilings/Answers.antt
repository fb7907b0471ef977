use Rattle.std.proofs.Common.{◌≡◌, length, arith, rules}
use Rattle.unit_plan.specs.Limits.{parties_most}
use Rattle.unit_sharing.specs.Sharing.{under_is}
use Rattle.unit_sharing.proofs.under_ceilings.Goals as goal

pub returns : goal.returns
returns c =
    let m = parties_most c.args.plan (search rules) in
    let l : length c.args.live ≡ 4 = search rules in
    rw (c.all_under.ensures, c.used.ensures) (under_is c.args.plan c.args.live (omega arith))
