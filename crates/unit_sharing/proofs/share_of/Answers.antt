use Rattle.std.proofs.Common.{◌≡◌, length, get_or, arith, rules}
use Rattle.unit_plan.specs.Limits.{parties_most}
use Rattle.unit_sharing.specs.Sharing.{share_of, shared_is}
use Rattle.unit_sharing.proofs.share_of.Goals as goal

pub shared-requires : goal.shared-requires
shared-requires c = rw c.used.ensures (parties_most c.args.plan (search rules))

pub returns : goal.returns
returns c =
    let m = parties_most c.args.plan (search rules) in
    let l : length c.args.live ≡ 4 = search rules in
    let e : c.shared.result ≡ share_of c.args.plan (λ a. get_or c.args.live a 0) = rw (c.shared.ensures, c.used.ensures) (shared_is c.args.plan c.args.live (omega arith)) in
    omega arith
