use Rattle.std.proofs.Common.{arith}
use Rattle.promise_demands.proofs.Hosts.{all_octets}
use Rattle.promise_demands.proofs.octets_by_type.Goals as goal

pub returns : goal.returns
returns c = all_octets c.args.d.now (λ i. omega (arith, c.type_inv.d i))
