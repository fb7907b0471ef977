use Rattle.std.proofs.Common.{◌≡◌, ◌+◌, ◌-◌}
use Rattle.unit_tunnel.specs.Numbering.{places}
use Rattle.step_keys.specs.Unclaimed.{free_among}
use Rattle.step_keys.proofs.free_among.Given as goal

abbrev pub invariant-loop : goal.invariant-loop
invariant-loop l = free_among (places + 2) l.next l.echo l.keys ≡ free_among (places + 2 - l.counter) l.k l.echo l.keys
