use Rattle.std.proofs.Common.{◌≡◌, length, take, ◌*◌, ◌≤◌, ◌-◌, ◌<◌}
use Rattle.wire_fields.specs.Imsi.{hundreds}
use Rattle.wire_fields.proofs.Back.{read}
use Rattle.wire_fields.proofs.digits.Given as goal

-- the octets that are left are the first of them
abbrev pub invariant-loop-x : goal.invariant-loop-x
invariant-loop-x l =
    let left = l.x-iterator.iter.rest.now in
    (length left ≤ 7) × (left ≡ take (length left) l.v) × (l.worth ≡ hundreds (7 - length left) * 10) × (l.n < l.worth) × read l.v (length left) l.worth l.n
