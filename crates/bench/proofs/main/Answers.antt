use Rattle.std.proofs.Common.{arith}
use Rattle.bench.specs.Room.{room_first}
use Rattle.bench.proofs.main.Goals as goal

pub invariant_of-desk : goal.invariant_of-desk
invariant_of-desk c = record { room = (room_first c.start.result c.start.ensures, omega arith) }
