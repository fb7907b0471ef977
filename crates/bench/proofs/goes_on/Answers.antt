use Rattle.std.proofs.Common.{arith, not}
use Rattle.std.proofs.lemmas.Grind.{common_steps}
use Rattle.base_octets.specs.Choice.{or_true}
use Rattle.bench.specs.Room.{goes_on, not_first}
use Rattle.bench.proofs.goes_on.Goals as goal
use Rattle.bench.proofs.goes_on.Goals.{then-not-many-via-then-not-many, then-not-many-via-else-not-many+then-is_empty}

pub returns-then-not-many : goal.returns-then-not-many
unfolding goes_on
returns-then-not-many c =
    elim c.then-not-many.branch [
      | then-not-many-via-then-not-many w ↦ rw w.if-not-many.true
      | then-not-many-via-else-not-many+then-is_empty w ↦ grind (arith, common_steps)
    ]

pub returns-in-First : goal.returns-in-First
unfolding goes_on
returns-in-First c = rw (c.in-First.is, or_true (not c.args.many))

pub returns-in_default : goal.returns-in_default
unfolding goes_on
returns-in_default c = let e = not_first c.args.b.phase c.in_default.not-First in rw e (grind (arith, common_steps))
