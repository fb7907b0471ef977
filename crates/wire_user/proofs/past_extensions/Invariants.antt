use Prim.Native.Nat.{◌+◌, ◌≤◌}
use mathlib.Core.Path.{◌≡◌}
use lib.ListN.{length}
use Rattle.base_octets.specs.Number.{taken}
use Rattle.wire_user.specs.Extensions.{extensions_of}
use Rattle.wire_user.specs.Stretch.{stretch, resumed, owed}
use Rattle.wire_user.proofs.past_extensions.Given as goal

abbrev pub invariant-loop-at : goal.invariant-loop-at
invariant-loop-at l = (l.at.left ≤ length l.d) × (resumed l.d (stretch taken l.at.next l.at.left) ≡ extensions_of l.d l.first)

abbrev pub decreases-loop-at : goal.decreases-loop-at
decreases-loop-at l = owed l.at.next + l.at.left
