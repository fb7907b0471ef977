use Rattle.std.proofs.Common.{◌≡◌, ◌+◌, ◌-◌, length, drop, map}
use Rattle.base_distinct.specs.Chains.{Search, slot_of}
use Rattle.base_distinct.specs.Lacks.{lacks}
use Rattle.base_distinct.proofs.chain_lacks.Given as goal

abbrev pub invariant-loop-j : goal.invariant-loop-j
invariant-loop-j g l = (lacks l.x (drop (l.from - 1) l.keys) ≡ lacks l.x (drop (l.j - 1) l.keys)) × Search (slot_of g.row.SLOTS) l.keys (map g.L.Link.number l.links) l.x l.j

abbrev pub decreases-loop-j : goal.decreases-loop-j
decreases-loop-j g l = length l.keys + 1 - l.j
