use Rattle.std.proofs.Common.{map}
use Rattle.base_distinct.specs.Chains.{slot_of}
use Rattle.base_distinct.specs.Passed.{PassedKeys}
use Rattle.base_distinct.proofs.chained_differ.Given as goal

abbrev pub invariant-loop-at : goal.invariant-loop-at
invariant-loop-at g l = PassedKeys (slot_of g.row.SLOTS) g.L.Link.END g.row.SLOTS g.row.LINKS l.keys (map g.L.Link.number l.heads) (map g.L.Link.number l.links) l.at
