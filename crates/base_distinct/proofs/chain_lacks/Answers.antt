use Rattle.std.proofs.Common.{map, sym, ◌∙◌, arith}
use Rattle.std.proofs.lemmas.List.{length-map}
use Rattle.base_distinct.specs.Chains.{slot_of, search_hit, search_end, search_less, search_rest, search_on}
use Rattle.base_distinct.proofs.Links.{number_at}
use Rattle.base_distinct.proofs.chain_lacks.Goals as goal

pub returns-then-x-keys : goal.returns-then-x-keys
returns-then-x-keys g c = let a = c.args in let k = c.loop-j in
    sym (k.invariant.0 ∙ search_hit (slot_of g.row.SLOTS) a.keys.now (map g.L.Link.number a.links.now) a.x k.j k.invariant.1 (omega arith) c.if-x-keys.true)

pub loop-j-smaller : goal.loop-j-smaller
loop-j-smaller g c = let a = c.args in let k = c.loop-j in
    let r = simp length-map at k.invariant.1.room in
    let e = number_at g.L.Link.number a.links.now k.j c.number-j.result c.index-links-j.result (omega arith) c.index-links-j.is c.number-j.ensures in
    let s = search_less (slot_of g.row.SLOTS) a.keys.now (map g.L.Link.number a.links.now) a.x k.j k.invariant.1 (omega arith) in
    omega arith

pub loop-j-preserved : goal.loop-j-preserved
loop-j-preserved g c = let a = c.args in let k = c.loop-j in
    let r = simp length-map at k.invariant.1.room in
    let e = number_at g.L.Link.number a.links.now k.j c.number-j.result c.index-links-j.result (omega arith) c.index-links-j.is c.number-j.ensures in
    rw e (
      k.invariant.0 ∙ search_rest (slot_of g.row.SLOTS) a.keys.now (map g.L.Link.number a.links.now) a.x k.j k.invariant.1 (omega arith) c.if-x-keys.false,
      search_on (slot_of g.row.SLOTS) a.keys.now (map g.L.Link.number a.links.now) a.x k.j k.invariant.1 (omega arith),
    )

pub returns : goal.returns
returns g c = let a = c.args in let k = c.loop-j in
    sym (k.invariant.0 ∙ search_end (slot_of g.row.SLOTS) a.keys.now (map g.L.Link.number a.links.now) a.x k.j k.invariant.1 (omega arith))
