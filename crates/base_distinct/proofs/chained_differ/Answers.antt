use Rattle.std.proofs.Common.{◌≡◌, ◌+◌, ◌-◌, ◌*◌, ◌^◌, ◌<◌, get_or, map, sym, ◌∙◌, arith}
use Rattle.std.proofs.lemmas.List.{length-map, map-set}
use prog.Memory.{size}
use denote.Param.{layout}
use Rattle.base_distinct.specs.Chains.{slot_of, slot_small}
use Rattle.base_distinct.specs.Passed.{passed_none, passed_skip, passed_search, passed_clash, passed_linked, passed_alone}
use Rattle.base_octets.specs.Places.{map_at}
use Rattle.std.proofs.lemmas.Bool.Decides.{nat_tests}
use Rattle.base_distinct.proofs.Links.{links_fit, all_none}
use Rattle.base_distinct.proofs.chained_differ.Goals as goal

pub loop-at-init : goal.loop-at-init
loop-at-init g c =
    let r = c.requires in
    rw (all_none g.L.Link.number g.row.SLOTS g.L.Link.END c.of-heads.result (c.of-heads.ensures ∙ c.END.ensures), all_none g.L.Link.number g.row.LINKS g.L.Link.END c.of-links.result (c.of-links.ensures ∙ c.END-2.ensures))
    (passed_none (slot_of g.row.SLOTS) g.L.Link.END g.row.SLOTS g.row.LINKS (λ x. slot_small g.row.SLOTS x r.some) c.args.keys.now (omega arith) r.room)

pub offset_bounds-heads-h : goal.offset_bounds-heads-h
offset_bounds-heads-h g c =
    let r = c.requires in
    let h : c.slot_of-h.result < g.row.SLOTS = rw c.slot_of-h.ensures (slot_small _ _ r.some) in
    let f : c.slot_of-h.result * size (layout g.row.L) < 2 ^ 63 = links_fit c.slot_of-h.result g.row.SLOTS _ (omega arith) r.most r.narrow in
    omega arith

pub offset_bounds-heads-h-then-x-ne0 : goal.offset_bounds-heads-h-then-x-ne0
offset_bounds-heads-h-then-x-ne0 g c =
    let r = c.requires in
    let h : c.slot_of-h.result < g.row.SLOTS = rw c.slot_of-h.ensures (slot_small _ _ r.some) in
    let f : c.slot_of-h.result * size (layout g.row.L) < 2 ^ 63 = links_fit c.slot_of-h.result g.row.SLOTS _ (omega arith) r.most r.narrow in
    omega arith

pub offset_bounds-links-at : goal.offset_bounds-links-at
offset_bounds-links-at g c =
    let r = c.requires in
    let k = c.loop-at in
    let f : (k.at - 1 + 1) * size (layout g.row.L) < 2 ^ 63 = links_fit (k.at - 1 + 1) g.row.LINKS _ (omega arith) r.few r.narrow in
    omega arith

pub shared_whole_as_slice-chain_lacks : goal.shared_whole_as_slice-chain_lacks
shared_whole_as_slice-chain_lacks g c = let r = c.requires in links_fit _ g.row.LINKS _ (omega arith) r.few r.narrow

pub chain_lacks-requires : goal.chain_lacks-requires
chain_lacks-requires g c = let r = c.requires in let k = c.loop-at in let n = g.L.Link.number in
    let i = simp length-map at k.invariant.slots in
    let h : c.slot_of-h.result < g.row.SLOTS = rw c.slot_of-h.ensures (slot_small _ _ r.some) in
    rw (c.number-then-number-END.ensures, ← map_at n k.heads c.slot_of-h.result c.index-heads-h.result 0 (omega arith))
    (passed_search (slot_of g.row.SLOTS) g.L.Link.END g.row.SLOTS g.row.LINKS (λ x. slot_small g.row.SLOTS x r.some) c.args.keys.now (omega arith) r.room (map n k.heads) (map n k.links) k.at k.invariant (omega arith)
    c.if-x-ne0.true c.slot_of-h.result c.slot_of-h.ensures)

pub returns-then-not-chain_lacks : goal.returns-then-not-chain_lacks
returns-then-not-chain_lacks g c = let r = c.requires in let k = c.loop-at in let n = g.L.Link.number in
    let i = simp length-map at k.invariant.slots in
    let h : c.slot_of-h.result < g.row.SLOTS = rw c.slot_of-h.ensures (slot_small _ _ r.some) in
    let e = rw (c.number-then-number-END.ensures, ← map_at n k.heads c.slot_of-h.result c.index-heads-h.result 0 (omega arith)) at c.chain_lacks.ensures in
    sym (passed_clash (slot_of g.row.SLOTS) g.L.Link.END g.row.SLOTS g.row.LINKS (λ x. slot_small g.row.SLOTS x r.some) c.args.keys.now (omega arith) r.room (map n k.heads) (map n k.links) k.at k.invariant (omega arith)
    c.if-x-ne0.true c.slot_of-h.result c.slot_of-h.ensures (sym e ∙ c.if-not-chain_lacks.true))

pub loop-at-preserved-then-number-END : goal.loop-at-preserved-then-number-END
loop-at-preserved-then-number-END g c = let r = c.requires in let k = c.loop-at in let n = g.L.Link.number in
    let i = simp length-map at k.invariant.slots in
    let h : c.slot_of-h.result < g.row.SLOTS = rw c.slot_of-h.ensures (slot_small _ _ r.some) in
    let m = map_at n k.heads c.slot_of-h.result c.index-heads-h.result 0 (omega arith) in
    let e = rw (c.number-then-number-END.ensures, ← m) at c.chain_lacks.ensures in
    let p : k.at - 1 + 1 ≡ k.at = omega arith in
    rw (map-set n k.heads c.slot_of-h.result c.of.result, c.of.ensures, map-set n k.links (k.at - 1 + 1) (get_or k.heads c.slot_of-h.result c.index-heads-h.result), ← m, p)
    (passed_linked (slot_of g.row.SLOTS) g.L.Link.END g.row.SLOTS g.row.LINKS (λ x. slot_small g.row.SLOTS x r.some) c.args.keys.now (omega arith) r.room (map n k.heads) (map n k.links) k.at k.invariant (omega arith)
    c.if-x-ne0.true c.slot_of-h.result c.slot_of-h.ensures (sym e ∙ c.if-not-chain_lacks.false))

pub loop-at-preserved-else-number-END : goal.loop-at-preserved-else-number-END
loop-at-preserved-else-number-END g c = let r = c.requires in let k = c.loop-at in let n = g.L.Link.number in
    let i = simp length-map at k.invariant.slots in
    let h : c.slot_of-h.result < g.row.SLOTS = rw c.slot_of-h.ensures (slot_small _ _ r.some) in
    let m = map_at n k.heads c.slot_of-h.result c.index-heads-h.result 0 (omega arith) in
    let p : k.at - 1 + 1 ≡ k.at = omega arith in
    let f : c.number.result ≡ c.END-then-x-ne0.result = grind (arith, nat_tests) in
    rw (map-set n k.heads c.slot_of-h.result c.of.result, c.of.ensures, p)
    (passed_alone (slot_of g.row.SLOTS) g.L.Link.END g.row.SLOTS g.row.LINKS (λ x. slot_small g.row.SLOTS x r.some) c.args.keys.now (omega arith) r.room (map n k.heads) (map n k.links) k.at k.invariant (omega arith)
    c.if-x-ne0.true c.slot_of-h.result c.slot_of-h.ensures (m ∙ sym c.number.ensures ∙ f ∙ c.END-then-x-ne0.ensures))

pub loop-at-preserved : goal.loop-at-preserved
loop-at-preserved g c = let r = c.requires in let k = c.loop-at in let n = g.L.Link.number in
    passed_skip (slot_of g.row.SLOTS) g.L.Link.END g.row.SLOTS g.row.LINKS (λ x. slot_small g.row.SLOTS x r.some) c.args.keys.now (omega arith) r.room (map n k.heads) (map n k.links) k.at k.invariant (omega arith) c.if-x-ne0.false
