use Rattle.std.proofs.Common.{◌≡◌, sym, arith, rules}
use borrow.Author.Tests.{lt-ltb, le-ltb}
use Rattle.std.specs.List.{list_all}
use Rattle.std.proofs.lemmas.Iterator.{YieldsList-from_slice}
use Rattle.std.proofs.lemmas.Iterator.Search.{all_from_yields_List}
use Rattle.base_octets.specs.Every.{every_all}
use Rattle.base_octets.specs.Overlay.{overlay_none, overlay-step, overlay-done}
use Rattle.base_numerals.specs.Hex.{is_hex, octets_in, octets_read, pair_at, length_in}
use Rattle.base_numerals.proofs.read_octets.Goals as goal
use Rattle.base_numerals.proofs.read_octets.Goals.{then-not-is_empty-via-then-not-is_empty, then-not-is_empty-via-else-not-is_empty+then-out-pairs, then-not-is_empty-via-else-not-is_empty+else-out-pairs+then-not-all}

pub returns-then-not-is_empty : goal.returns-then-not-is_empty
unfolding octets_read
returns-then-not-is_empty c =
    elim c.then-not-is_empty.branch [
      | then-not-is_empty-via-then-not-is_empty w ↦ let e = rw c.as_chunks.ensures.back_len at (sym w.if-not-is_empty.ensures) in rw e
      | then-not-is_empty-via-else-not-is_empty+then-out-pairs w ↦ let e = rw c.as_chunks.ensures.back_len at (sym w.if-not-is_empty.ensures) in rw (e, lt-ltb _ _ (rw c.as_chunks.ensures.front_len at w.if-out-pairs.true))
      | then-not-is_empty-via-else-not-is_empty+else-out-pairs+then-not-all w ↦
          let e = rw c.as_chunks.ensures.back_len at (sym w.if-not-is_empty.ensures) in
          let h : w.all.result ≡ list_all is_hex c.args.text.now
          = all_from_yields_List is_hex _ _ _ w.all.ensures.ran (YieldsList-from_slice c.args.text.now cc) (λ x b q k. search rules) in
          rw (e, le-ltb _ _ (rw c.as_chunks.ensures.front_len at w.if-out-pairs.false), ← every_all is_hex c.args.text.now, ← h, w.if-not-all.true)
    ]

pub loop-i-init : goal.loop-i-init
loop-i-init c = sym (overlay_none (octets_in c.args.text.now) c.args.out.now)

pub loop-i-preserved : goal.loop-i-preserved
loop-i-preserved c =
    let k = c.loop-i in
    let a = c.args in
    let l = length_in a.text.now in
    let n = c.as_chunks.ensures.front_len in
    let t = c.loop-i-test.true in
    rw (c.octet_from.ensures, ← pair_at a.text.now c.as_chunks.result.0.now k.i _ c.as_chunks.ensures.front t, k.invariant)
    (overlay-step (octets_in a.text.now) a.out.now k.i (omega arith))

pub returns : goal.returns
unfolding octets_read
returns c =
    let k = c.loop-i in
    let a = c.args in
    let l = length_in a.text.now in
    let n = c.as_chunks.ensures.front_len in
    let t = c.loop-i-test.false in
    let e = rw c.as_chunks.ensures.back_len at (sym c.if-not-is_empty.ensures) in
    let h : c.all.result ≡ list_all is_hex a.text.now
    = all_from_yields_List is_hex _ _ _ c.all.ensures.ran (YieldsList-from_slice a.text.now cc) (λ x b q k. search rules) in
    rw (e, le-ltb _ _ (rw n at c.if-out-pairs.false), ← every_all is_hex a.text.now, ← h, c.if-not-all.false, n, k.invariant, overlay-done (octets_in a.text.now) a.out.now k.i (omega arith))
