use Rattle.std.proofs.Common.{◌∙◌, take_all}
use Rattle.base_numerals.specs.Laid.{laid_on, laid_none}
use Rattle.base_numerals.specs.Hex.{hex_of, hex_more}
use Rattle.base_numerals.proofs.put_hex.Goals as goal

pub loop-x-init : goal.loop-x-init
unfolding hex_of
loop-x-init c = rw c.min-p.ensures (laid_none c.args.at c.args.out.now)

pub loop-x-preserved : goal.loop-x-preserved
loop-x-preserved c =
    rw (hex_more c.args.octets.now c.loop-x.x-index 0 c.loop-x-test.true, ← c.glyph.ensures, ← c.glyph-in-loop-x.ensures)
    (c.put-p-in-loop-x.ensures ∙ laid_on _ _ _ _ _ _ c.put-p.ensures ∙ laid_on _ _ _ _ _ _ c.loop-x.invariant)

pub returns : goal.returns
returns c = rw (take_all c.loop-x.x-index c.args.octets.now c.loop-x-test.false) at c.loop-x.invariant
