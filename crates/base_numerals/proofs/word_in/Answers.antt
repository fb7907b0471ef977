use Rattle.std.proofs.Common.{refl, ◌∙◌}
use borrow.Author.Tests.{ne_eqb}
use Rattle.base_numerals.specs.Hex.{word_in, word_none, word_read}
use Rattle.base_numerals.proofs.word_in.Goals as goal

pub returns-then-text-ne8 : goal.returns-then-text-ne8
unfolding word_in
returns-then-text-ne8 c = rw (ne_eqb _ _ c.if-text-ne8.true)

pub returns-in_err-read_octets : goal.returns-in_err-read_octets
returns-in_err-read_octets c = c.from_residual.ensures ∙ word_none _ _ _ c.if-text-ne8.false refl c.in_err-read_octets.ensures

pub returns : goal.returns
returns c = rw c.from_be_bytes.ensures (word_read _ _ _ c.if-text-ne8.false refl _ c.in_ok-read_octets.ensures)
