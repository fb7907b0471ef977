use Rattle.std.proofs.Common.{sym, ◌∙◌}
use Rattle.call_down.specs.OneRecord.{down_by}
use Rattle.call_down.proofs.down_by.Goals as goal

pub returns-then-not-kept : goal.returns-then-not-kept
unfolding down_by
returns-then-not-kept c = rw (c.if-not-kept.true, c.bare.ensures)

pub returns-then-not-whole_packet : goal.returns-then-not-whole_packet
unfolding down_by
returns-then-not-whole_packet c = rw (c.if-not-kept.false, sym c.whole_packet.ensures ∙ c.if-not-whole_packet.true, c.bare-then-not-whole_packet.ensures)

pub returns-then-free : goal.returns-then-free
unfolding down_by
returns-then-free c = rw (c.if-not-kept.false, sym c.whole_packet.ensures ∙ c.if-not-whole_packet.false, sym c.is_free-free.ensures ∙ c.if-free.true, c.bare-then-free.ensures)

pub returns : goal.returns
unfolding down_by
returns c = rw (c.if-not-kept.false, sym c.whole_packet.ensures ∙ c.if-not-whole_packet.false, sym c.is_free-free.ensures ∙ c.if-free.false) c.down_on.ensures
