use Rattle.std.proofs.Common.{sym, ◌∙◌}
use borrow.Author.Tests.{lt-ltb, le-ltb}
use Rattle.call_store.specs.Steps.{is_found, kept_after, settled_of}
use Rattle.call_store.proofs.settled.Goals as goal

pub returns-then-all : goal.returns-then-all
unfolding settled_of
returns-then-all c = rw (c.if-all.true, c.take_life.ensures)

pub returns-in_default : goal.returns-in_default
unfolding settled_of
returns-in_default c = rw (c.if-all.false, sym c.told.ensures ∙ c.in_default.is)

pub returns-then-store-ask : goal.returns-then-store-ask
unfolding settled_of is_found kept_after
returns-then-store-ask c = rw (c.if-all.false, sym c.told.ensures ∙ c.in-Some.is, le-ltb _ _ c.if-store-ask.true, c.keep.ensures, c.row_of-row.ensures)

pub returns : goal.returns
unfolding settled_of is_found
returns c = rw (c.if-all.false, sym c.told.ensures ∙ c.in-Some.is, lt-ltb _ _ c.if-store-ask.false, c.lay.ensures.length, c.lay.ensures.octets)
