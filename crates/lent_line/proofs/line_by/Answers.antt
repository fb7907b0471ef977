use mathlib.Core.Bool.{true, false}
use mathlib.Core.Path.{◌≡◌}
use borrow.Author.Tests.{lt-ltb, le-ltb}
use Rattle.unit_tunnel.specs.Numbering.{places}
use Rattle.call_own.specs.Outcome.{least_reply}
use Rattle.call_line.specs.Line.{line_by}
use Rattle.lent_line.proofs.line_by.Goals as goal

pub returns-then-reply-lt-LEAST_REPLY : goal.returns-then-reply-lt-LEAST_REPLY
unfolding line_by least_reply
returns-then-reply-lt-LEAST_REPLY c = rw (lt-ltb _ _ c.if-reply-lt-LEAST_REPLY.true, c.bare.ensures)

pub returns-then-not-kept : goal.returns-then-not-kept
unfolding line_by least_reply
returns-then-not-kept c = let k : c.args.kept ≡ false = c.if-not-kept.true in
    rw (le-ltb _ _ c.if-reply-lt-LEAST_REPLY.false, k, c.bare-then-not-kept.ensures)

pub returns-then-place-ge-PLACES : goal.returns-then-place-ge-PLACES
unfolding line_by least_reply places
returns-then-place-ge-PLACES c = let k : c.args.kept ≡ true = c.if-not-kept.false in
    rw (le-ltb _ _ c.if-reply-lt-LEAST_REPLY.false, k, le-ltb _ _ c.if-place-ge-PLACES.true, c.bare-then-place-ge-PLACES.ensures)

pub returns : goal.returns
unfolding line_by least_reply places
returns c = let k : c.args.kept ≡ true = c.if-not-kept.false in
    rw (le-ltb _ _ c.if-reply-lt-LEAST_REPLY.false, k, lt-ltb _ _ c.if-place-ge-PLACES.false, ← c.put_line-size.ensures)
