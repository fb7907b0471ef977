use mathlib.Core.Path.{◌≡◌}
use mathlib.Core.Bool.{true, false}
use borrow.Author.Tests.{not-true, not-false, lt-ltb, le-ltb}
use Rattle.call_store.specs.Steps.{is_found, wish_of}
use Rattle.call_store.proofs.wish_of.Goals as goal

pub returns-then-not-ask : goal.returns-then-not-ask
unfolding wish_of
returns-then-not-ask c = let k : c.args.ask.sound ≡ false = not-true _ c.if-not-ask.true in rw k

pub returns-then-ask-store : goal.returns-then-ask-store
unfolding wish_of is_found
returns-then-ask-store c = let k : c.args.ask.sound ≡ true = not-false _ c.if-not-ask.false in rw (k, lt-ltb _ _ c.if-ask-store.true, c.number_in-number.ensures)

pub returns : goal.returns
unfolding wish_of is_found
returns c = let k : c.args.ask.sound ≡ true = not-false _ c.if-not-ask.false in rw (k, le-ltb _ _ c.if-ask-store.false)
