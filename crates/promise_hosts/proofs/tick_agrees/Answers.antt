-- The call is made twice.
use Rattle.std.specs.Prelude.{ℕ, List, []}
use Rattle.unit_session.specs.declared.Session.{Session}
use Rattle.call_store.specs.Stored.{tick_stored}
use Rattle.promise_hosts.specs.Agreement.{agrees_stored}
use Rattle.promise_hosts.proofs.tick_agrees.Goals as goal

pub returns : goal.returns
returns c =
    agrees_stored (λ (l : List Session). λ (w : List (List ℕ)). λ (x : List ℕ). tick_stored c.args.node l w) c.args.recs.now c.args.other.now
    c.grugavorn_tick-a.new.recs c.grugavorn_tick-b.new.recs c.args.store.now c.args.kept.now c.grugavorn_tick-a.new.store
    c.grugavorn_tick-b.new.store [] [] [] [] c.grugavorn_tick-a.result c.grugavorn_tick-b.result c.grugavorn_tick-a.ensures
    c.grugavorn_tick-b.ensures
