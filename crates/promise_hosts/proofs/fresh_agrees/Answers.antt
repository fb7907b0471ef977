-- The call is made twice.
use Rattle.std.specs.Prelude.{ℕ, List, []}
use Rattle.unit_session.specs.declared.Session.{Session}
use Rattle.call_store.specs.Stored.{fresh_stored}
use Rattle.promise_hosts.specs.Agreement.{agrees_stored}
use Rattle.promise_hosts.proofs.fresh_agrees.Goals as goal

pub returns : goal.returns
returns c =
    agrees_stored (λ (l : List Session). λ (w : List (List ℕ)). λ (x : List ℕ). fresh_stored c.args.plan l w) c.args.recs.now c.args.other.now
    c.grugavorn_fresh-a.new.recs c.grugavorn_fresh-b.new.recs c.args.store.now c.args.kept.now c.grugavorn_fresh-a.new.store
    c.grugavorn_fresh-b.new.store [] [] [] [] c.grugavorn_fresh-a.result c.grugavorn_fresh-b.result c.grugavorn_fresh-a.ensures
    c.grugavorn_fresh-b.ensures
