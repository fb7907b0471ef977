-- The call is made twice.
use Rattle.std.specs.Prelude.{ℕ, List, []}
use Rattle.unit_session.specs.declared.Session.{Session}
use Rattle.call_store.specs.Stored.{close_stored}
use Rattle.promise_hosts.proofs.Agreement.{agrees}
use Rattle.promise_hosts.proofs.close_agrees.Goals as goal

pub returns : goal.returns
returns c =
    agrees (λ (l : List Session). λ (x : List ℕ). close_stored c.args.node l c.args.store.now c.args.place) c.args.recs.now c.args.other.now
    c.grugavorn_close-a.new.recs c.grugavorn_close-b.new.recs [] [] [] [] c.grugavorn_close-a.result c.grugavorn_close-b.result
    c.grugavorn_close-a.ensures c.grugavorn_close-b.ensures
