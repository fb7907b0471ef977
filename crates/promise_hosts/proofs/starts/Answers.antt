-- The caller's records, its store and the plan go to the call, and its answer is handed on.
use Rattle.promise_hosts.specs.Known.{fresh_known}
use Rattle.promise_hosts.proofs.starts.Goals as goal

pub returns : goal.returns
returns c =
    fresh_known c.grugavorn_fresh.result c.args.plan c.args.recs.now c.grugavorn_fresh.new.recs c.args.store.now c.grugavorn_fresh.new.store
    c.grugavorn_fresh.ensures
