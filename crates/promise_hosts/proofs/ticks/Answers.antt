-- The node, the records and the store go to the call, and its answer is handed on.
use Rattle.promise_hosts.specs.Known.{tick_known}
use Rattle.promise_hosts.proofs.ticks.Goals as goal

pub returns : goal.returns
returns c =
    tick_known c.grugavorn_tick.result c.args.node c.args.recs.now c.grugavorn_tick.new.recs c.args.store.now c.grugavorn_tick.new.store
    c.grugavorn_tick.ensures
