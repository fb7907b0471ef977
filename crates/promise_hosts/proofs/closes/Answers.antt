-- The node, the records and the store go to the call, and its answer is handed on.
use Rattle.promise_hosts.specs.Known.{close_known}
use Rattle.promise_hosts.proofs.closes.Goals as goal

pub returns : goal.returns
returns c =
    close_known c.grugavorn_close.result c.args.node c.args.recs.now c.grugavorn_close.new.recs c.args.store.now c.args.place
    c.grugavorn_close.ensures
