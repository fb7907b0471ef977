-- The node, the records, the store, the packet and the output buffer go to the call, and its answer is handed on.
use Rattle.promise_hosts.specs.Known.{down_known}
use Rattle.promise_hosts.proofs.takes_down.Goals as goal

pub returns : goal.returns
returns c =
    down_known c.args.node c.args.recs.now c.args.store.now c.grugavorn_down.result c.args.packet.now c.args.out.now c.grugavorn_down.new.out
    c.grugavorn_down.ensures
