-- The datagram's type says that it is made of octets; then all goes to the call, and its answer is handed on.
use Rattle.promise_hosts.specs.Known.{control_known}
use Rattle.promise_hosts.proofs.takes_control.Goals as goal

pub returns : goal.returns
returns c =
    control_known c.grugavorn_control.result c.args.node c.args.recs.now c.grugavorn_control.new.recs c.args.store.now c.grugavorn_control.new.store
    c.args.d.now c.args.reply.now c.grugavorn_control.new.reply c.octets_by_type.ensures c.grugavorn_control.ensures
