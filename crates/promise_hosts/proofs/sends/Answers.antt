-- The node, the records, the store, the store and the reply buffer go to the call, and its answer is handed on.
use Rattle.promise_hosts.specs.Known.{send_known}
use Rattle.promise_hosts.proofs.sends.Goals as goal

pub returns : goal.returns
returns c =
    send_known c.grugavorn_send.result c.args.node c.args.recs.now c.grugavorn_send.new.recs c.args.store.now c.args.reply.now
    c.grugavorn_send.new.reply c.grugavorn_send.ensures
