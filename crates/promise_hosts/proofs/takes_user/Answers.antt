-- The node, the records, the store, the datagram and the reply buffer go to the call, and its answer is handed on.
use Rattle.promise_hosts.specs.Known.{user_known}
use Rattle.promise_hosts.proofs.takes_user.Goals as goal

pub returns : goal.returns
returns c =
    user_known c.args.node c.args.recs.now c.args.store.now c.grugavorn_user.result c.args.d.now c.args.reply.now c.grugavorn_user.new.reply
    c.grugavorn_user.ensures
