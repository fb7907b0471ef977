-- The node, the records, the store, the store and the reply buffer go to the call, and its answer is handed on.
use Rattle.promise_hosts.specs.Known.{line_known}
use Rattle.promise_hosts.proofs.prints.Goals as goal

pub returns : goal.returns
returns c =
    line_known c.args.node c.args.recs.now c.args.store.now c.grugavorn_line.result c.args.place c.args.reply.now c.grugavorn_line.new.reply
    c.grugavorn_line.ensures
