-- The call is made twice.
use Rattle.std.specs.Prelude.{ℕ, List}
use Rattle.unit_session.specs.declared.Session.{Session}
use Rattle.call_store.specs.Stored.{line_stored}
use Rattle.promise_hosts.proofs.Agreement.{agrees}
use Rattle.promise_hosts.proofs.line_agrees.Goals as goal

pub returns : goal.returns
returns c =
    agrees (λ (l : List Session). λ (x : List ℕ). line_stored c.args.node l c.args.store.now c.args.place x) c.args.recs.now c.args.recs.now
    c.args.recs.now c.args.recs.now c.args.reply.now c.args.buffer.now c.grugavorn_line-a.new.reply c.grugavorn_line-b.new.reply
    c.grugavorn_line-a.result c.grugavorn_line-b.result c.grugavorn_line-a.ensures c.grugavorn_line-b.ensures
