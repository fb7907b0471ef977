-- The call is made twice.
use Rattle.std.specs.Prelude.{ℕ, List}
use Rattle.unit_session.specs.declared.Session.{Session}
use Rattle.call_store.specs.Stored.{send_stored}
use Rattle.promise_hosts.proofs.Agreement.{agrees}
use Rattle.promise_hosts.proofs.send_agrees.Goals as goal

pub returns : goal.returns
returns c =
    agrees (λ (l : List Session). λ (x : List ℕ). send_stored c.args.node l c.args.store.now x) c.args.recs.now c.args.other.now
    c.grugavorn_send-a.new.recs c.grugavorn_send-b.new.recs c.args.reply.now c.args.buffer.now c.grugavorn_send-a.new.reply
    c.grugavorn_send-b.new.reply c.grugavorn_send-a.result c.grugavorn_send-b.result c.grugavorn_send-a.ensures
    c.grugavorn_send-b.ensures
