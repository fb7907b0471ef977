-- The call is made twice.
use Rattle.std.specs.Prelude.{ℕ, List}
use Rattle.unit_session.specs.declared.Session.{Session}
use Rattle.call_store.specs.Stored.{control_stored}
use Rattle.promise_hosts.specs.Agreement.{agrees_stored}
use Rattle.promise_hosts.proofs.control_agrees.Goals as goal

pub returns : goal.returns
returns c =
    agrees_stored (λ (l : List Session). λ (w : List (List ℕ)). λ (x : List ℕ). control_stored c.args.node l w c.args.d.now x) c.args.recs.now
    c.args.other.now c.grugavorn_control-a.new.recs c.grugavorn_control-b.new.recs c.args.store.now c.args.kept.now
    c.grugavorn_control-a.new.store c.grugavorn_control-b.new.store c.args.reply.now c.args.buffer.now c.grugavorn_control-a.new.reply
    c.grugavorn_control-b.new.reply c.grugavorn_control-a.result c.grugavorn_control-b.result c.grugavorn_control-a.ensures
    c.grugavorn_control-b.ensures
