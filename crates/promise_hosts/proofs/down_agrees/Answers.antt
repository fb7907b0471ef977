-- The call is made twice.
use Rattle.std.specs.Prelude.{ℕ, List}
use Rattle.call_store.specs.Stored.{down_stored}
use Rattle.promise_hosts.specs.Agreement.{agrees_written}
use Rattle.promise_hosts.proofs.down_agrees.Goals as goal

pub returns : goal.returns
returns c =
    agrees_written (λ (x : List ℕ). down_stored c.args.node c.args.recs.now c.args.store.now c.args.packet.now x) c.args.out.now c.args.buffer.now
    c.grugavorn_down-a.new.out c.grugavorn_down-b.new.out c.grugavorn_down-a.result c.grugavorn_down-b.result
    c.grugavorn_down-a.ensures c.grugavorn_down-b.ensures
