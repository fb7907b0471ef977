-- The call is made twice.
use Rattle.std.specs.Prelude.{ℕ, List, length}
use Rattle.call_user.specs.Parcel.{parcel_of}
use Rattle.call_store.specs.Stored.{user_stored}
use Rattle.promise_hosts.specs.Agreement.{agrees_handed}
use Rattle.promise_hosts.proofs.user_agrees.Goals as goal

pub returns : goal.returns
returns c =
    agrees_handed (λ (x : List ℕ). parcel_of (length c.args.d.now) (user_stored c.args.node c.args.recs.now c.args.store.now c.args.d.now x))
    c.args.reply.now c.args.buffer.now c.grugavorn_user-a.new.reply c.grugavorn_user-b.new.reply c.grugavorn_user-a.result
    c.grugavorn_user-b.result c.grugavorn_user-a.ensures c.grugavorn_user-b.ensures
