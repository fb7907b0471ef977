-- The payload's length gives its place in the datagram.
use native.Mathlib.Omega.{arith}
use Rattle.wire_user.specs.Part.{rest_length}
use Rattle.lent_user.specs.User.{parcel_is, stored_within}
use Rattle.lent_user.proofs.grugavorn_user.Goals as goal

pub overflow_sub-result : goal.overflow_sub-result
overflow_sub-result c = let l = rest_length _ _ _ c.take_user-taken.ensures.1 in omega arith

pub returns : goal.returns
returns c = let a = c.args in
    parcel_is _ _ _ _ _ _ _ (stored_within a.node a.recs.now a.store.now a.d.now a.reply.now) c.take_user-taken.ensures.0 c.take_user-taken.ensures.1
