use mathlib.Core.Path.{◌≡◌, refl}
use native.Mathlib.Omega.{arith}
use Rattle.std.proofs.lemmas.Grind.{common_steps}
use Rattle.base_octets.specs.Refused.{refused_some}
use Rattle.call_own.specs.Outcome.{least_reply}
use Rattle.wire_user.specs.User.{user_of}
use Rattle.call_user.specs.OneRecord.{done-short, done_broken, done_unread, done_up, done_down}
use Rattle.call_user.proofs.done.Goals as goal

pub returns-then-reply-lt-LEAST_REPLY : goal.returns-then-reply-lt-LEAST_REPLY
unfolding least_reply
returns-then-reply-lt-LEAST_REPLY c = let a = c.args in let n = c.nothing_up.ensures in
    rw (done-short a.kept a.node a.s a.d.now a.reply.now c.if-reply-lt-LEAST_REPLY.true, n.number, n.place, n.size) (refl, n.payload)

pub returns-then-not-kept : goal.returns-then-not-kept
unfolding least_reply
returns-then-not-kept c = let a = c.args in let n = c.nothing_up-then-not-kept.ensures in
    rw (done_broken a.kept a.node a.s a.d.now a.reply.now c.if-reply-lt-LEAST_REPLY.false c.if-not-kept.true, n.number, n.place, n.size) (refl, n.payload)

pub returns-in-Err : goal.returns-in-Err
unfolding least_reply
returns-in-Err c = let a = c.args in let n = c.nothing_up-in-Err.ensures in
    let e = c.in-Err.ensures in
    let s = refused_some c.in-Err.why in
    let x : (user_of a.d.now).number ≡ 0 → ⊥ = λ z. absurd (omega arith) in
    rw (done_unread a.kept a.node a.s a.d.now a.reply.now c.if-reply-lt-LEAST_REPLY.false c.if-not-kept.false x, n.number, n.place, n.size, c.into.ensures, e) (refl, n.payload)

pub returns-in-Up : goal.returns-in-Up
unfolding least_reply
returns-in-Up c = let a = c.args in
    let e = c.in-Ok.ensures in
    rw (done_up a.kept a.node a.s a.d.now a.reply.now c.if-reply-lt-LEAST_REPLY.false c.if-not-kept.false e.0 _ c.of.ensures _ _ _ _ _ c.in-Up.ensures refl) (refl, e.1)

pub returns-in-Answered : goal.returns-in-Answered
unfolding least_reply
returns-in-Answered c = let a = c.args in let n = c.nothing_up-in-Answered.ensures in
    let e = c.in-Ok.ensures in
    rw (done_down a.kept a.node a.s a.d.now a.reply.now c.if-reply-lt-LEAST_REPLY.false c.if-not-kept.false e.0 _ c.of.ensures _ _ _ _ _ c.in-Answered.ensures refl, n.number, n.place, n.size) (refl, grind (arith, common_steps))
