use mathlib.Core.Path.{◌≡◌, sym, ◌∙◌}
use native.Mathlib.Omega.{arith}
use Rattle.base_octets.specs.Refused.{refused_some}
use Rattle.wire_user.specs.User.{user_of, user_none}
use Rattle.wire_user.specs.Part.{rest_length}
use Rattle.trial_readers.specs.Said.{said_nothing, said_header}
use Rattle.trial_readers.proofs.gpdu_read.Goals as goal

pub returns-in-Ok : goal.returns-in-Ok
returns-in-Ok c = let e = c.in-Ok.ensures in
    (rest_length _ _ _ e.1, (sym e.0, said_header c.args.d.now _ _ c.of.ensures c.said-what.ensures e.0))

pub returns-in-Err : goal.returns-in-Err
returns-in-Err c = let e = c.in-Err.ensures in
    let s = refused_some c.in-Err.why in
    let x : (user_of c.args.d.now).number ≡ 0 → ⊥ = λ z. absurd (omega arith) in
    let n = user_none c.args.d.now x in
    (omega arith, (c.into.ensures ∙ sym e, said_nothing c.args.d.now x))
