use mathlib.Core.Path.{sym}
use native.Mathlib.Omega.{arith}
use Rattle.std.proofs.lemmas.Result.{err_from_is_err_and}
use Rattle.base_octets.specs.Refused.{refused_some}
use Rattle.wire_user.specs.User.{user_refused}
use Rattle.wire_user.proofs.payload.Goals as goal

pub returns-in_err-refusal : goal.returns-in_err-refusal
returns-in_err-refusal c = let p = err_from_is_err_and c.from_residual.result c.from_residual.ensures.1 in
    let e = rw c.in_err-refusal.was at c.refusal.ensures in
    let s = refused_some c.in_err-refusal.field-0.0 in
    rw (p.1, p.2, user_refused c.args.d.now (λ z. absurd (omega arith))) (sym e)
