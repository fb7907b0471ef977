-- Two outcomes of a call that are equal to one definition at equal arguments are the same (Agreed, in specs/Agreement.antt).
-- Assumes nothing.
use Rattle.std.specs.Prelude.{ℕ, List, ◌≡◌}
use Rattle.std.proofs.Common.{sym, ◌∙◌, ap}
use Rattle.unit_session.specs.declared.Session.{Session}
use Rattle.call_own.specs.declared.Answer.{Answer}
use Rattle.call_own.specs.Outcome.{Outcome, outcome}
use Rattle.promise_hosts.specs.Agreement.{Agreed}

-- f is the call's definition, of the records and of the reply buffer
pub agrees : (f : List Session → List ℕ → Outcome) (l m l' m' : List Session) (x y x' y' : List ℕ) (a b : Answer)
    → outcome a l' x' ≡ f l x → outcome b m' y' ≡ f m y → Agreed l m x y (a, b) l' m' x' y'
unfolding Agreed
agrees f l m l' m' x y x' y' a b e g p q =
    let t : f l x ≡ f m y = rw (p, q) in
    let s : outcome a l' x' ≡ outcome b m' y' = e ∙ t ∙ sym g in
    record { answer = ap (λ (o : Outcome). o.answer) s; records = ap (λ (o : Outcome). o.table) s; reply = ap (λ (o : Outcome). o.reply) s }
