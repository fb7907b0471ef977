-- The rules of one record, test by test: what is left to ask of a live record, and of a closing one.
-- Assumes nothing.
use Rattle.std.specs.Prelude.{◌≡◌, ℕ, Bool, true, false, not, ◌&&◌, ◌==◌, ◌≢◌, nat_le, refl}
use Rattle.std.proofs.Common.{sym, ◌∙◌, arith, eq-eqb, ne_eqb, le-leb, leb-true}
use Rattle.base_octets.specs.Choice.{split, impossible}
use Rattle.unit_session.specs.declared.Session.{Session}
use Rattle.unit_session.specs.declared.Bounds.{Bounds}
use Rattle.unit_session.specs.OwnRequest.{last_number, request_ok}
use Rattle.unit_session.specs.Session.{is_closing, phase_ok}

zero_most : (x : ℕ) → nat_le x 0 ≡ (x == 0)
zero_most x =
    split (nat_le x 0)
    (λ e. let z = leb-true x 0 e in e ∙ sym (eq-eqb x 0 (omega arith)))
    (λ e. e ∙ sym (ne_eqb x 0 (λ z. impossible (sym e ∙ le-leb x 0 (omega arith)))))

-- a live place has sent nothing and waits for nothing
pub live_phase : (b : Bounds) (s : Session) → s.state ≡ 1 → phase_ok b s ≡ (nat_le s.own.number last_number && s.own.sends == 0 && s.own.timer == 0)
unfolding phase_ok request_ok is_closing
live_phase b s h =
    rw (h, zero_most s.own.timer)
    (split (nat_le s.own.number last_number)
    (λ n. split (s.own.sends == 0)
    (λ e. split (s.own.timer == 0) (λ f. rw (n, e, f)) (λ f. rw (n, e, f)))
    (λ e. rw (n, e) (shut (nat_le s.own.timer b.resend && nat_le s.own.sends b.sends && not (s.own.sends == b.sends && s.own.timer == 0)))))
    (λ n. rw n))
  where
    shut : (a : Bool) → (a && false) ≡ false
    shut true = refl
    shut false = refl

pub other_phase : (b : Bounds) (s : Session) → (s.state ≢ 1) → phase_ok b s ≡ (request_ok 0 b.resend b.sends s.own && is_closing s)
unfolding phase_ok
other_phase b s h = rw (ne_eqb s.state 1 h) (split (is_closing s) (λ e. rw e) (λ e. rw e))
