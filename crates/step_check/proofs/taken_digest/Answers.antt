use Rattle.unit_tunnel.specs.Numbering.{last_use}
use Rattle.step_check.specs.Digest.{spoilt}
use Rattle.step_check.specs.Ways.{taken_unheld, taken_live, taken_due, taken_odd, taken-unfit, taken_again, taken_waits, rests_yes, rests_no}
use Rattle.unit_session.specs.OwnRequest.{last_number}
use Rattle.step_check.proofs.taken_digest.Goals as goal

pub returns-then-not-counted-held : goal.returns-then-not-counted-held
unfolding spoilt last_use last_number
returns-then-not-counted-held c = taken_unheld c.args.b c.args.s c.held-held.result c.held-held.ensures c.if-not-counted-held.true-raw

pub returns-then-s-eq-LIVE : goal.returns-then-s-eq-LIVE
unfolding last_use last_number
returns-then-s-eq-LIVE c = rw (c.key-key.ensures, c.from.ensures) (taken_live c.args.b c.args.s c.held-held.result c.held-held.ensures c.if-not-counted-held.false-raw (rests_yes _ (rw (c.from-2.ensures, c.from-3.ensures, c.from-4.ensures) at c.if-under_way-eq0.true)) c.if-s-eq-LIVE.true)

pub returns-then-s-eq-CLOSING : goal.returns-then-s-eq-CLOSING
unfolding last_use last_number
returns-then-s-eq-CLOSING c = rw (c.key-key.ensures, c.from.ensures) (taken_due c.args.b c.args.s c.held-held.result c.held-held.ensures c.if-not-counted-held.false-raw (rests_yes _ (rw (c.from-2.ensures, c.from-3.ensures, c.from-4.ensures) at c.if-under_way-eq0.true)) c.if-s-eq-LIVE.false c.if-s-eq-CLOSING.true)

pub returns-then-under_way-eq0 : goal.returns-then-under_way-eq0
unfolding spoilt last_use last_number
returns-then-under_way-eq0 c = taken_odd c.args.b c.args.s c.held-held.result c.held-held.ensures c.if-not-counted-held.false-raw c.if-s-eq-LIVE.false c.if-s-eq-CLOSING.false

pub returns-then-not-fits-s : goal.returns-then-not-fits-s
unfolding spoilt last_use last_number
returns-then-not-fits-s c = taken-unfit c.args.b c.args.s c.held-held.result c.held-held.ensures c.if-not-counted-held.false-raw (rests_no _ (rw (c.from-2.ensures, c.from-3.ensures, c.from-4.ensures) at c.if-under_way-eq0.false)) (rw c.fits-fits.ensures at c.if-not-fits-s.true-raw)

pub returns-then-own-eq0 : goal.returns-then-own-eq0
unfolding last_use last_number
returns-then-own-eq0 c = rw (c.key-key.ensures, c.from.ensures) (taken_again c.args.b c.args.s c.held-held.result c.held-held.ensures c.if-not-counted-held.false-raw (rests_no _ (rw (c.from-2.ensures, c.from-3.ensures, c.from-4.ensures) at c.if-under_way-eq0.false)) (rw c.fits-fits.ensures at c.if-not-fits-s.false-raw) c.if-own-eq0.true)

pub returns : goal.returns
unfolding last_use last_number
returns c = rw (c.key-key.ensures, c.from.ensures) (taken_waits c.args.b c.args.s c.held-held.result c.held-held.ensures c.if-not-counted-held.false-raw (rests_no _ (rw (c.from-2.ensures, c.from-3.ensures, c.from-4.ensures) at c.if-under_way-eq0.false)) (rw c.fits-fits.ensures at c.if-not-fits-s.false-raw) c.if-own-eq0.false)
