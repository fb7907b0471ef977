use Rattle.step_check.specs.Summary.{kept_but, from_counts}
use Rattle.unit_session.specs.OwnRequest.{last_number}
use Rattle.unit_tunnel.specs.Numbering.{places}
use Rattle.std.proofs.Common.{◌≡◌, true, false, ◌&&◌, eqb}
use Rattle.step_check.proofs.kept_but.Goals as goal

pub returns-then-not-planned-count : goal.returns-then-not-planned-count
unfolding kept_but places
returns-then-not-planned-count c = let a = c.args in let t : (c.accepted-planned.result && eqb a.count places && a.v.summary.good) ≡ false = c.if-not-planned-count.true in rw (rw c.accepted-planned.ensures at t)

pub returns : goal.returns
unfolding kept_but from_counts last_number places
returns c = let a = c.args in let t : (c.accepted-planned.result && eqb a.count places && a.v.summary.good) ≡ true = c.if-not-planned-count.false in
    rw (rw c.accepted-planned.ensures at t, c.within-shared.ensures, c.unpacked-live.ensures, c.fits-echoes.ensures)
