-- The row has the numbers of the first i records, and zeros behind them.
use Rattle.std.proofs.Common.{◌≡◌, ℕ, map, replicate}
use Rattle.std.specs.Fn.{FnReturnsAt}
use Rattle.unit_tunnel.specs.Numbering.{places}
use Rattle.unit_session.specs.declared.Session.{Session}
use Rattle.lent_records.specs.Mixed.{mixed}
use Rattle.lent_check.proofs.read.Given as goal

abbrev pub invariant-loop-i : goal.invariant-loop-i
invariant-loop-i g l = (h : Session → ℕ) → ((s : Session) (n : ℕ) → FnReturnsAt g.F.Fn l.f s n → n ≡ h s) → l.t ≡ mixed l.i (map h l.recs) (replicate places 0)
