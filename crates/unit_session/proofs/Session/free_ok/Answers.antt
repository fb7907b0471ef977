use Rattle.std.proofs.Common.{arith, rules}
use Rattle.unit_tunnel.specs.Numbering.{last_use}
use Rattle.unit_session.specs.Wide.{free_blank, free_filled, free_used}
use Rattle.unit_session.proofs.Session.free_ok.Goals as goal

pub returns-then-self-from-eq0 : goal.returns-then-self-from-eq0
unfolding last_use
returns-then-self-from-eq0 c =
    free_blank c.args.self (search rules) (omega (arith, c.if-first-from.true, c.from.ensures, c.from-2.ensures, c.from-3.ensures))
    (rw (c.from-then-first-from.ensures, c.from-then-first-from-2.ensures) at c.if-self-from-eq0.true)

pub returns-else-self-from-eq0 : goal.returns-else-self-from-eq0
returns-else-self-from-eq0 c =
    free_filled c.args.self (search rules) (rw (c.from-then-first-from.ensures, c.from-then-first-from-2.ensures) at c.if-self-from-eq0.false)

pub returns-else-first-from : goal.returns-else-first-from
unfolding last_use
returns-else-first-from c =
    free_used c.args.self (search rules) (omega (arith, c.if-first-from.false, c.from.ensures, c.from-2.ensures, c.from-3.ensures))
