use Rattle.std.proofs.Common.{◌≡◌, sym, ◌∙◌, ◌+◌, ◌-◌, arith}
use Rattle.unit_tunnel.specs.Numbering.{places}
use Rattle.step_keys.specs.Unclaimed.{among_hit, among_on, among_end}
use Rattle.step_keys.proofs.free_among.Goals as goal

pub returns-then-unclaimed : goal.returns-then-unclaimed
unfolding places
returns-then-unclaimed c = let k = c.loop in let a = c.args in
    sym (k.invariant ∙ among_hit (places + 2 - k.counter) k.k a.echo a.keys.now (omega arith) (sym c.unclaimed.ensures ∙ c.if-unclaimed.true))

pub loop-preserved : goal.loop-preserved
unfolding places
loop-preserved c = let k = c.loop in let a = c.args in
    let e : places + 2 - k.counter - 1 ≡ places + 2 - (k.counter + 1) = omega arith in
    k.invariant ∙ (among_on (places + 2 - k.counter) k.k a.echo a.keys.now (omega arith) (sym c.unclaimed.ensures ∙ c.if-unclaimed.false) ∙ rw (c.after-k.ensures, e))

pub returns : goal.returns
unfolding places
returns c = let k = c.loop in let a = c.args in
    let e : places + 2 - k.counter ≡ 0 = omega arith in
    sym (k.invariant ∙ rw e (among_end k.k a.echo a.keys.now))
