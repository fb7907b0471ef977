use Rattle.std.proofs.Common.{sym, arith}
use Rattle.base_octets.specs.Places.{map_none, map-step, first_part}
use Rattle.unit_store.specs.Row.{life_taken, life_in}
use Rattle.unit_store.proofs.take_life.Goals as goal

pub loop-r-init : goal.loop-r-init
loop-r-init c = sym (map_none (life_taken c.args.all) _)

pub loop-r-preserved : goal.loop-r-preserved
unfolding life_taken life_in
loop-r-preserved c = rw (c.life_after.ensures, c.loop-r.invariant) (map-step (life_taken c.args.all) c.loop-r.r-index _ _)

pub returns : goal.returns
returns c = rw c.loop-r.invariant (first_part (life_taken c.args.all) c.args.n c.min-m.result c.loop-r.r-index c.args.rows.now c.min-m.ensures (omega arith))
