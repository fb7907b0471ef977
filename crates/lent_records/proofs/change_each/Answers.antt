use Rattle.std.proofs.Common.{sym, arith}
use Rattle.base_octets.specs.Places.{map_none, map-step, first_part}
use Rattle.unit_table.specs.Become.{changed_by}
use Rattle.lent_records.proofs.change_each.Goals as goal

pub loop-s-init : goal.loop-s-init
loop-s-init c = sym (map_none (changed_by c.args.c) _)

pub loop-s-preserved : goal.loop-s-preserved
loop-s-preserved c = rw (c.changed_by.ensures, c.loop-s.invariant) (map-step (changed_by c.args.c) c.loop-s.s-index _ _)

pub returns : goal.returns
returns c = rw c.loop-s.invariant (first_part (changed_by c.args.c) c.args.n c.min-m.result c.loop-s.s-index c.args.recs.now c.min-m.ensures (omega arith))
