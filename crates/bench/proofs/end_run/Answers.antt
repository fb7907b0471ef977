use Rattle.bench_unit.specs.State.{ran_of}
use Rattle.bench.specs.Room.{room_emitted, end-placed, end-room}
use Rattle.std.proofs.Common.{◌∙◌}
use Rattle.bench.proofs.end_run.Goals as goal

pub invariant_of-desk : goal.invariant_of-desk
invariant_of-desk g c = let r = c.args.desk.now.run in let h = c.args.desk.now.room in record {
  room = room_emitted _ _ _ c.emit.ensures.made c.emit.ensures.out
      (end-room r.bench r.recs.now r.store.now r.out.now h.0 h.1 (ran_of c.end_of_input.new.self) c.end_of_input.ensures.ended);
}

pub returns-clause-prints : goal.returns-clause-prints
returns-clause-prints g c = let r = c.args.desk.now.run in let h = c.args.desk.now.room in
    c.emit.ensures.out ∙ end-placed r.bench r.recs.now r.store.now r.out.now h.0 h.1 (ran_of c.end_of_input.new.self) c.end_of_input.ensures.ended
