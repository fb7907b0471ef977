use Rattle.std.proofs.Common.{◌∙◌, arith}
use Rattle.unit_tunnel.specs.Numbering.{places}
use Rattle.call_own.specs.Outcome.{least_reply}
use Rattle.bench_unit.specs.State.{ran_of}
use Rattle.bench_unit.specs.Whole.{place_room}
use Rattle.bench_run.specs.Whole.{line_room}
use Rattle.bench.specs.Room.{most_made, room_emitted, run-placed, run-room}
use Rattle.bench.proofs.run_line.Goals as goal

pub invariant_of-desk : goal.invariant_of-desk
invariant_of-desk g c = let r = c.args.desk.now.run in let h = c.args.desk.now.room in record {
  room = room_emitted _ _ _ c.emit.ensures.made c.emit.ensures.out
      (run-room r.bench r.recs.now r.store.now r.out.now h.0 h.1 c.args.desk.now.many c.args.line.now (ran_of c.start_anew.new.run) (ran_of c.take_line.new.run)
      c.start_anew.ensures.anew c.take_line.ensures.taken);
}

pub invariant_of-desk-else-desk-gt-MOST_MADE : goal.invariant_of-desk-else-desk-gt-MOST_MADE
unfolding most_made line_room place_room least_reply places
invariant_of-desk-else-desk-gt-MOST_MADE g c = let r = c.args.desk.now.run in let h = c.args.desk.now.room in record {
  room = (
    omega arith,
    run-room r.bench r.recs.now r.store.now r.out.now h.0 h.1 c.args.desk.now.many c.args.line.now (ran_of c.start_anew.new.run) (ran_of c.take_line.new.run)
        c.start_anew.ensures.anew c.take_line.ensures.taken,
  );
}

pub returns-in_err-emit-clause-prints : goal.returns-in_err-emit-clause-prints
returns-in_err-emit-clause-prints g c = let r = c.args.desk.now.run in let h = c.args.desk.now.room in
    c.emit.ensures.out ∙ run-placed r.bench r.recs.now r.store.now r.out.now h.0 h.1 c.args.desk.now.many c.args.line.now (ran_of c.start_anew.new.run) (ran_of c.take_line.new.run)
    c.start_anew.ensures.anew c.take_line.ensures.taken

pub returns-in_ok-emit-clause-prints : goal.returns-in_ok-emit-clause-prints
returns-in_ok-emit-clause-prints g c = let r = c.args.desk.now.run in let h = c.args.desk.now.room in
    c.emit.ensures.out ∙ run-placed r.bench r.recs.now r.store.now r.out.now h.0 h.1 c.args.desk.now.many c.args.line.now (ran_of c.start_anew.new.run) (ran_of c.take_line.new.run)
    c.start_anew.ensures.anew c.take_line.ensures.taken

pub returns-else-desk-gt-MOST_MADE-clause-prints : goal.returns-else-desk-gt-MOST_MADE-clause-prints
returns-else-desk-gt-MOST_MADE-clause-prints g c = let r = c.args.desk.now.run in let h = c.args.desk.now.room in
    run-placed r.bench r.recs.now r.store.now r.out.now h.0 h.1 c.args.desk.now.many c.args.line.now (ran_of c.start_anew.new.run) (ran_of c.take_line.new.run)
    c.start_anew.ensures.anew c.take_line.ensures.taken
