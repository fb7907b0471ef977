use Rattle.std.proofs.Common.{◌≡◌, take}
use Rattle.unit_tunnel.specs.Numbering.{places}
use Rattle.unit_table.specs.Room.{sessions}
use Rattle.bench_unit.specs.State.{ran_of, beside, SameLent}
use Rattle.bench_unit.specs.Ended.{places_to, live_shown}
use Rattle.bench_unit.proofs.Run.print_places.Given as goal

-- The live count and the lines of the first places are printed.
abbrev pub invariant-loop-place : goal.invariant-loop-place
invariant-loop-place l = let r = l.fn.self in record {
  printed : ran_of l.self ≡ beside r.recs.now r.store.now
      (places_to r.recs.now r.store.now l.place (live_shown (sessions (take places r.recs.now)) r.bench r.out.now));
  lent : SameLent r l.self;
}
