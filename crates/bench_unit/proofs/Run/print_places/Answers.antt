use Rattle.std.proofs.Common.{ap, refl, take, arith}
use Rattle.unit_tunnel.specs.Numbering.{places}
use Rattle.bench_unit.specs.State.{beside, ran_of, lent_on, with_made, printed_by}
use Rattle.bench_unit.specs.Ended.{live_shown, places_to, places_next, places_end, sessions_are}
use Rattle.bench_unit.proofs.Run.print_places.Goals as goal

pub loop-place-init : goal.loop-place-init
unfolding live_shown places_to with_made places
loop-place-init c = let r = c.args.self.now in record {
  printed = rw (← sessions_are (take places r.recs.now), ← rw c.front.ensures at c.sessions-n.ensures)
      (ap (beside r.recs.now r.store.now) (printed_by _ (λ made. with_made made r.bench) _ _ _ _ c.put_live-self.ensures));
  lent = (refl, refl, refl, refl, refl, omega arith);
}

pub loop-place-preserved : goal.loop-place-preserved
loop-place-preserved c = let r = c.args.self.now in record {
  printed = places_next r.recs.now r.store.now (ran_of c.loop-place.self) c.loop-place.place _ (ran_of c.print_place.new.self) c.loop-place.invariant.printed c.print_place.ensures.printed;
  lent = lent_on r c.loop-place.self c.print_place.new.self c.loop-place.invariant.lent c.print_place.ensures.lent;
}

pub returns-clause-printed : goal.returns-clause-printed
unfolding places
returns-clause-printed c = let r = c.args.self.now in
    places_end r.recs.now r.store.now (ran_of c.loop-place.self) c.loop-place.place r.bench r.out.now c.loop-place.invariant.printed (omega (arith, c.loop-place.auto.place-end))
