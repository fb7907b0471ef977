use Rattle.promise_demands.proofs.Demands.{demand_3}
use Rattle.promise_demands.proofs.a_rented_place_stays_rented.Goals as goal

pub returns : goal.returns
returns c = demand_3
