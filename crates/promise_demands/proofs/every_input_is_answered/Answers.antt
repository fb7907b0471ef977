use Rattle.promise_demands.proofs.Demands.{demand_1}
use Rattle.promise_demands.proofs.every_input_is_answered.Goals as goal

pub returns : goal.returns
returns c = demand_1
