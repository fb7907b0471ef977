use Rattle.promise_demands.proofs.Demands.{demand_2}
use Rattle.promise_demands.proofs.reading_and_writing_follow_the_standards.Goals as goal

pub returns : goal.returns
returns c = demand_2
