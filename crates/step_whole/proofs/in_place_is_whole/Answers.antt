use Rattle.step_whole.proofs.Whole.{control_same}
use Rattle.step_whole.proofs.in_place_is_whole.Goals as goal

pub returns : goal.returns
returns c = control_same
