use Rattle.step_check.specs.Digest.{due_bits}
use Rattle.step_check.proofs.due_in.Goals as goal

pub returns : goal.returns
returns c = due_bits _
