use Rattle.call_down.specs.OneRecord.{place_for}
use Rattle.call_down.proofs.place_for.Goals as goal

pub returns : goal.returns
unfolding place_for
returns c = rw (← c.destination_of.ensures) c.place_of.ensures
