use Rattle.std.proofs.Common.{refl}
use Rattle.unit_tunnel.specs.Numbering.{control_offset}
use Rattle.unit_tunnel.proofs.ControlTeidTeid.OFFSET.Goals as goal

pub returns : goal.returns
unfolding control_offset
returns c = refl
