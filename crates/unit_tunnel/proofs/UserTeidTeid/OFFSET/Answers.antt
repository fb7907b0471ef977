use Rattle.std.proofs.Common.{refl}
use Rattle.unit_tunnel.specs.Numbering.{user_offset}
use Rattle.unit_tunnel.proofs.UserTeidTeid.OFFSET.Goals as goal

pub returns : goal.returns
unfolding user_offset
returns c = refl
