use Rattle.wire_header.specs.Types.{flag_of, bare_types, tunnel_types, not_taken}
use Rattle.base_octets.specs.Places.{value_at}
use borrow.Author.Rules.{rules}
use Rattle.wire_header.proofs.flag_of.Goals as goal

pub returns : goal.returns
unfolding flag_of bare_types tunnel_types not_taken
returns c = rw c.from.ensures (value_at flag_of 256 c.args.kind 0 (search rules))
