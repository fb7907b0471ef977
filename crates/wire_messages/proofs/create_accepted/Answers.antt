use Rattle.base_octets.specs.BigEndian.{octets_of}
use Rattle.wire_messages.specs.Messages.{create_accepted, header_to, cause_field, tunnel_field, ebi_field}
use Rattle.wire_messages.proofs.create_accepted.Goals as goal

pub returns : goal.returns
unfolding create_accepted header_to cause_field tunnel_field ebi_field octets_of
returns c = rw (c.octets32-teid.ensures, c.octets32-seq.ensures, c.octets32-control.ensures, c.octets32-controladdr.ensures, c.octets32-address.ensures, c.octets32-user.ensures, c.octets32-useraddr.ensures) at c.laid.ensures
