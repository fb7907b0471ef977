-- That what specs/Examples.antt says holds, and what that rests on.
-- Assumes nothing.
use Rattle.std.specs.Prelude.{ℕ, true, ◌≡◌, refl}
use Rattle.base_octets.specs.Every.{every, every_rest}
use Rattle.base_octets.specs.Search.{first_of}
use Rattle.base_octets.specs.Same.{same_octets}
use Rattle.base_octets.specs.Sums.{sum_of}
use Rattle.base_octets.specs.BigEndian.{is_octet, number_of, number_from}
use Rattle.unit_tunnel.specs.Numbering.{places}
use Rattle.unit_plan.specs.Limits.{no_point, used, figures_ok, point_ok, most_points, most_sends, pool_step, longest_name}
use Rattle.unit_plan.specs.Names.{names_differ, goes_by, name_of, same_name, named_in}
use Rattle.unit_plan.specs.Plan.{accepted, guaranteed}
use Rattle.wire_fields.specs.Overrun.{over_in, over_within}
use Rattle.wire_fields.specs.Search.{find, first_in, named}
use Rattle.wire_fields.specs.Walk.{fields_from, over_from, fields_of, overruns}
use Rattle.wire_fields.specs.Imsi.{imsi_size, halves, front, last_of, is_half, decimal_from, digits_from, imsi_of}
use Rattle.wire_fields.specs.Tunnel.{tunnel_size, word_at, tunnel_good, tunnel_of}
use Rattle.wire_fields.specs.Readers.{octet_at, octet_in, rat_in, paa_in, ebi_in, imsi_at, imsi_in, tunnel_at, tunnel_in, recovery_of, recovery_in}
use Rattle.wire_header.specs.Types.{bare_types, tunnel_types, not_taken, flag_of}
use Rattle.wire_header.specs.Header.{version_of, flag_p, flag_t, kind_of, length_of, with_teid, teid_octets, teid_of, sequence_of, sequence_behind, header_size, header_of}
use Rattle.wire_header.specs.Gate.{gate_of, control_version}
use Rattle.wire_requests.specs.Create.{create_of}
use Rattle.promise_demands.specs.Creates.{SoundCreate}
use Rattle.promise_demands.specs.Examples.{one_party, create, create_of_imsi, first, first_imsi, second, second_imsi}

pub one_party_accepted : accepted one_party ≡ true
unfolding one_party accepted figures_ok point_ok guaranteed names_differ used every every_rest sum_of places most_points most_sends pool_step longest_name no_point
one_party_accepted = refl

pub create_sequence : (x : ℕ) → (header_of (create x)).sequence ≡ 3
unfolding create header_of sequence_of sequence_behind with_teid flag_t number_of number_from
create_sequence x = refl

pub first_sound : SoundCreate one_party first (create_of_imsi first_imsi)
unfolding create create_of_imsi one_party no_point gate_of create_of over_in over_within find first_in named fields_from over_from fields_of overruns imsi_size halves front last_of is_half decimal_from digits_from imsi_of tunnel_size word_at tunnel_good tunnel_of octet_at octet_in rat_in paa_in ebi_in imsi_at imsi_in tunnel_at tunnel_in recovery_of recovery_in bare_types tunnel_types not_taken flag_of version_of flag_p flag_t kind_of length_of with_teid teid_octets teid_of header_size header_of control_version number_of number_from named_in goes_by name_of same_name same_octets first_of used every
first_sound = record { header = refl; kind = refl; fields = refl }

pub second_sound : SoundCreate one_party second (create_of_imsi second_imsi)
unfolding create create_of_imsi one_party no_point gate_of create_of over_in over_within find first_in named fields_from over_from fields_of overruns imsi_size halves front last_of is_half decimal_from digits_from imsi_of tunnel_size word_at tunnel_good tunnel_of octet_at octet_in rat_in paa_in ebi_in imsi_at imsi_in tunnel_at tunnel_in recovery_of recovery_in bare_types tunnel_types not_taken flag_of version_of flag_p flag_t kind_of length_of with_teid teid_octets teid_of header_size header_of control_version number_of number_from named_in goes_by name_of same_name same_octets first_of used every
second_sound = record { header = refl; kind = refl; fields = refl }

pub first_octets : every is_octet first ≡ true
unfolding create every is_octet
first_octets = refl
