-- That what specs/Written.antt says holds, and what that rests on.
-- Assumes nothing.
use Rattle.std.specs.Prelude.{ℕ, ◌+◌, ◌%◌, ◌<◌, ◌≤◌, true, List, ◌∷◌, ◌++◌, ◌≡◌, refl, length, drop, eqb, leb, ltb, Some, Result, Ok, Err}
use Rattle.std.proofs.Common.{arith, lt-ltb, le-ltb}
use Rattle.base_octets.specs.Choice.{pick}
use Rattle.base_octets.specs.BigEndian.{number_of, number_from, octets_of, number_back}
use Rattle.wire_messages.specs.Types.{echo_type, echo_reply_type, create_reply_type, modify_reply_type, bearer_type}
use Rattle.wire_messages.specs.Messages as messages
use Rattle.wire_messages.specs.Messages.{header_to, version_not_supported, cause_field, fault_field, tunnel_field, ebi_field, cause_reply}
use Rattle.wire_messages.specs.Messages.{fault_reply, create_accepted, modify_bearer, delete_bearer, user_echo, error_indication}
use Rattle.wire_header.specs.Types.{bare_types, tunnel_types, not_taken, flag_of}
use Rattle.wire_header.specs.Header.{version_of, flag_p, flag_t, kind_of, length_of, with_teid, teid_octets}
use Rattle.wire_header.specs.Header.{teid_of, sequence_of, sequence_behind, sequence_bare, header_size, header_of}
use Rattle.wire_header.specs.Gate.{gate_of, control_version}
use Rattle.wire_fields.specs.Walk.{part, fields_from, over_from, fields_of, overruns}
use Rattle.wire_fields.specs.Search.{find, first_in}
use Rattle.wire_fields.specs.Overrun.{over_in, over_within}
use Rattle.wire_fields.specs.Tunnel.{tunnel_size, word_at, tunnel_good, tunnel_of, v4_flag, interfaces}
use Rattle.wire_fields.specs.Kinds.{tunnel_kind}
use Rattle.wire_fields.specs.Readers.{octet_at, octet_in, paa_in, ebi_in, tunnel_at, tunnel_in, recovery_of, recovery_in}
use Rattle.wire_requests.specs.Carried as carried
use Rattle.wire_user.specs.Header as user
use Rattle.promise_demands.specs.Written.{HeaderRead, Seq, Word, VersionRead, EchoRead, CauseRead, CreateRead, ModifyRead, DeleteBearerRead, UserEchoRead, ErrorRead, WrittenIsRead}
use Rattle.wire_fields.specs.declared.Flaw.{Flaw}
use Rattle.wire_fields.specs.declared.Tunnel.{Tunnel}
use Rattle.wire_fields.specs.declared.Flaw.TheVariants.{Wrong}

-- ---- laws
-- a header with a TEID, whatever follows
pub header_back : (type teid seq : ℕ) (size : ℕ) (l : List ℕ) → Word teid → Seq seq
    → header_of (header_to type size teid seq ++ l) ≡ record { kind = type; teid = teid; sequence = seq; fields = 12 }
unfolding header_to header_of kind_of teid_of teid_octets sequence_of sequence_behind header_size with_teid flag_t octets_of number_of number_from
header_back type teid seq size l h k = rw (number_back 4 teid h, number_back 3 seq k)

bare-back : (type seq recovery : ℕ) → Seq seq
    → header_of (messages.echo_of type seq recovery) ≡ record { kind = type; teid = 0; sequence = seq; fields = 8 }
unfolding messages.echo_of header_of kind_of teid_of sequence_of sequence_bare header_size with_teid flag_t octets_of number_of number_from
bare-back type seq recovery k = rw (number_back 3 seq k)

-- every header that is written
headed : (type teid seq size : ℕ) (l : List ℕ) → Word teid → Seq seq
    → length_of (header_to type size teid seq ++ l) + 4 ≡ length (header_to type size teid seq ++ l)
    → HeaderRead (header_to type size teid seq ++ l) type teid seq 12
unfolding header_to version_of flag_p octets_of
headed type teid seq size l h k e = record {
  version = refl;
  plain = refl;
  spare_bits = refl;
  spare_octet = refl;
  whole = e;
  header = header_back type teid seq size l h k;
}

bare_headed : (type seq recovery : ℕ) → Seq seq → HeaderRead (messages.echo_of type seq recovery) type 0 seq 8
unfolding messages.echo_of version_of flag_p length_of octets_of number_of number_from
bare_headed type seq recovery h = record {
  version = refl;
  plain = refl;
  spare_bits = refl;
  spare_octet = refl;
  whole = refl;
  header = bare-back type seq recovery h;
}

tunnel-back : (flags interface teid addr : ℕ) → leb v4_flag flags ≡ true → eqb (flags % interfaces) interface ≡ true → 0 < teid → Word teid → Word addr
    → tunnel_of (flags ∷ octets_of 4 teid ++ octets_of 4 addr) interface ≡ Ok (record { teid = teid; address = addr })
unfolding tunnel_of tunnel_size tunnel_good word_at octets_of number_of number_from
tunnel-back flags interface teid addr f i z h k = rw (f, i, number_back 4 teid h, number_back 4 addr k, lt-ltb 0 teid z)

tunnel_found : (s : List ℕ) (instance interface start size : ℕ) (v : List ℕ) (r : Result Tunnel Flaw) → find s tunnel_kind instance ≡ Some (record { start = start; size = size })
    → part s start size ≡ v → tunnel_of v interface ≡ r
    → tunnel_in s instance interface ≡ r
unfolding tunnel_in tunnel_at
tunnel_found s instance interface start size v r e f g = rw (e, f) g

ebi_back : (ebi : ℕ) → 5 ≤ ebi → ebi ≤ 15 → pick (ltb (ebi % 16) 5) (Err Wrong) (Ok (ebi % 16)) ≡ Ok ebi
ebi_back ebi a b = let m : ebi % 16 ≡ ebi = omega arith in rw (m, le-ltb ebi 5 a)

echo-read : (seq recovery : ℕ) → Seq seq → EchoRead seq recovery
unfolding messages.echo_of gate_of version_of length_of flag_p flag_t kind_of flag_of bare_types tunnel_types not_taken teid_of with_teid header_size
    control_version octets_of number_of number_from carried.echo_read carried.echo_reply_read over_in over_within overruns over_from recovery_in recovery_of
    octet_in octet_at find first_in fields_of fields_from
echo-read seq recovery h = record {
  asks = bare_headed echo_type seq recovery h;
  answers = bare_headed echo_reply_type seq recovery h;
  asks_taken = refl;
  answers_taken = refl;
  asks_runs = refl;
  answers_runs = refl;
  asks_carries = refl;
  answers_carries = refl;
}

cause_read : (type teid seq cause field instance : ℕ) → Word teid → Seq seq → CauseRead type teid seq cause field instance
unfolding cause_reply fault_reply cause_field fault_field header_to version_of flag_p length_of octets_of number_of number_from carried.bearer_reply_read
    carried.cause_of over_in over_within overruns over_from octet_in octet_at find first_in fields_of fields_from
cause_read type teid seq cause field instance h k = record {
  bare = headed type teid seq 14 (cause_field cause) h k refl;
  named = headed type teid seq 18 (fault_field cause field instance) h k refl;
  bare_runs = refl;
  named_runs = refl;
  bare_cause = refl;
  named_cause = refl;
  bare_value = record { start = 4; found = refl; octets = refl };
  named_field = record { start = 4; found = refl; octets = refl };
}

modify_read : (teid seq ebi : ℕ) → Word teid → Seq seq → 5 ≤ ebi → ebi ≤ 15 → ModifyRead teid seq ebi
unfolding modify_bearer cause_field ebi_field header_to version_of flag_p length_of octets_of number_of number_from over_in over_within overruns
    over_from ebi_in octet_in octet_at find first_in fields_of fields_from
modify_read teid seq ebi h k a b = record {
  header = headed modify_reply_type teid seq 29 (drop 12 (modify_bearer teid seq ebi)) h k refl;
  runs = refl;
  cause = refl;
  bearer_at = refl;
  bearer_ebi = ebi_back ebi a b;
  bearer_cause = refl;
}

delete_bearer_read : (teid seq ebi : ℕ) → Word teid → Seq seq → 5 ≤ ebi → ebi ≤ 15 → DeleteBearerRead teid seq ebi
unfolding delete_bearer ebi_field header_to version_of flag_p length_of octets_of number_of number_from over_in over_within overruns over_from ebi_in
    octet_in octet_at find first_in fields_of fields_from
delete_bearer_read teid seq ebi h k a b = record {
  header = headed bearer_type teid seq 13 (ebi_field ebi) h k refl;
  runs = refl;
  bearer_ebi = ebi_back ebi a b;
}

create-read : (teid seq control controladdr address ebi user useraddr recovery : ℕ) → Word teid → Seq seq
    → Word control → 0 < control → Word controladdr → Word address
    → 5 ≤ ebi → ebi ≤ 15 → Word user → 0 < user → Word useraddr
    → CreateRead (create_accepted teid seq control controladdr address ebi user useraddr recovery)
    teid seq control controladdr address ebi user useraddr recovery
unfolding create_accepted cause_field tunnel_field ebi_field header_to version_of flag_p length_of octets_of number_of number_from over_in over_within
    overruns over_from paa_in ebi_in recovery_in recovery_of octet_in octet_at find first_in fields_of fields_from word_at
create-read teid seq control controladdr address ebi user useraddr recovery h k hc zc ha hd a b hu zu hv = record {
  header = headed create_reply_type teid seq 74 rest h k refl;
  runs = refl;
  cause = refl;
  control_tunnel = tunnel_found rest 1 7 10 9 (0x87 ∷ octets_of 4 control ++ octets_of 4 controladdr) (Ok (record { teid = control; address = controladdr })) refl refl
      (tunnel-back 0x87 7 control controladdr refl refl zc hc ha);
  paa = refl;
  paa_at = refl;
  pdn_address = number_back 4 address hd;
  restriction = record { start = 32; found = refl; octets = refl };
  bearer_at = refl;
  bearer_ebi = ebi_back ebi a b;
  bearer_cause = refl;
  user_tunnel = tunnel_found (part rest 37 24) 2 5 15 9 (0x85 ∷ octets_of 4 user ++ octets_of 4 useraddr) (Ok (record { teid = user; address = useraddr })) refl refl
      (tunnel-back 0x85 5 user useraddr refl refl zu hu hv);
  recovery_value = refl;
}
  where
    rest : List ℕ
    rest = drop 12 (create_accepted teid seq control controladdr address ebi user useraddr recovery)

version_read : VersionRead
unfolding version_not_supported gate_of header_of version_of length_of flag_p flag_t kind_of flag_of bare_types tunnel_types not_taken teid_of sequence_of
    sequence_bare with_teid header_size control_version number_of number_from
version_read = record {
  header = record { version = refl; plain = refl; spare_bits = refl; spare_octet = refl; whole = refl; header = refl };
  header_taken = refl;
  bare = refl;
}

user_echo_read : (seq : ℕ) → seq < 65536 → UserEchoRead (user_echo seq) seq
unfolding user_echo user.ours user.user_teid_of user.user_sequence_of octets_of number_of number_from
user_echo_read seq h = record {
  header = record {
    ours = refl;
    sequenced = refl;
    extended = refl;
    numbered = refl;
    kind = refl;
    whole = refl;
    teid = refl;
    sequence = number_back 2 seq h;
    next = refl;
  };
  recovery = refl;
}

error_read : (teid addr : ℕ) → Word teid → Word addr → ErrorRead (error_indication teid addr) teid addr
unfolding error_indication user.ours user.user_teid_of user.user_sequence_of octets_of number_of number_from word_at
error_read teid addr h k = record {
  header = record {
    ours = refl;
    sequenced = refl;
    extended = refl;
    numbered = refl;
    kind = refl;
    whole = refl;
    teid = refl;
    sequence = refl;
    next = refl;
  };
  teid_kind = refl;
  teid_value = number_back 4 teid h;
  address_kind = refl;
  address_size = refl;
  address_value = number_back 4 addr k;
  end = refl;
}

pub written_is_read : WrittenIsRead
written_is_read = record {
  version = version_read;
  echo = echo-read;
  cause = cause_read;
  create = create-read;
  modify = modify_read;
  delete_bearer = delete_bearer_read;
  user_echo = user_echo_read;
  error = error_read;
}
