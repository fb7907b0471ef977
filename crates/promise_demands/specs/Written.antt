-- Reading what is written gives back what was meant: every message that is written, read with the readers of this house, has the type, TEID,
-- sequence number and each field that it was written with, and none runs past its end.
-- Assumes nothing.
use Rattle.std.specs.Prelude.{ℕ, ◌+◌, ◌-◌, ◌%◌, ◌<◌, ◌≤◌, true, false, List, [], ◌∷◌, ◌≡◌, length, drop, get_or, Some, Ok}
use Rattle.base_octets.specs.Number.{taken}
use Rattle.base_octets.specs.BigEndian.{number_of}
use Rattle.wire_messages.specs.Types.{echo_type, echo_reply_type, version_type, create_reply_type, modify_reply_type, bearer_type}
use Rattle.wire_messages.specs.Messages as messages
use Rattle.wire_messages.specs.Messages.{version_not_supported, cause_reply}
use Rattle.wire_messages.specs.Messages.{fault_reply, create_accepted, modify_bearer, delete_bearer, user_echo, error_indication}
use Rattle.wire_header.specs.Header.{version_of, flag_p, length_of}
use Rattle.wire_header.specs.Header.{header_of}
use Rattle.wire_header.specs.Gate.{gate_of}
use Rattle.wire_fields.specs.Walk.{part}
use Rattle.wire_fields.specs.Search.{find}
use Rattle.wire_fields.specs.Overrun.{over_in}
use Rattle.wire_fields.specs.Tunnel.{word_at}
use Rattle.wire_fields.specs.Kinds.{cause_kind, paa_kind, bearer_kind}
use Rattle.wire_fields.specs.Readers.{octet_in, paa_in, ebi_in, tunnel_in, recovery_in}
use Rattle.wire_requests.specs.Carried as carried
use Rattle.wire_user.specs.Header as user
use Rattle.promise_demands.specs.Sent.{Holds}

-- ---- the header: version 2, P unset, spare bits 0, the type, the length that is the size less 4, the TEID (0 where there is none), the sequence
-- number, and where the fields begin, behind a spare octet of 0
pub record HeaderRead (d : List ℕ) (kind teid sequence fields : ℕ) : Type 0 where
  pub version : version_of d ≡ 2
  pub plain : flag_p d ≡ 0
  pub spare_bits : get_or d 0 0 % 8 ≡ 0
  pub spare_octet : get_or d (fields - 1) 0 ≡ 0
  pub whole : length_of d + 4 ≡ length d
  pub header : header_of d ≡ record { kind = kind; teid = teid; sequence = sequence; fields = fields }

-- a sequence number has 24 bits, a TEID and an address 32
abbrev pub Seq : ℕ → Type 0
Seq n = n < 16777216

abbrev pub Word : ℕ → Type 0
Word n = n < 4294967296

-- ---- Version Not Supported: a header and no field
pub record VersionRead : Type 0 where
  pub header : HeaderRead version_not_supported version_type 0 0 8
  pub header_taken : gate_of version_not_supported ≡ taken
  pub bare : drop 8 version_not_supported ≡ []

-- ---- Echo Request and Echo Response
pub record EchoRead (seq recovery : ℕ) : Type 0 where
  pub asks : HeaderRead (messages.echo_of echo_type seq recovery) echo_type 0 seq 8
  pub answers : HeaderRead (messages.echo_of echo_reply_type seq recovery) echo_reply_type 0 seq 8
  pub asks_taken : gate_of (messages.echo_of echo_type seq recovery) ≡ taken
  pub answers_taken : gate_of (messages.echo_of echo_reply_type seq recovery) ≡ taken
  pub asks_runs : over_in (drop 8 (messages.echo_of echo_type seq recovery)) ≡ false
  pub answers_runs : over_in (drop 8 (messages.echo_of echo_reply_type seq recovery)) ≡ false
  pub asks_carries : carried.echo_read (drop 8 (messages.echo_of echo_type seq recovery)) ≡ Some recovery
  pub answers_carries : carried.echo_reply_read (drop 8 (messages.echo_of echo_reply_type seq recovery)) ≡ Ok (Some recovery)

-- ---- a reply with a cause, alone or with the field at fault: its type, 00 00, its instance
pub record CauseRead (type teid seq cause field instance : ℕ) : Type 0 where
  pub bare : HeaderRead (cause_reply type teid seq cause) type teid seq 12
  pub named : HeaderRead (fault_reply type teid seq cause field instance) type teid seq 12
  pub bare_runs : over_in (drop 12 (cause_reply type teid seq cause)) ≡ false
  pub named_runs : over_in (drop 12 (fault_reply type teid seq cause field instance)) ≡ false
  pub bare_cause : carried.bearer_reply_read (drop 12 (cause_reply type teid seq cause)) ≡ Ok cause
  pub named_cause : carried.bearer_reply_read (drop 12 (fault_reply type teid seq cause field instance)) ≡ Ok cause
  pub bare_value : Holds (drop 12 (cause_reply type teid seq cause)) cause_kind 0 (cause ∷ 0 ∷ [])
  pub named_field : Holds (drop 12 (fault_reply type teid seq cause field instance)) cause_kind 0 (cause ∷ 0 ∷ field ∷ 0 ∷ 0 ∷ instance ∷ [])

-- the type of APN Restriction, which is written and never read
abbrev pub restriction_kind : ℕ
restriction_kind = 127

-- ---- the accepted reply to a Create: the places of its PAA and its Bearer Context, and every field
pub record CreateRead (d : List ℕ) (teid seq control controladdr address ebi user useraddr recovery : ℕ) : Type 0 where
  pub header : HeaderRead d create_reply_type teid seq 12
  pub runs : over_in (drop 12 d) ≡ false
  pub cause : octet_in (drop 12 d) cause_kind 2 ≡ Ok 16
  pub control_tunnel : tunnel_in (drop 12 d) 1 7 ≡ Ok (record { teid = control; address = controladdr })
  pub paa : paa_in (drop 12 d) ≡ Ok 1
  pub paa_at : find (drop 12 d) paa_kind 0 ≡ Some (record { start = 23; size = 5 })
  pub pdn_address : word_at (part (drop 12 d) 23 5) 1 ≡ address
  pub restriction : Holds (drop 12 d) restriction_kind 0 (0 ∷ [])
  pub bearer_at : find (drop 12 d) bearer_kind 0 ≡ Some (record { start = 37; size = 24 })
  pub bearer_ebi : ebi_in (part (drop 12 d) 37 24) ≡ Ok ebi
  pub bearer_cause : octet_in (part (drop 12 d) 37 24) cause_kind 2 ≡ Ok 16
  pub user_tunnel : tunnel_in (part (drop 12 d) 37 24) 2 5 ≡ Ok (record { teid = user; address = useraddr })
  pub recovery_value : recovery_in (drop 12 d) ≡ Some recovery

-- ---- the accepted reply to a Modify with a Bearer Context, and the unit's own Delete Bearer
pub record ModifyRead (teid seq ebi : ℕ) : Type 0 where
  pub header : HeaderRead (modify_bearer teid seq ebi) modify_reply_type teid seq 12
  pub runs : over_in (drop 12 (modify_bearer teid seq ebi)) ≡ false
  pub cause : octet_in (drop 12 (modify_bearer teid seq ebi)) cause_kind 2 ≡ Ok 16
  pub bearer_at : find (drop 12 (modify_bearer teid seq ebi)) bearer_kind 0 ≡ Some (record { start = 10; size = 11 })
  pub bearer_ebi : ebi_in (part (drop 12 (modify_bearer teid seq ebi)) 10 11) ≡ Ok ebi
  pub bearer_cause : octet_in (part (drop 12 (modify_bearer teid seq ebi)) 10 11) cause_kind 2 ≡ Ok 16

pub record DeleteBearerRead (teid seq ebi : ℕ) : Type 0 where
  pub header : HeaderRead (delete_bearer teid seq ebi) bearer_type teid seq 12
  pub runs : over_in (drop 12 (delete_bearer teid seq ebi)) ≡ false
  pub bearer_ebi : ebi_in (drop 12 (delete_bearer teid seq ebi)) ≡ Ok ebi

-- ---- the two replies of the user side: version 1 and PT 1; S is set, E and PN are not; the length is the size less 8; TEID 0; the type and the
-- sequence number; no extension header
pub record UserHeaderRead (d : List ℕ) (type seq : ℕ) : Type 0 where
  pub ours : user.ours (get_or d 0 0) ≡ true
  pub sequenced : user.sequenced (get_or d 0 0) ≡ true
  pub extended : user.extended (get_or d 0 0) ≡ false
  pub numbered : user.numbered (get_or d 0 0) ≡ false
  pub kind : user.type_of d ≡ type
  pub whole : user.user_length_of d ≡ length d - 8
  pub teid : user.user_teid_of d ≡ 0
  pub sequence : user.user_sequence_of d ≡ seq
  pub next : get_or d 11 0 ≡ 0

-- Echo Response (2): Recovery (14) with value 0
pub record UserEchoRead (d : List ℕ) (seq : ℕ) : Type 0 where
  pub header : UserHeaderRead d 2 seq
  pub recovery : drop 12 d ≡ 14 ∷ 0 ∷ []

-- Error Indication (26): TEID Data I (16) with the TEID; GSN Address (133) of 4 octets, the unit's; and nothing behind
pub record ErrorRead (d : List ℕ) (teid addr : ℕ) : Type 0 where
  pub header : UserHeaderRead d 26 0
  pub teid_kind : get_or d 12 0 ≡ 16
  pub teid_value : word_at d 13 ≡ teid
  pub address_kind : get_or d 17 0 ≡ 133
  pub address_size : number_of (get_or d 18 0 ∷ get_or d 19 0 ∷ []) ≡ 4
  pub address_value : word_at d 20 ≡ addr
  pub end : length d ≡ 24

pub record WrittenIsRead : Type 0 where
  pub version : VersionRead
  pub echo : (seq recovery : ℕ) → Seq seq → EchoRead seq recovery
  pub cause : (type teid seq cause field instance : ℕ) → Word teid → Seq seq → CauseRead type teid seq cause field instance
  pub create : (teid seq control controladdr address ebi user useraddr recovery : ℕ) → Word teid → Seq seq
      → Word control → 0 < control → Word controladdr → Word address
      → 5 ≤ ebi → ebi ≤ 15 → Word user → 0 < user → Word useraddr
      → CreateRead (create_accepted teid seq control controladdr address ebi user useraddr recovery)
      teid seq control controladdr address ebi user useraddr recovery
  pub modify : (teid seq ebi : ℕ) → Word teid → Seq seq → 5 ≤ ebi → ebi ≤ 15 → ModifyRead teid seq ebi
  pub delete_bearer : (teid seq ebi : ℕ) → Word teid → Seq seq → 5 ≤ ebi → ebi ≤ 15 → DeleteBearerRead teid seq ebi
  pub user_echo : (seq : ℕ) → seq < 65536 → UserEchoRead (user_echo seq) seq
  pub error : (teid addr : ℕ) → Word teid → Word addr → ErrorRead (error_indication teid addr) teid addr
