-- The octets of every reply and own request, as document 01 and the two standards have them.
-- Assumes nothing.
use Rattle.std.specs.Prelude.{ℕ, ◌+◌, List, [], ◌∷◌, ◌++◌, ◌≡◌, refl, length}
use Rattle.std.proofs.Common.{arith}
use Rattle.base_octets.specs.BigEndian.{octets_of}
use Rattle.wire_messages.specs.Types.{version_type, create_reply_type, modify_reply_type, bearer_type}

-- ---- GTPv2-C
-- a header with T = 1: flags 48, type, length of what follows the first 4 octets, TEID, sequence number, a spare octet
unfoldable pub header_to : ℕ → ℕ → ℕ → ℕ → List ℕ
header_to type size teid seq = 0x48 ∷ type ∷ octets_of 2 size ++ octets_of 4 teid ++ octets_of 3 seq ++ (0 ∷ [])

-- Version Not Supported, always with sequence number 0
unfoldable pub version_not_supported : List ℕ
version_not_supported = 0x40 ∷ version_type ∷ 0 ∷ 4 ∷ 0 ∷ 0 ∷ 0 ∷ 0 ∷ []

-- Echo Request and Echo Response, with T = 0 and the unit's own Recovery
unfoldable pub echo_of : ℕ → ℕ → ℕ → List ℕ
echo_of type seq recovery = 0x40 ∷ type ∷ 0 ∷ 9 ∷ octets_of 3 seq ++ (0 ∷ 3 ∷ 0 ∷ 1 ∷ 0 ∷ recovery ∷ [])

-- Cause (2): the cause and 00
unfoldable pub cause_field : ℕ → List ℕ
cause_field cause = 2 ∷ 0 ∷ 2 ∷ 0 ∷ cause ∷ 0 ∷ []

-- Cause that names the field at fault: its type, 00 00, its instance
unfoldable pub fault_field : ℕ → ℕ → ℕ → List ℕ
fault_field cause type instance = 2 ∷ 0 ∷ 6 ∷ 0 ∷ cause ∷ 0 ∷ type ∷ 0 ∷ 0 ∷ instance ∷ []

-- F-TEID (87) with an IPv4 address: V4 flag and interface, TEID, address
unfoldable pub tunnel_field : ℕ → ℕ → ℕ → ℕ → List ℕ
tunnel_field instance flags teid addr = 0x57 ∷ 0 ∷ 9 ∷ instance ∷ flags ∷ octets_of 4 teid ++ octets_of 4 addr

-- EBI (73), the high half 0
unfoldable pub ebi_field : ℕ → List ℕ
ebi_field ebi = 0x49 ∷ 0 ∷ 1 ∷ 0 ∷ ebi ∷ []

-- a reply of a type with a cause alone: refused without a field named, or accepted with Cause 16
unfoldable pub cause_reply : ℕ → ℕ → ℕ → ℕ → List ℕ
cause_reply type teid seq cause = header_to type 14 teid seq ++ cause_field cause

unfoldable pub fault_reply : ℕ → ℕ → ℕ → ℕ → ℕ → ℕ → List ℕ
fault_reply type teid seq cause field instance = header_to type 18 teid seq ++ fault_field cause field instance

-- Create accepted: Cause 16; F-TEID instance 1 (interface 7); PAA of IPv4; APN Restriction 0; Bearer Context with EBI, Cause 16,
-- F-TEID instance 2 (interface 5); Recovery
unfoldable pub create_accepted : ℕ → ℕ → ℕ → ℕ → ℕ → ℕ → ℕ → ℕ → ℕ → List ℕ
create_accepted teid seq control controladdr address ebi user useraddr recovery =
    header_to create_reply_type 74 teid seq
    ++ cause_field 16
    ++ tunnel_field 1 0x87 control controladdr
    ++ (0x4F ∷ 0 ∷ 5 ∷ 0 ∷ 1 ∷ octets_of 4 address)
    ++ (0x7F ∷ 0 ∷ 1 ∷ 0 ∷ 0 ∷ [])
    ++ (0x5D ∷ 0 ∷ 24 ∷ 0 ∷ [])
    ++ ebi_field ebi
    ++ cause_field 16
    ++ tunnel_field 2 0x85 user useraddr
    ++ (3 ∷ 0 ∷ 1 ∷ 0 ∷ recovery ∷ [])

-- Modify accepted where a Bearer Context came: Cause 16, and one with EBI and Cause 16
unfoldable pub modify_bearer : ℕ → ℕ → ℕ → List ℕ
modify_bearer teid seq ebi =
    header_to modify_reply_type 29 teid seq ++ cause_field 16 ++ (0x5D ∷ 0 ∷ 11 ∷ 0 ∷ []) ++ ebi_field ebi ++ cause_field 16

-- Delete Bearer Request, the unit's own
unfoldable pub delete_bearer : ℕ → ℕ → ℕ → List ℕ
delete_bearer teid seq ebi = header_to bearer_type 13 teid seq ++ ebi_field ebi

-- ---- GTPv1-U
-- Echo Response: TEID 0, the sequence number, N-PDU and next type 0, Recovery 0
unfoldable pub user_echo : ℕ → List ℕ
user_echo seq = 0x32 ∷ 2 ∷ 0 ∷ 6 ∷ 0 ∷ 0 ∷ 0 ∷ 0 ∷ octets_of 2 seq ++ (0 ∷ 0 ∷ 0x0E ∷ 0 ∷ [])

-- Error Indication: the TEID that is not live, and the unit's user address
unfoldable pub error_indication : ℕ → ℕ → List ℕ
error_indication teid addr =
    0x32 ∷ 0x1A ∷ 0 ∷ 0x10 ∷ 0 ∷ 0 ∷ 0 ∷ 0 ∷ 0 ∷ 0 ∷ 0 ∷ 0 ∷ 0x10 ∷ octets_of 4 teid ++ (0x85 ∷ 0 ∷ 4 ∷ octets_of 4 addr)

-- G-PDU without an optional part: the length of the packet, the peer's TEID, and the packet
unfoldable pub gpdu_of : ℕ → List ℕ → List ℕ
gpdu_of teid packet = 0x30 ∷ 0xFF ∷ octets_of 2 (length packet) ++ octets_of 4 teid ++ packet

-- ---- their lengths, as document 01 states them
pub size_echo : (type seq recovery : ℕ) → length (echo_of type seq recovery) ≡ 13
unfolding echo_of octets_of
size_echo type seq recovery = refl

pub size_cause : (type teid seq cause : ℕ) → length (cause_reply type teid seq cause) ≡ 18
unfolding cause_reply header_to cause_field octets_of
size_cause type teid seq cause = refl

pub size_fault : (type teid seq cause field instance : ℕ) → length (fault_reply type teid seq cause field instance) ≡ 22
unfolding fault_reply header_to fault_field octets_of
size_fault type teid seq cause field instance = refl

pub size_create : (teid seq control controladdr address ebi user useraddr recovery : ℕ) → length (create_accepted teid seq control controladdr address ebi user useraddr recovery) ≡ 78
unfolding create_accepted header_to cause_field tunnel_field ebi_field octets_of
size_create teid seq control controladdr address ebi user useraddr recovery = refl

pub size_modify : (teid seq ebi : ℕ) → length (modify_bearer teid seq ebi) ≡ 33
unfolding modify_bearer header_to cause_field ebi_field octets_of
size_modify teid seq ebi = refl

pub size_delete_bearer : (teid seq ebi : ℕ) → length (delete_bearer teid seq ebi) ≡ 17
unfolding delete_bearer header_to ebi_field octets_of
size_delete_bearer teid seq ebi = refl

pub size_user_echo : (seq : ℕ) → length (user_echo seq) ≡ 14
unfolding user_echo octets_of
size_user_echo seq = refl

pub size_error : (teid addr : ℕ) → length (error_indication teid addr) ≡ 24
unfolding error_indication octets_of
size_error teid addr = refl

pub size_gpdu : (teid : ℕ) (packet : List ℕ) → length (gpdu_of teid packet) ≡ length packet + 8
unfolding gpdu_of octets_of
size_gpdu teid packet = omega arith
