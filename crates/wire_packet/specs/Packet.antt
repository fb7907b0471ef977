-- The header of a packet of the carrier's side (document 02, request 1; RFC 791): version and length of the header in the first octet,
-- the total length in the third and fourth, the destination address in the last four of the first twenty. Nothing else of it is read.
-- Assumes nothing.
use Rattle.std.specs.Prelude.{ℕ, ◌*◌, ◌/◌, ◌%◌, ◌≤◌, Bool, true, ◌&&◌, List, [], ◌∷◌, ◌≡◌, length, get_or, eqb, leb, ltb}
use Rattle.std.proofs.Common.{leb-true, eqb-true, le-ltb}
use Rattle.base_octets.specs.BigEndian.{number_of}
use Rattle.base_octets.specs.Choice.{pick, and_left, and_right}

-- the version that is taken
abbrev pub packet_version : ℕ
packet_version = 4

-- the octets of the least header
abbrev pub least_header : ℕ
least_header = 20

-- a header's length counts units of 4 octets
abbrev pub header_unit : ℕ
header_unit = 4

-- ---- the octets in their places
abbrev pub packet_octet : List ℕ → ℕ → ℕ
packet_octet d i = get_or d i 0

abbrev pub version_of : List ℕ → ℕ
version_of d = packet_octet d 0 / 16

abbrev pub header_length_of : List ℕ → ℕ
header_length_of d = packet_octet d 0 % 16 * header_unit

abbrev pub total_length_of : List ℕ → ℕ
total_length_of d = number_of (packet_octet d 2 ∷ packet_octet d 3 ∷ [])

-- 0 where the header is cut
unfoldable pub destination_of : List ℕ → ℕ
destination_of d =
    pick {A = ℕ} (ltb (length d) least_header) 0
    (number_of (packet_octet d 16 ∷ packet_octet d 17 ∷ packet_octet d 18 ∷ packet_octet d 19 ∷ []))

-- one whole IPv4 packet: at least 20 octets, of version 4, with a header of at least 20 octets that is not over the total length, and
-- the total length is what was given
unfoldable pub whole_packet : List ℕ → Bool
whole_packet d =
    leb least_header (length d)
    && (eqb (version_of d) packet_version && leb least_header (header_length_of d) && leb (header_length_of d) (total_length_of d) && eqb (total_length_of d) (length d))

-- ---- laws
-- what a whole packet has
pub record Whole (d : List ℕ) : Type 0 where
  pub least : least_header ≤ length d
  pub version : version_of d ≡ packet_version
  pub header : least_header ≤ header_length_of d
  pub within : header_length_of d ≤ total_length_of d
  pub exact : total_length_of d ≡ length d

pub packet_whole : (d : List ℕ) → whole_packet d ≡ true → Whole d
unfolding whole_packet
packet_whole d e =
    let a : leb least_header (length d) ≡ true = search and_left in
    let b : eqb (version_of d) packet_version ≡ true = search (and_left, and_right) in
    let c : leb least_header (header_length_of d) ≡ true = search (and_left, and_right) in
    let f : leb (header_length_of d) (total_length_of d) ≡ true = search (and_left, and_right) in
    let g : eqb (total_length_of d) (length d) ≡ true = search (and_left, and_right) in
    record {
      least = leb-true least_header (length d) a;
      version = eqb-true (version_of d) packet_version b;
      header = leb-true least_header (header_length_of d) c;
      within = leb-true (header_length_of d) (total_length_of d) f;
      exact = eqb-true (total_length_of d) (length d) g;
    }

pub destination_there : (d : List ℕ) → least_header ≤ length d
    → destination_of d ≡ number_of (packet_octet d 16 ∷ packet_octet d 17 ∷ packet_octet d 18 ∷ packet_octet d 19 ∷ [])
unfolding destination_of
destination_there d h = rw (le-ltb (length d) least_header h)
