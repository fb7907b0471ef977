-- The control header: octet 1 with version (3 bits), P, T and three ignored bits; type; length; TEID if T; 3-octet sequence number;
-- a spare octet. Places are counted from 0 here. Every definition answers for any octets: past the end they count as 0.
-- Assumes nothing.
use Rattle.std.specs.Prelude.{ℕ, ◌+◌, ◌/◌, ◌%◌, Bool, List, [], ◌∷◌, get_or, eqb}
use Rattle.base_octets.specs.Choice.{pick}
use Rattle.base_octets.specs.BigEndian.{number_of}
use Rattle.wire_header.specs.declared.HeaderCursor.{HeaderCursor}

unfoldable pub version_of : List ℕ → ℕ
version_of d = get_or d 0 0 / 32

-- the flags P and T
unfoldable pub flag_p : List ℕ → ℕ
flag_p d = get_or d 0 0 / 16 % 2

unfoldable pub flag_t : List ℕ → ℕ
flag_t d = get_or d 0 0 / 8 % 2

unfoldable pub kind_of : List ℕ → ℕ
kind_of d = get_or d 1 0

-- the length that is stated: all but the first 4 octets
unfoldable pub length_of : List ℕ → ℕ
length_of d = number_of (get_or d 2 0 ∷ get_or d 3 0 ∷ [])

unfoldable pub with_teid : List ℕ → Bool
with_teid d = eqb (flag_t d) 1

-- the four octets of a TEID; the sequence number that begins at a place: behind a TEID, and without one
unfoldable pub teid_octets : List ℕ → ℕ
teid_octets d = number_of (get_or d 4 0 ∷ get_or d 5 0 ∷ get_or d 6 0 ∷ get_or d 7 0 ∷ [])

abbrev pub sequence_at : List ℕ → ℕ → ℕ
sequence_at d at = number_of (get_or d at 0 ∷ get_or d (at + 1) 0 ∷ get_or d (at + 2) 0 ∷ [])

unfoldable pub sequence_behind : List ℕ → ℕ
sequence_behind d = sequence_at d 8

unfoldable pub sequence_bare : List ℕ → ℕ
sequence_bare d = sequence_at d 4

-- the TEID, 0 where there is none
unfoldable pub teid_of : List ℕ → ℕ
teid_of d = pick {A = ℕ} (with_teid d) (teid_octets d) 0

unfoldable pub sequence_of : List ℕ → ℕ
sequence_of d = pick {A = ℕ} (with_teid d) (sequence_behind d) (sequence_bare d)

-- how many octets the header has: the fields start behind it
unfoldable pub header_size : List ℕ → ℕ
header_size d = pick {A = ℕ} (with_teid d) 12 8

unfoldable pub header_of : List ℕ → HeaderCursor
header_of d = record { kind = kind_of d; teid = teid_of d; sequence = sequence_of d; fields = header_size d }
