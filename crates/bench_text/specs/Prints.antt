-- The lines that the bench prints, each with its line end.
-- Assumes nothing.
use Rattle.std.specs.Prelude.{ℕ, List, [], ◌∷◌, ◌++◌, length, eqb}
use Rattle.base_octets.specs.Choice.{pick}
use Rattle.base_numerals.specs.Decimal.{decimal}
use Rattle.base_numerals.specs.Hex.{hex_of}

-- octets in hex, or a dash
unfoldable pub octets_text : List ℕ → List ℕ
octets_text l = pick (eqb (length l) 0) (45 ∷ []) (hex_of l)

-- number and reply
unfoldable pub reply_text : ℕ → List ℕ → List ℕ
reply_text number reply = decimal 1 number ++ (9 ∷ []) ++ octets_text reply

unfoldable pub answer_text : ℕ → List ℕ → List ℕ
answer_text number reply = reply_text number reply ++ (10 ∷ [])

-- the payload of a packet that is handed up, or the peer's address of one that is written down, is a third field
unfoldable pub packet_text : ℕ → List ℕ → List ℕ → List ℕ
packet_text number reply payload = reply_text number reply ++ (9 ∷ []) ++ octets_text payload ++ (10 ∷ [])

-- D and the datagram
unfoldable pub due_text : List ℕ → List ℕ
due_text datagram = (68 ∷ 9 ∷ []) ++ octets_text datagram ++ (10 ∷ [])

-- a letter and a number
unfoldable pub counted_text : ℕ → ℕ → List ℕ
counted_text letter n = (letter ∷ 9 ∷ []) ++ decimal 1 n ++ (10 ∷ [])

-- E and the number of the line; L and the live count
unfoldable pub bad_text : ℕ → List ℕ
bad_text n = counted_text 69 n

unfoldable pub live_text : ℕ → List ℕ
live_text n = counted_text 76 n
