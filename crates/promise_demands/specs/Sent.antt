-- Fields as they are sent, one behind the other, and what is found when their octets are read: of each type and instance the first, whole, wherever
-- it stands and whatever stands around it; and no overrun.
-- Assumes nothing.
use Rattle.std.specs.Prelude.{ℕ, ◌%◌, Bool, true, false, ◌&&◌, List, [], ◌∷◌, ◌++◌, ◌≡◌, length, eqb, ltb, Some, None, Option}
use Rattle.base_octets.specs.Choice.{pick}
use Rattle.base_octets.specs.Every.{every}
use Rattle.base_octets.specs.BigEndian.{octets_of}
use Rattle.wire_fields.specs.Walk.{part, overruns}
use Rattle.wire_fields.specs.Search.{find}
use Rattle.wire_fields.specs.declared.Found.{Found}

-- ---- what octets hold: read from them, the field of this type and instance is there, and these are the octets of its value
pub record Holds (s : List ℕ) (kind inst : ℕ) (value : List ℕ) : Type 0 where
  pub start : ℕ
  pub found : find s kind inst ≡ Some (record { start = start; size = length value })
  pub octets : part s start (length value) ≡ value

-- ---- what is sent: a field is its type, its fourth octet, of which the low 4 bits are the instance, and its value
pub record Sent : Type 0 where
  pub kind : ℕ
  pub fourth : ℕ
  pub value : List ℕ

-- a length has 2 octets
unfoldable pub fits : Sent → Bool
fits f = ltb (length f.value) 65536

-- the octets of fields
unfoldable pub sent_octets : List Sent → List ℕ
sent_octets [] = []
sent_octets (f ∷ l) = f.kind ∷ octets_of 2 (length f.value) ++ (f.fourth ∷ f.value ++ sent_octets l)

-- the value of the first field of a type and instance, or none
unfoldable pub first_sent : List Sent → ℕ → ℕ → Option (List ℕ)
first_sent [] kind inst = None
first_sent (f ∷ l) kind inst = pick (eqb f.kind kind && eqb (f.fourth % 16) inst) (Some f.value) (first_sent l kind inst)

-- ---- the law: what is sent is found
pub record FoundAgain (l : List Sent) : Type 0 where
  pub whole : overruns (sent_octets l) ≡ false
  pub held : (kind inst : ℕ) (value : List ℕ) → first_sent l kind inst ≡ Some value → Holds (sent_octets l) kind inst value
  pub missing : (kind inst : ℕ) → first_sent l kind inst ≡ None → find (sent_octets l) kind inst ≡ None

unfoldable pub SentIsFound : Type 0
SentIsFound = (l : List Sent) → every fits l ≡ true → FoundAgain l
