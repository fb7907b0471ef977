-- The fields of a line, parted by tabs.
-- Assumes nothing.
use Rattle.std.specs.Prelude.{ℕ, Bool, List, [], eqb, count_by, unwrap_or}
use Rattle.std.specs.List.{slice_split, slice_get}

unfoldable pub is_tab : ℕ → Bool
is_tab c = eqb c 9

abbrev pub tabs_in : List ℕ → ℕ
tabs_in l = count_by is_tab l

-- the field of a number, from 0; past the last there is nothing
unfoldable pub field_at : ℕ → List ℕ → List ℕ
field_at k l = unwrap_or (slice_get (slice_split is_tab l) k) []
