-- Overruns as the requests are tested for them: in the message, and in its first Bearer Context (93, instance 0) alone.
-- Assumes nothing.
use Rattle.std.specs.Prelude.{ℕ, Bool, true, false, ◌||◌, List, ◌≡◌, Option, Some, None}
use Rattle.wire_fields.specs.Walk.{part, overruns}
use Rattle.wire_fields.specs.Search.{find}
use Rattle.wire_fields.specs.declared.Found.{Found}

-- the type of the field that holds fields
abbrev pub bearer_context : ℕ
bearer_context = 93

unfoldable pub over_within : List ℕ → Option Found → Bool
over_within s (Some f) = overruns (part s f.start f.size)
over_within s None = false

unfoldable pub over_in : List ℕ → Bool
over_in s = overruns s || over_within s (find s bearer_context 0)

-- ---- the tests one after the other
module _ (s : List ℕ) where
  pub over_message : overruns s ≡ true → over_in s ≡ true
  unfolding over_in
  over_message e = rw e

  pub over_no_bearer : overruns s ≡ false → find s bearer_context 0 ≡ None → over_in s ≡ false
  unfolding over_in over_within
  over_no_bearer e f = rw (e, f)

  pub over_bearer : (f : Found) → overruns s ≡ false → find s bearer_context 0 ≡ Some f → over_in s ≡ overruns (part s f.start f.size)
  unfolding over_in over_within
  over_bearer f e g = rw (e, g)
