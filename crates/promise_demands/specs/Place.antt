-- One place followed through the calls: what each call makes of its record. A session is gone when its place is free, or taken again in another
-- use: one call may free a place and take it again.
-- Assumes nothing.
use Rattle.std.specs.Prelude.{ℕ, Bool, false, not, ◌||◌, ◌≡◌, eqb}
use Rattle.unit_session.specs.declared.Session.{Session}
use Rattle.unit_session.specs.Session.{is_free}

-- the session that a place had in a use is gone
unfoldable pub gone : ℕ → Session → Bool
gone usage s = is_free s || not (eqb s.usage usage)

-- still the same session: its state and its own request as they were
pub record Same (s x : Session) : Type 0 where
  pub state : x.state ≡ s.state
  pub own : x.own ≡ s.own

-- the session is gone, or the same
abbrev pub After : Session → Session → Type 0
After s x = gone s.usage x ≡ false → Same s x
