-- A way to compute what concerns one session, from the record of the place that its control TEID names: that record is the session, or the number
-- has none. Nothing here is to be believed: call_control has the sentences, and step_whole shows that this is what they come to.
-- Assumes nothing.
use Rattle.std.specs.Prelude.{ℕ, List, [], ◌≡◌, refl, length, Result, Ok, Err}
use Rattle.base_octets.specs.Choice.{pick, split}
use Rattle.base_octets.specs.Overlay.{overlay}
use Rattle.unit_session.specs.declared.Session.{Session}
use Rattle.unit_table.specs.Find.{has_control}
use Rattle.call_asked.specs.declared.Concern.{Concern}
use Rattle.unit_session.specs.Session.{waits_for}
use Rattle.call_own.specs.Outcome.{Done, bare_on}
use Rattle.call_control.specs.Amends.{bearer_on, concern_on, none_on}
use Rattle.step_session.specs.declared.Amended.{Amended}
use Rattle.wire_requests.specs.declared.Unreadable.{Unreadable}

-- ---- what is done, with the reply buffer as it is left
pub record AmendedWith : Type 0 where
  pub answer : Amended
  pub reply : List ℕ

abbrev pub amended_with : Amended → List ℕ → AmendedWith
amended_with a reply = record { answer = a; reply = reply }

unfoldable pub amended : Done → Amended
amended d = record { number = d.number; size = length d.message; session = d.session }

unfoldable pub done_with : Done → List ℕ → AmendedWith
done_with d reply = amended_with (amended d) (overlay d.message reply)

-- the session of a number is this record, or there is none and the record stays
unfoldable pub of_number : ℕ → Concern → ℕ → Session → Done
of_number teid x seq s = pick (has_control s teid) (concern_on x seq s) (none_on x seq s)

-- ---- laws: what has no reply leaves the buffer as it was
pub bare_is : (d : Done) (reply : List ℕ) → d.message ≡ [] → amended_with (amended d) reply ≡ done_with d reply
unfolding done_with amended overlay
bare_is d reply e = rw e

pub bearer_bare : (b : Result ℕ Unreadable) (seq : ℕ) (s : Session) → (bearer_on b seq s).message ≡ []
unfolding bearer_on bare_on
bearer_bare (Err u) seq s = refl
bearer_bare (Ok cause) seq s = split (waits_for seq s) (λ e. rw e) (λ e. rw e)

pub bare_on_lem : (number : ℕ) (s : Session) → (bare_on number s).message ≡ []
unfolding bare_on
bare_on_lem number s = refl
