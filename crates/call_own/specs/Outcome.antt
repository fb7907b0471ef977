-- What a call comes to: what it answers by value, the records and the reply buffer as they are left; of the records it is answered which places
-- may have changed (`Span`). What concerns one session is said of its
-- record alone (`Done`), and one operator carries it to the table: to a place (`on_session`), or to the session of a control TEID (`on_owner`).
-- Assumes nothing.
use Rattle.std.specs.Prelude.{ℕ, ◌+◌, List, [], length, get_or, ltb}
use Rattle.base_octets.specs.Choice.{pick}
use Rattle.base_octets.specs.Overlay.{overlay}
use Rattle.unit_tunnel.specs.Numbering.{places, control_offset}
use Rattle.unit_session.specs.declared.Session.{Session}
use Rattle.unit_session.specs.Session.{is_free}
use Rattle.unit_table.specs.declared.Node.{Node}
use Rattle.unit_table.specs.Change.{nobody, changed_at}
use Rattle.unit_table.specs.Find.{place_found, owner_of}
use Rattle.call_own.specs.declared.Answer.{Answer}
use Rattle.call_own.specs.declared.Span.{Span}

-- the reply buffer has so many octets or more
unfoldable pub least_reply : ℕ
least_reply = 128

-- the records, and what goes with them
pub record Held : Type 0 where
  pub node : Node
  pub table : List Session

pub record Outcome : Type 0 where
  pub answer : Answer
  pub table : List Session
  pub reply : List ℕ

abbrev pub outcome : Answer → List Session → List ℕ → Outcome
outcome a t reply = record { answer = a; table = t; reply = reply }

-- ---- the places whose records may have changed: those from `from` on and below `to`; every other record is as it was
-- so many from the first on
abbrev pub first_places : ℕ → Span
first_places n = record { from = 0; to = n }

abbrev pub no_places : Span
no_places = first_places 0

abbrev pub all_places : Span
all_places = first_places places

-- one place; where it is past the last, none
unfoldable pub one_place : ℕ → Span
one_place i = pick (ltb i places) (record { from = i; to = i + 1 }) no_places

-- two places and what lies between them
unfoldable pub between : ℕ → ℕ → Span
between i j = pick (ltb i j) (record { from = i; to = j + 1 }) (record { from = j; to = i + 1 })

-- two places, of which each may be past the last
unfoldable pub two_places : ℕ → ℕ → Span
two_places i j = pick (ltb i places) (pick (ltb j places) (between i j) (one_place i)) (one_place j)

-- the place of a session; where there is none, none
unfoldable pub session_place : List Session → ℕ → Span
session_place t i = pick (is_free (get_or t i nobody)) no_places (one_place i)

-- ---- what a call answers and comes to
-- a number alone: no record has changed
abbrev pub bare : ℕ → Node → Answer
bare number node = record { number = number; size = 0; node = node; span = no_places }

-- the same with the places that may have changed
abbrev pub spanning : Span → Answer → Answer
spanning span a = record { number = a.number; size = a.size; node = a.node; span = span }

abbrev pub changing : Span → Outcome → Outcome
changing span o = outcome (spanning span o.answer) o.table o.reply

-- with it, no reply: the buffer as lent
unfoldable pub no_reply : ℕ → Node → List Session → List ℕ → Outcome
no_reply number node t reply = outcome (bare number node) t reply

-- a message is laid over the front of the reply buffer, and its length is the reply's
abbrev pub replied : ℕ → Node → List Session → List ℕ → List ℕ → Outcome
replied number node t m reply = outcome (record { number = number; size = length m; node = node; span = no_places }) t (overlay m reply)

-- ---- what concerns one session: the number, the record as it is then, and the message that answers
pub record Done : Type 0 where
  pub number : ℕ
  pub session : Session
  pub message : List ℕ

-- a number alone
unfoldable pub bare_on : ℕ → Session → Done
bare_on number s = record { number = number; session = s; message = [] }

-- and done on the table: the record of that place, every other as it was; a place that there is not reads as free
unfoldable pub on_session : Node → List Session → ℕ → (Session → Done) → List ℕ → Outcome
on_session node t i f reply =
    changing (session_place t i)
    (replied (f (get_or t i nobody)).number node (changed_at (λ s. (f s).session) i t) (f (get_or t i nobody)).message reply)

-- the session whose control TEID it is
unfoldable pub on_owner : Node → List Session → ℕ → (Session → Done) → List ℕ → Outcome
on_owner node t teid f reply = on_session node t (place_found (owner_of control_offset teid t) t) f reply

-- ---- what goes back beside the records: what is answered by value, and the reply buffer
pub record Back : Type 0 where
  pub answer : Answer
  pub reply : List ℕ

abbrev pub back : Answer → List ℕ → Back
back a reply = record { answer = a; reply = reply }

-- with the records
abbrev pub back_with : List Session → Back → Outcome
back_with t b = outcome b.answer t b.reply
