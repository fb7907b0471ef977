-- What take control datagram comes to, whatever the datagram, the table and the store: a message laid over the reply buffer, and what its number
-- says of node, records and reply. A reply of the store comes to that as well.
-- Assumes nothing.
use Rattle.std.specs.Prelude.{ℕ, true, false, ◌≢◌, ◌≡◌}
use mathlib.Core.List.{List, [], ◌∷◌}
use Rattle.unit_session.specs.declared.Session.{Session}
use Rattle.unit_table.specs.declared.Node.{Node}
use Rattle.unit_table.specs.Open.{replaced}
use Rattle.wire_header.specs.Types.{among}
use Rattle.wire_requests.specs.declared.Create as C
use Rattle.call_own.specs.Outcome.{Outcome, Done, changing}
use Rattle.call_asked.specs.declared.Asked.{Asked}
use Rattle.call_asked.specs.declared.Asked.TheVariants as A
use Rattle.call_control.specs.Echoes.{heard_by}

-- the numbers of take control datagram whose cell is empty
unfoldable pub control_silent : List ℕ
control_silent = 1 ∷ 2 ∷ 3 ∷ 4 ∷ 6 ∷ 7 ∷ 8 ∷ 9 ∷ 11 ∷ []

-- all but the places that it says may have changed
abbrev pub ButForPlaces : Outcome → Outcome → Type 0
ButForPlaces o x = o ≡ changing o.answer.span x

-- the table kept: node and records as lent
abbrev pub TableKept : Outcome → Node → List Session → Type 0
TableKept o node t = (o.answer.node ≡ node) × (o.table ≡ t)

-- want of room: a Create was asked for, and all is as lent but for its Recovery and the session that it replaces
abbrev pub ButForCreate : Asked → Outcome → Node → List Session → Type 0
ButForCreate a o node t =
    (c : C.Create) × (seq : ℕ) × (a ≡ A.Create c seq) × (o.answer.node ≡ (heard_by c.recovery node t).node)
    × (o.table ≡ replaced c.imsi c.ebi (heard_by c.recovery node t).table)

abbrev pub Not : ℕ → List ℕ → Type 0
Not n l = among n l ≡ true → false ≡ true

-- ---- the walk over take control datagram: whatever it comes to is a message laid over the reply buffer, and what its number says of the rest
-- of one session: the message and the record
pub record OnOne (s : Session) (d : Done) : Type 0 where
  pub other : Not d.number (5 ∷ 73 ∷ [])
  pub silent : among d.number control_silent ≡ true → d.message ≡ []
  pub kept : d.number ≢ 0 → d.session ≡ s
