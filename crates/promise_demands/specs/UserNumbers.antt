-- The numbers that take user datagram and take downlink packet answer on a table that keeps its rules.
-- Assumes nothing.
use Rattle.std.specs.Prelude.{ℕ, true, List, [], ◌∷◌, ◌≡◌}
use Rattle.unit_session.specs.declared.Session.{Session}
use Rattle.unit_table.specs.declared.Node.{Node}
use Rattle.wire_header.specs.Types.{among}
use Rattle.call_store.specs.Stored.{keeps, user_stored, down_stored}

unfoldable pub user_numbers : List ℕ
user_numbers = 0 ∷ 1 ∷ 3 ∷ 6 ∷ 7 ∷ 12 ∷ 13 ∷ 14 ∷ 15 ∷ []

-- of these, what is answered to a datagram by itself, whatever the table holds
unfoldable pub user_reads : List ℕ
user_reads = 0 ∷ 3 ∷ 6 ∷ 7 ∷ 12 ∷ 13 ∷ 14 ∷ []

unfoldable pub down_numbers : List ℕ
down_numbers = 0 ∷ 18 ∷ 19 ∷ 20 ∷ []

unfoldable pub UserNumbers : Type 0
UserNumbers = (node : Node) (t : List Session) (w : List (List ℕ)) (d reply : List ℕ) → keeps node t w ≡ true
    → among (user_stored node t w d reply).number user_numbers ≡ true

unfoldable pub DownNumbers : Type 0
DownNumbers = (node : Node) (t : List Session) (w : List (List ℕ)) (packet out : List ℕ) → keeps node t w ≡ true
    → among (down_stored node t w packet out).written.number down_numbers ≡ true
