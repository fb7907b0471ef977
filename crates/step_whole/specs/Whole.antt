-- The control call on two records equals its definition on the whole table, whatever is asked for, for any table and any reply buffer.
-- Assumes nothing.
use Rattle.std.specs.Prelude.{ℕ, List, ◌≡◌, length}
use Rattle.unit_session.specs.declared.Session.{Session}
use Rattle.unit_table.specs.declared.Node.{Node}
use Rattle.call_asked.specs.declared.Asked.{Asked}
use Rattle.call_control.specs.Control.{control_asked}
use Rattle.step_control.specs.declared.Basis.{Basis}
use Rattle.step_control.specs.Step.{concerned_in, taken_on, placed_concerned}
use Rattle.step_whole.specs.Basis.{Sees}

-- ---- whatever is asked for
unfoldable pub InPlace : Type 0
InPlace = (node : Node) (l : List Session) (w : Asked) (reply : List ℕ) (g : Basis) → Sees node l w (length reply) g
    → control_asked node l w reply ≡ placed_concerned node (concerned_in g node l w) l (taken_on node w (concerned_in g node l w) reply)
