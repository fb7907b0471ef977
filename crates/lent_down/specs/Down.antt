-- Downlink packets with lent records: what the one record that was read says is what the whole lent list says.
-- Assumes nothing.
use Rattle.std.specs.Prelude.{ℕ, Bool, false, List, ◌≡◌, get_or}
use Rattle.std.proofs.Common.{◌∙◌}
use Rattle.base_octets.specs.Choice.{split}
use Rattle.unit_session.specs.declared.Session.{Session}
use Rattle.unit_session.specs.Session.{blank_at}
use Rattle.unit_table.specs.declared.Node.{Node}
use Rattle.unit_table.specs.Rules.{keeps_rules}
use Rattle.unit_store.specs.Store.{store_ok}
use Rattle.call_store.specs.Stored.{keeps, down_stored}
use Rattle.call_store.specs.Steps.{keeps_by, keeps-not}
use Rattle.call_down.specs.OneRecord.{place_for, down_by, one_is}

pub down_lent : (node : Node) (l : List Session) (w : List (List ℕ)) (packet out : List ℕ) (kept : Bool) (place : ℕ) (s : Session)
    → kept ≡ keeps node l w → place ≡ place_for node packet → s ≡ get_or l place (blank_at 0) → down_by kept place s packet out ≡ down_stored node l w packet out
unfolding down_stored down_by
down_lent node l w packet out kept place s e-k e-p e-s =
    split (store_ok w)
    (λ ok. let k : kept ≡ keeps_rules node l = e-k ∙ keeps_by node l w ok in rw (ok, e-s, e-p, k) (one_is node l packet out))
    (λ ok. let k : kept ≡ false = e-k ∙ keeps-not node l w ok in rw (ok, k))
