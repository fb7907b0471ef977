-- What is said of one record, on the table: the rules that it keeps, and the places that it leaves as they were. The node stays and the
-- number is the record's, by definition.
-- Assumes nothing.
use Rattle.std.specs.Prelude.{ℕ, ◌<◌, true, List, ◌≡◌, length, get_or}
use Rattle.base_octets.specs.Choice.{split}
use Rattle.unit_session.specs.declared.Session.{Session}
use Rattle.unit_session.specs.declared.Bounds.{Bounds}
use Rattle.unit_session.specs.Session.{is_free, record_ok, freed}
use Rattle.unit_session.specs.Keep.{Lighter, ok_freed, ok_closed, lighter_same, lighter_freed, lighter_closed}
use Rattle.unit_table.specs.declared.Node.{Node}
use Rattle.unit_table.specs.Rules.{bounds_of, keeps_rules, rules_of, rules_to}
use Rattle.unit_table.specs.Change.{nobody, changed_at, at_changed, record_ok_lem, rules-set}
use Rattle.call_own.specs.Outcome.{Done, bare_on, on_session}
use Rattle.call_own.specs.Calls.{close_on}

-- a record that may stand in the place of another: it keeps the rules of a record, is on no other access point, has no other IMSI and EBI,
-- and awaits no other number
pub record Fits (b : Bounds) (s x : Session) : Type 0 where
  pub ok : record_ok b x ≡ true
  pub lighter : Lighter x s

module _ (b : Bounds) (s : Session) (ok : record_ok b s ≡ true) where
  pub fits_same : Fits b s s
  fits_same = record { ok = ok; lighter = lighter_same s }

  pub fits-freed : Fits b s (freed s)
  fits-freed = record { ok = ok_freed b s ok; lighter = lighter_freed s }

  pub fits-closed : Fits b s (close_on s).session
  unfolding close_on bare_on
  fits-closed = split (is_free s) (λ e. rw e fits_same) (λ e. rw e (record { ok = ok_closed b s ok; lighter = lighter_closed s }))

module _ (node : Node) (l : List Session) (i : ℕ) (f : Session → Done) (reply : List ℕ) where
  -- the table's rules are kept
  pub on_keeps : keeps_rules node l ≡ true → ((s : Session) → record_ok (bounds_of node.plan) s ≡ true → Fits (bounds_of node.plan) s (f s).session)
      → keeps_rules (on_session node l i f reply).answer.node (on_session node l i f reply).table ≡ true
  unfolding on_session changed_at
  on_keeps k fits =
      let r = rules_of node l k in
      let q = fits (get_or l i nobody) (record_ok_lem node.plan node.echo node.next l r i) in
      rules_to node (changed_at (λ s. (f s).session) i l)
      (rules-set node.plan node.echo node.next l r i (f (get_or l i nobody)).session q.ok q.lighter)

  -- every place is as it was, or what becomes of it
  pub on_at : (P : Session → Type 0) (j : ℕ) → j < length l → P (get_or l j nobody) → (j ≡ i → P (f (get_or l j nobody)).session)
      → P (get_or (on_session node l i f reply).table j nobody)
  unfolding on_session
  on_at P j h a b = at_changed P (λ s. (f s).session) l j i h a b
