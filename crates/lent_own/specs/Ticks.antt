-- The steps of a tick and of a close on lent records with the lent store are the calls' own definitions on the lent lists.
-- Assumes nothing.
use Rattle.std.specs.Prelude.{ℕ, Bool, true, false, List, [], ◌≡◌, get_or, set}
use Rattle.std.proofs.Common.{◌∙◌}
use Rattle.std.proofs.lemmas.List.{set-get_or}
use Rattle.base_octets.specs.Choice.{pick, split}
use Rattle.base_octets.specs.Every.{every}
use Rattle.base_octets.specs.Places.{map_first, map_none}
use Rattle.unit_session.specs.declared.Session.{Session}
use Rattle.unit_session.specs.Session.{blank_at}
use Rattle.unit_table.specs.declared.Node.{Node}
use Rattle.unit_table.specs.declared.Change.{Change}
use Rattle.unit_table.specs.Rules.{keeps_rules}
use Rattle.unit_table.specs.Become.{changed_by}
use Rattle.unit_store.specs.Row.{life_taken}
use Rattle.unit_store.specs.Store.{store_ok, aged}
use Rattle.call_own.specs.declared.Answer.{Answer}
use Rattle.call_own.specs.Outcome.{outcome, no_reply}
use Rattle.call_own.specs.Calls.{tick_of}
use Rattle.call_store.specs.Stored.{stored, keeps, tick_stored, close_stored}
use Rattle.call_store.specs.Steps.{keeps_by, keeps-not, rows_all}
use Rattle.step_keys.specs.Survey.{awaits_none}
use Rattle.step_check.specs.declared.Standing.{Standing}
use Rattle.step_check.specs.declared.Standing.TheVariants.{Broken}
use Rattle.step_check.specs.Summary.{stands_of, stands_by}
use Rattle.step_own.specs.Step.{how_with, tick_change, tick_count, aged_count, tick_answer, lent_tick, closed_by, close_answer, lent_close}

-- life is taken from all rows, or from none where a rule of the table is broken
aged_rows : (node : Node) (l : List Session) (w : List (List ℕ)) → store_ok w ≡ true
    → map_first (life_taken false) (aged_count (stands_of node l)) w ≡ pick (keeps_rules node l) (aged w) w
unfolding aged_count aged stands_of stands_by
aged_rows node l w ok =
    split (keeps_rules node l)
    (λ k. split (every awaits_none l) (λ q. rw (k, q) (rows_all (life_taken false) w ok)) (λ q. rw (k, q) (rows_all (life_taken false) w ok)))
    (λ k. rw k (map_none (life_taken false) w))

pub tick_lent : (node : Node) (l zs : List Session) (w ws : List (List ℕ)) (sound : Bool) (stands how : Standing) (c : Change) (n rows : ℕ) (r : Answer)
    → sound ≡ store_ok w → stands ≡ stands_of node l → how ≡ how_with sound stands → c ≡ tick_change node → n ≡ tick_count how node
    → zs ≡ map_first (changed_by c) n l → rows ≡ aged_count how → ws ≡ map_first (life_taken false) rows w → r ≡ tick_answer how n node
    → stored (outcome r zs []) ws ≡ tick_stored node l w
unfolding tick_stored how_with tick_count tick_answer aged_count stands_by no_reply
tick_lent node l zs w ws sound stands how c n rows r e-s e-t e-h e-c e-n e-z e-k e-w e-r =
    split (store_ok w)
    (λ ok. let h : how ≡ stands_of node l = rw (e-h, e-s, ok, e-t) in
    let o : outcome r zs [] ≡ tick_of node l = lent_tick node l zs how c n r h e-c e-n e-z e-r in
    let v : ws ≡ pick (keeps_rules node l) (aged w) w = e-w ∙ rw (e-k, h) (aged_rows node l w ok) in
    rw (ok, o, v))
    (λ ok. let h : how ≡ Broken = rw (e-h, e-s, ok) in
    rw (ok, e-r, e-z, e-w, e-k, e-n, h, map_none (changed_by c) l, map_none (life_taken false) w))

pub close_lent : (node : Node) (l zs : List Session) (w : List (List ℕ)) (i : ℕ) (kept : Bool) (s c : Session) (r : Answer)
    → kept ≡ keeps node l w → s ≡ get_or l i (blank_at 0) → c ≡ closed_by kept s → zs ≡ set l i c → r ≡ close_answer kept node i s
    → outcome r zs [] ≡ close_stored node l w i
unfolding close_stored closed_by close_answer no_reply
close_lent node l zs w i kept s c r e-k e-s e-c e-z e-r =
    split (store_ok w)
    (λ ok. let k : kept ≡ keeps_rules node l = e-k ∙ keeps_by node l w ok in rw ok (lent_close node l zs i kept s c r k e-s e-c e-z e-r))
    (λ ok. let k : kept ≡ false = e-k ∙ keeps-not node l w ok in rw (ok, e-r, e-z, e-c, k, e-s, set-get_or l i (blank_at 0)))
