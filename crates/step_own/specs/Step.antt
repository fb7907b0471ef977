-- A way to compute a tick and a close: the change and how many records it is made of, what becomes of one record, what is answered. Nothing here is to
-- be believed: the laws show that these steps are `tick_of` and `close_of`.
-- Assumes nothing.
use Rattle.std.specs.Prelude.{ℕ, Bool, true, false, not, ◌&&◌, List, [], ◌≡◌, refl, length, get_or, set, eqb}
use Rattle.std.proofs.Common.{sym, ◌∙◌, arith, eqb-true}
use Rattle.std.proofs.lemmas.List.{set-get_or}
use Rattle.base_octets.specs.Overlay.{overlay}
use Rattle.base_octets.specs.Number.{taken, rules_broken}
use Rattle.base_octets.specs.Choice.{pick, split, impossible}
use Rattle.base_octets.specs.Every.{every}
use Rattle.base_octets.specs.Places.{map_first, map_none, map_all}
use Rattle.unit_tunnel.specs.Numbering.{places}
use Rattle.unit_session.specs.declared.Session.{Session}
use Rattle.unit_session.specs.OwnRequest.{spent}
use Rattle.unit_session.specs.Session.{is_free, blank_at, freed, closed, ticked}
use Rattle.unit_table.specs.declared.Node.{Node}
use Rattle.unit_table.specs.declared.Change.{Change}
use Rattle.unit_table.specs.declared.Change.TheVariants as C
use Rattle.unit_table.specs.Rules.{bounds_of, keeps_rules, rules_of}
use Rattle.unit_table.specs.Become.{changed_by}
use Rattle.unit_table.specs.Change.{nobody, changed_at}
use Rattle.unit_table.specs.Own.{echo_ticked, all_ticked}
use Rattle.step_keys.specs.Survey.{awaits_none}
use Rattle.step_check.specs.declared.Standing.{Standing}
use Rattle.step_check.specs.declared.Standing.TheVariants.{Broken, Quiet, Awaiting}
use Rattle.step_check.specs.Summary.{stands_of, stands_by}
use Rattle.unit_store.specs.Row.{store_rows}
use Rattle.call_own.specs.Outcome.{outcome, first_places, no_places, one_place, session_place, bare, spanning, bare_on, on_session, no_reply}
use Rattle.call_own.specs.Calls.{timed, quiet, tick_places, tick_of, close_on, close_of}
use Rattle.call_own.specs.Outside.{all_still}
use Rattle.call_own.specs.declared.Answer.{Answer}
use Rattle.call_own.specs.Others.{rules_other}

-- ---- tick
unfoldable pub tick_change : Node → Change
tick_change node = pick (spent node.plan.sends node.echo) C.Free (C.Tick node.plan.sends)

unfoldable pub tick_count : Standing → Node → ℕ
tick_count Broken node = 0
tick_count Quiet node = pick {A = ℕ} (spent node.plan.sends node.echo) places 0
tick_count Awaiting node = places

unfoldable pub aged_count : Standing → ℕ
aged_count how = pick {A = ℕ} (stands_by how) store_rows 0

unfoldable pub tick_answer : Standing → ℕ → Node → Answer
tick_answer how n node =
    pick (stands_by how) (spanning (first_places n) (bare taken (timed (echo_ticked node.plan node.echo) node.next node)))
    (bare rules_broken node)

-- how the table with its store stands, of how the records stand
unfoldable pub how_with : Bool → Standing → Standing
how_with sound how = pick {A = Standing} sound how Broken

-- ---- close: what is said of the record, where the rules are kept
unfoldable pub closed_by : Bool → Session → Session
closed_by kept s = pick kept (close_on s).session s

unfoldable pub close_answer : Bool → Node → ℕ → Session → Answer
close_answer kept node i s =
    spanning (pick (kept && not (is_free s)) (one_place i) no_places) (bare (pick {A = ℕ} kept (close_on s).number rules_broken) node)

-- ---- laws
-- the rules count the records
pub kept_long : (node : Node) (l : List Session) → keeps_rules node l ≡ true → length l ≡ places
kept_long node l e = split (eqb (length l) places) (λ t. eqb-true (length l) places t) (λ t. impossible (sym (rules_other node l t) ∙ e))

-- in the words of the code
pub closed_is : (kept : Bool) (s : Session) → closed_by kept s ≡ pick (kept && not (is_free s)) (closed s) s
unfolding closed_by close_on bare_on
closed_is true s = split (is_free s) (λ e. rw e) (λ e. rw e)
closed_is false s = refl

-- no place awaits a number: the same of each record
quiet_is : (l : List Session) → quiet l ≡ every awaits_none l
unfolding quiet awaits_none
quiet_is l = refl

-- the steps of a tick are a tick of the lent list
pub lent_tick : (node : Node) (l zs : List Session) (how : Standing) (c : Change) (n : ℕ) (r : Answer)
    → how ≡ stands_of node l → c ≡ tick_change node → n ≡ tick_count how node → zs ≡ map_first (changed_by c) n l → r ≡ tick_answer how n node
    → outcome r zs [] ≡ tick_of node l
unfolding tick_change tick_count tick_answer no_reply tick_of tick_places all_ticked changed_by places stands_of stands_by
lent_tick node l zs how c n r e-h e-c e-n e-z e-r = split (keeps_rules node l)
    (λ t. let m = kept_long node l t in
    let w = quiet_is l in
    split (spent node.plan.sends node.echo)
    (λ s. split (every awaits_none l)
    (λ q. rw (e-r, e-z, e-n, e-c, e-h, t, w, q, s, map_all freed places l (omega arith)))
    (λ q. rw (e-r, e-z, e-n, e-c, e-h, t, w, q, s, map_all freed places l (omega arith))))
    (λ s. split (every awaits_none l)
    (λ q. rw (e-r, e-z, e-n, e-c, e-h, t, w, q, s, map_none (ticked node.plan.sends) l, all_still (bounds_of node.plan) node.plan.sends l (rules_of node l t).each (w ∙ q)))
    (λ q. rw (e-r, e-z, e-n, e-c, e-h, t, w, q, s, map_all (ticked node.plan.sends) places l (omega arith)))))
    (λ t. rw (e-r, e-z, e-n, e-h, t, map_none (changed_by c) l))

-- and those of closing a place: what is put back unchanged changes nothing
pub lent_close : (node : Node) (l zs : List Session) (i : ℕ) (kept : Bool) (s c : Session) (r : Answer)
    → kept ≡ keeps_rules node l → s ≡ get_or l i (blank_at 0) → c ≡ closed_by kept s → zs ≡ set l i c → r ≡ close_answer kept node i s
    → outcome r zs [] ≡ close_of node l i
unfolding closed_by close_answer no_reply close_of on_session session_place close_on bare_on changed_at overlay
lent_close node l zs i kept s c r e-k e-s e-c e-z e-r = split (keeps_rules node l)
    (λ t. split (is_free (get_or l i nobody)) (λ f. rw (e-r, e-z, e-c, e-s, e-k, t, f)) (λ f. rw (e-r, e-z, e-c, e-s, e-k, t, f)))
    (λ t. rw (e-r, e-z, e-c, e-s, e-k, t, set-get_or l i nobody))
