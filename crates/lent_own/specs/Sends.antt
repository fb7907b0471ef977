-- The steps of a send on lent records are the call's own definition on the lent list.
-- Assumes nothing.
use Prim.Native.Nat.{ℕ, suc, ◌+◌}
use Rattle.std.specs.Prelude.{Bool, true, false, ◌≡◌, length, get_or, set, eqb, ltb}
use Rattle.std.proofs.Math.Bool.{not}
use mathlib.Core.List.{List, [], ◌∷◌, map}
use Rattle.std.proofs.Math.Path.{refl, ap}
use Rattle.std.proofs.Common.{sym, ◌∙◌}
use Rattle.std.proofs.Math.Seq.{set-get_or}
use borrow.Author.Tests.{not-true}
use Rattle.base_octets.specs.Number.{reply_short, rules_broken, nothing_due}
use Rattle.base_octets.specs.Choice.{split, and_left, and_right}
use Rattle.base_octets.specs.Every.{every}
use Rattle.base_octets.specs.Search.{first_of}
use Rattle.unit_tunnel.specs.Numbering.{places}
use Rattle.unit_session.specs.declared.Session.{Session}
use Rattle.unit_session.specs.declared.Bounds.{Bounds}
use Rattle.unit_session.specs.Session.{blank_at, is_due, record_ok}
use Rattle.unit_table.specs.declared.Node.{Node}
use Rattle.unit_table.specs.Rules.{bounds_of, keeps_rules, rules_of}
use Rattle.unit_table.specs.Change.{nobody, changed_at}
use Rattle.unit_table.specs.Number.{taken_number}
use Rattle.unit_table.specs.Own.{due_place}
use Rattle.step_keys.specs.Survey.{wait_of}
use Rattle.step_keys.specs.Unclaimed.{free_among_lem}
use Rattle.call_own.specs.Outcome.{outcome, least_reply, bare, no_reply, Back, back}
use Rattle.call_own.specs.Calls.{echo_sent, place_sent, due_sent, send_of}
use Rattle.step_check.specs.declared.Checked.{Checked}
use Rattle.step_check.specs.Digest.{digest_of, idle_in_lem}
use Rattle.step_check.specs.Findings.{due_in}
use Rattle.step_check.specs.Summary.{stands_by, awaits, stands_kept}
use Rattle.unit_store.specs.Store.{store_ok}
use Rattle.call_store.specs.Stored.{broken_number, send_stored}
use Rattle.lent_check.specs.Read.{read_of}
use Rattle.lent_check.specs.Kept.{checked_of, checked_idle, checked_due, checked_undue, checked_waits}
use Rattle.call_own.specs.declared.Answer.{Answer}
use Rattle.step_own.specs.declared.Sending.{Sending}
use Rattle.step_own.specs.declared.Sending.TheVariants.{Nothing, Echo, At}
use Rattle.step_own.specs.Step.{kept_long}
use Rattle.step_own.specs.Send.{taken_among, awaiting_in, next_due, due_with, place_of, sent_by, echo_answer, place_answer, send_answer}

-- ---- laws of what is seen of records that keep the rules
module _ (node : Node) (l : List Session) (kept : keeps_rules node l ≡ true) where
  abbrev b : Bounds
  b = bounds_of node.plan

  taken_is : taken_among node (read_of (λ z. wait_of z.own) (awaiting_in (checked_of node 0 l)) l) ≡ taken_number node.next node.echo l
  unfolding taken_among taken_number awaiting_in
  taken_is = rw (checked_waits node 0 l kept (awaits (checked_of node 0 l).how) refl) (free_among_lem (places + 2) node.next node.echo l)

  double : (x : Bool) → not (not x) ≡ x
  double true = refl
  double false = refl

  due_each : (m : List Session) → every (record_ok b) m ≡ true → first_of due_in (map (digest_of b) m) ≡ first_of is_due m
  unfolding first_of every
  due_each [] e = refl
  due_each (s ∷ m) e =
      rw (idle_in_lem b s (and_left (record_ok b s) (every (record_ok b) m) e), double (is_due s), due_each m (and_right (record_ok b s) (every (record_ok b) m) e))

  idle_none : (m : List Session) → every (λ s. not (is_due s)) m ≡ true → first_of is_due m ≡ length m
  unfolding first_of every
  idle_none [] e = refl
  idle_none (s ∷ m) e =
      rw (not-true (is_due s) (and_left (not (is_due s)) (every (λ z. not (is_due z)) m) e)) (ap suc (idle_none m (and_right (not (is_due s)) (every (λ z. not (is_due z)) m) e)))

  due_is : (checked_of node 0 l).findings.due ≡ first_of is_due l
  due_is = split (checked_of node 0 l).findings.summary.idle
      (λ e. checked_undue node 0 l kept e ∙ sym (rules_of node l kept).size ∙ sym (idle_none l (sym (checked_idle node 0 l kept) ∙ e)))
      (λ e. checked_due node 0 l kept e ∙ due_each l (rules_of node l kept).each)

  stands_yes : stands_by (checked_of node 0 l).how ≡ true
  unfolding checked_of
  stands_yes = stands_kept node l ∙ kept

stands_no : (node : Node) (l : List Session) → keeps_rules node l ≡ false → stands_by (checked_of node 0 l).how ≡ false
unfolding checked_of
stands_no node l e = stands_kept node l ∙ e

-- ---- the steps of a send are a send on the lent list
module _ (node : Node) (l zs : List Session) (reply after : List ℕ) (p : Sending) (i : ℕ) (s t : Session) (r : Answer)
    (e-i : i ≡ place_of p) (e-s : s ≡ get_or l i (blank_at 0)) (e-t : t ≡ sent_by p node s) (e-z : zs ≡ set l i t) (e-r : back r after ≡ send_answer p node s reply) where
  sends_nothing : (number : ℕ) → p ≡ Nothing number → outcome r zs after ≡ no_reply number node l reply
  unfolding sent_by send_answer no_reply
  sends_nothing number e =
      let q : back r after ≡ back (bare number node) reply = rw e at e-r in
      let f : r ≡ bare number node = ap (λ (x : Back). x.answer) q in
      let g : after ≡ reply = ap (λ (x : Back). x.reply) q in
      rw (f, g, e-z, e-t, e, e-s, set-get_or l i (blank_at 0))

  sends_echo : (k : ℕ) → p ≡ Echo k → outcome r zs after ≡ echo_sent node l k reply
  unfolding sent_by send_answer echo_answer echo_sent
  sends_echo k e =
      let q : back r after ≡ echo_answer node k reply = rw e at e-r in
      let f : r ≡ (echo_answer node k reply).answer = ap (λ (x : Back). x.answer) q in
      let g : after ≡ (echo_answer node k reply).reply = ap (λ (x : Back). x.reply) q in
      rw (f, g, e-z, e-t, e, e-s, set-get_or l i (blank_at 0))

  sends_place : (j k : ℕ) → p ≡ At j k → outcome r zs after ≡ place_sent node l k j (get_or l j nobody) reply
  unfolding place_of sent_by send_answer place_answer place_sent changed_at
  sends_place j k e =
      let q : back r after ≡ place_answer node k j s reply = rw e at e-r in
      let f : r ≡ (place_answer node k j s reply).answer = ap (λ (x : Back). x.answer) q in
      let g : after ≡ (place_answer node k j s reply).reply = ap (λ (x : Back). x.reply) q in
      rw (f, g, e-z, e-t, e-s, e-i, e)

  sends_due : (v : Checked) (awaiting : Bool) (waits : List ℕ) → v ≡ checked_of node 0 l → awaiting ≡ awaiting_in v → waits ≡ read_of (λ z. wait_of z.own) awaiting l
      → p ≡ next_due (length reply) node v waits → outcome r zs after ≡ send_of node l reply
  unfolding next_due send_of due_sent due_place
  sends_due v awaiting waits e-v e-l e-w e-p =
      let w : waits ≡ read_of (λ z. wait_of z.own) (awaiting_in (checked_of node 0 l)) l = e-w ∙ rw (e-l, e-v) in
      let q = rw e-v at e-p in
      split (ltb (length reply) least_reply)
      (λ b. rw b (sends_nothing reply_short (rw b at q)))
      (λ b. split (keeps_rules node l)
      (λ m. let n = kept_long node l m in
      let y = stands_yes node l m in
      let k = ap (taken_among node) w ∙ taken_is node l m in
      let d = due_is node l m in
      split (eqb node.echo.timer 0)
      (λ f. rw (b, m, f) (sends_echo (taken_number node.next node.echo l) (rw (b, y, f, k) at q)))
      (λ f. split (ltb (first_of is_due l) places)
      (λ h. rw (b, m, f, n, h) (sends_place (first_of is_due l) (taken_number node.next node.echo l) (rw (b, y, f, k, d, h) at q)))
      (λ h. rw (b, m, f, n, h) (sends_nothing nothing_due (rw (b, y, f, d, h) at q)))))
      (λ m. rw (b, m) (sends_nothing rules_broken (rw (b, stands_no node l m) at q))))

  pub send_lent : (w : List (List ℕ)) (sound : Bool) (v : Checked) (awaiting : Bool) (waits : List ℕ) (due : Sending)
      → sound ≡ store_ok w → v ≡ checked_of node 0 l → awaiting ≡ awaiting_in v → waits ≡ read_of (λ z. wait_of z.own) awaiting l
      → due ≡ next_due (length reply) node v waits → p ≡ due_with sound (length reply) due → outcome r zs after ≡ send_stored node l w reply
  unfolding due_with send_stored broken_number
  send_lent w sound v awaiting waits due e-o e-v e-l e-w e-d e-p =
      let q = rw e-o at e-p in
      split (store_ok w)
      (λ ok. rw ok (sends_due v awaiting waits e-v e-l e-w (rw ok at q ∙ e-d)))
      (λ ok. let h = rw ok at q in
      split (ltb (length reply) least_reply)
      (λ b. rw (ok, b) (sends_nothing reply_short (rw b at h)))
      (λ b. rw (ok, b) (sends_nothing rules_broken (rw b at h))))
