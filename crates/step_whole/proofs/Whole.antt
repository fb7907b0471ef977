-- The laws of what specs/Whole.antt says.
-- Assumes nothing.
use Rattle.std.specs.Prelude.{ℕ, Bool, ◌&&◌, List, map, ◌≡◌, length, get_or, set, ltb, Option, None}
use Rattle.std.proofs.Math.Bool.{true, false}
use Rattle.std.proofs.Math.Path.{refl, sym, ap}
use Rattle.std.proofs.Common.{◌∙◌, arith, ltb-true, ltb-false}
use Rattle.std.proofs.Math.ListN.{length-set}
use Rattle.std.proofs.lemmas.List.{length-map}
use Rattle.std.proofs.Math.Seq.{set_out}
use Rattle.base_octets.specs.Choice.{pick, split}
use Rattle.base_octets.specs.Overlay.{overlay}
use Rattle.unit_tunnel.specs.Numbering.{places}
use Rattle.unit_tunnel.specs.declared.ControlTeid.{ControlTeid}
use Rattle.unit_session.specs.declared.Session.{Session}
use Rattle.unit_session.specs.Session.{freed}
use Rattle.unit_table.specs.declared.Node.{Node}
use Rattle.unit_table.specs.Rules.{keeps_rules, rules_of}
use Rattle.unit_table.specs.Change.{nobody}
use Rattle.unit_table.specs.Find.{has_control}
use Rattle.wire_messages.specs.Messages.{version_not_supported, echo_of}
use Rattle.wire_messages.specs.Types.{echo_reply_type}
use Rattle.wire_requests.specs.declared.Create as C
use Rattle.call_asked.specs.declared.Concern.{Concern}
use Rattle.call_asked.specs.declared.Asked.{Asked}
use Rattle.call_asked.specs.declared.Asked.TheVariants as A
use Rattle.call_own.specs.declared.Span.{Span}
use Rattle.call_own.specs.Outcome.{Outcome, outcome, no_places, all_places, on_owner, least_reply, no_reply}
use Rattle.call_control.specs.Echoes.{restarts_by, heard_node, heard_places, heard_either, heard_same as heard-still, echo_taken, echo_ended, echo_reply_taken}
use Rattle.call_control.specs.Amends.{cause_taken, session_on}
use Rattle.call_control.specs.Creates.{heard_create, create_places, create_taken}
use Rattle.call_control.specs.Control.{restarts_in, asked_taken}
use Rattle.step_session.specs.Amended.{AmendedWith, done_with, of_number}
use Rattle.step_control.specs.declared.Basis.{Basis}
use Rattle.step_control.specs.declared.Concerned.{Concerned}
use Rattle.step_control.specs.Step.{restarts_now, verdict_of, verdict_in, opens_at, concerned_of, concerned_with, concerned_in, TakenWith, taken_with, unmoved_on, named_places, named_with, named_on, open_on, asked_on, taken-short, taken_broken, taken_kept, rested_node, node_after, concerned_put, changed_places, placed_concerned}
use Rattle.step_whole.specs.Amended.{placed_one, owner_same}
use Rattle.step_whole.specs.Create.{stays, settled_same}
use Rattle.step_whole.specs.Restart.{put_none, put_all, placed_none, open_ended, restart_same}
use Rattle.step_whole.specs.Basis.{Cleared, Sees}
use Rattle.step_whole.specs.Whole.{InPlace}

-- ---- on two records
-- the two put back as they were, the others freed or as they were
module _ (l : List Session) (p : Concerned) (e-old : p.oldrecord ≡ get_or l p.old nobody) (e-new : p.newrecord ≡ get_or l p.new nobody)
    (number size : ℕ) (ended : Bool) (heard : Option ℕ) where
  put_still : p.all ≡ false → concerned_put l p (unmoved_on number size ended heard p) ≡ l
  unfolding unmoved_on
  put_still a = put_none l p (unmoved_on number size ended heard p) a ∙ rw (e-old, e-new) (stays l p.old p.new)

  put_freed : p.all ≡ true → length l ≡ places → p.old ≡ places → p.new ≡ places → concerned_put l p (unmoved_on number size ended heard p) ≡ map freed l
  put_freed a n i j =
      let o = unmoved_on number size ended heard p in
      let m = length-map l freed in
      let s = length-set (map freed l) p.old o.old in
      put_all l p o a (omega arith)
      ∙ set_out (set (map freed l) p.old o.old) p.new o.new (omega arith)
      ∙ set_out (map freed l) p.old o.old (omega arith)

-- where none are freed first the places are those of the two
all_span : (p : Concerned) (span : Span) → p.all ≡ false → pick p.all all_places span ≡ span
all_span p span e = rw e

-- what is put back, given
placed_by : (node : Node) (p : Concerned) (l : List Session) (m : TakenWith) (x : List Session) → concerned_put l p m.answer ≡ x
    → placed_concerned node p l m
    ≡ outcome (record { number = m.answer.number; size = m.answer.size; node = node_after m.answer node; span = changed_places p m.answer }) x m.reply
unfolding placed_concerned
placed_by node p l m x e =
    ap (λ (y : List Session). outcome (record { number = m.answer.number; size = m.answer.size; node = node_after m.answer node; span = changed_places p m.answer }) y m.reply) e

module _ (node : Node) (l : List Session) (reply : List ℕ) (g : Basis) where
  abbrev concerned_for : Asked → Concerned
  concerned_for w = concerned_in g node l w

  abbrev comes_to : Asked → Outcome
  comes_to w = placed_concerned node (concerned_for w) l (asked_on node w (concerned_for w) reply)

  -- the two records are those of their places
  old_at : (w : Asked) → (concerned_for w).oldrecord ≡ get_or l (concerned_for w).old nobody
  unfolding concerned_in concerned_of
  old_at w = refl

  new_at : (w : Asked) → (concerned_for w).newrecord ≡ get_or l (concerned_for w).new nobody
  unfolding concerned_in concerned_of
  new_at w = refl

  all_at : (w : Asked) → (concerned_for w).all ≡ g.all
  unfolding concerned_in concerned_of
  all_at w = refl

  place_at : (w : Asked) → (concerned_for w).old ≡ g.old
  unfolding concerned_in concerned_of
  place_at w = refl

  kept_at : (w : Asked) → (concerned_for w).kept ≡ g.kept
  unfolding concerned_in concerned_of
  kept_at w = refl

  -- nothing moves
  still_same : (w : Asked) (number size : ℕ) (left : List ℕ) → g.all ≡ false
      → outcome (record { number = number; size = size; node = node; span = no_places }) l left
      ≡ placed_concerned node (concerned_for w) l (taken_with (unmoved_on number size false None (concerned_for w)) left)
  unfolding unmoved_on node_after heard_node changed_places
  still_same w number size left a =
      sym (placed_by node (concerned_for w) l (taken_with (unmoved_on number size false None (concerned_for w)) left) l
      (put_still l (concerned_for w) (old_at w) (new_at w) number size false None (all_at w ∙ a))
      ∙ ap (λ (y : Span). outcome (record { number = number; size = size; node = node; span = y }) l left) (all_span (concerned_for w) no_places (all_at w ∙ a)))

  -- a Recovery is stored, and all are freed or nothing moves
  put_heard : (w : Asked) (size : ℕ) (ended : Bool) (heard : Option ℕ) → length l ≡ places → (concerned_for w).new ≡ places → (g.all ≡ true → Cleared g)
      → concerned_put l (concerned_for w) (unmoved_on 0 size ended heard (concerned_for w)) ≡ pick g.all (map freed l) l
  put_heard w size ended heard n j clear = by g.all refl
    where
      by : (b : Bool) → g.all ≡ b → concerned_put l (concerned_for w) (unmoved_on 0 size ended heard (concerned_for w)) ≡ pick b (map freed l) l
      by true a = put_freed l (concerned_for w) (old_at w) (new_at w) 0 size ended heard (all_at w ∙ a) n (place_at w ∙ (clear a).old) j
      by false a = put_still l (concerned_for w) (old_at w) (new_at w) 0 size ended heard (all_at w ∙ a)

  module _ (k : keeps_rules node l ≡ true) (room : ltb (length reply) least_reply ≡ false) where
    all_of : (w : Asked) → Sees node l w (length reply) g → g.all ≡ restarts_in w node
    unfolding restarts_now
    all_of w sees = sees.all ∙ rw (k, room)

    none : (w : Asked) → Sees node l w (length reply) g → restarts_in w node ≡ false → g.all ≡ false
    none w sees e = all_of w sees ∙ e

    echo_same : (r : Option ℕ) (seq : ℕ) → Sees node l (A.Echo r seq) (length reply) g → echo_taken node l seq r reply ≡ comes_to (A.Echo r seq)
    unfolding echo_taken heard_places asked_on unmoved_on node_after restarts_in verdict_in opens_at concerned_in concerned_of changed_places
    echo_same r seq sees =
        let w = A.Echo r seq in
        rw (heard_either r node l, ← all_of w sees)
        (sym (placed_by node (concerned_for w) l (asked_on node w (concerned_for w) reply) (pick g.all (map freed l) l)
        (put_heard w (length (echo_of echo_reply_type seq node.plan.recovery)) false r (rules_of node l k).size refl sees.cleared)))

    ended_same : (r : Option ℕ) → Sees node l (A.EchoReply r) (length reply) g → echo_reply_taken node l r reply ≡ comes_to (A.EchoReply r)
    unfolding echo_reply_taken heard_places changed_places no_reply echo_ended asked_on unmoved_on node_after rested_node restarts_in verdict_in opens_at concerned_in concerned_of
    ended_same r sees =
        let w = A.EchoReply r in
        rw (heard_either r node l, ← all_of w sees)
        (sym (placed_by node (concerned_for w) l (asked_on node w (concerned_for w) reply) (pick g.all (map freed l) l)
        (put_heard w 0 true r (rules_of node l k).size refl sees.cleared)))

    module _ (teid : ControlTeid) (seq : ℕ) (x : Concern) where
      abbrev w : Asked
      w = A.Session teid seq x

      one_put : (span : Span) (q : AmendedWith) → g.all ≡ false → concerned_put l (concerned_for w) (named_with span q (concerned_for w)).answer ≡ set l g.old q.answer.session
      unfolding named_with verdict_in opens_at concerned_in concerned_of
      one_put span q a =
          let n = (rules_of node l k).size in
          let m = length-set l g.old q.answer.session in
          put_none l (concerned_for w) (named_with span q (concerned_for w)).answer a
          ∙ set_out (set l g.old q.answer.session) places (get_or l places nobody) (omega arith)

      one_same : (span : Span) (q : AmendedWith) → g.all ≡ false
          → placed_one span node g.old l q ≡ placed_concerned node (concerned_for w) l (named_with span q (concerned_for w))
      unfolding placed_one named_with node_after heard_node changed_places
      one_same span q a =
          sym (placed_by node (concerned_for w) l (named_with span q (concerned_for w)) (set l g.old q.answer.session) (one_put span q a)
          ∙ ap (λ (y : Span). placed_one y node g.old l q) (all_span (concerned_for w) span (all_at w ∙ a)))

      abbrev span_at : ℕ → Session → Span
      span_at i s = named_places (has_control s teid.0) i

      at_old : placed_concerned node (concerned_for w) l (named_with (span_at g.old (get_or l g.old nobody)) (done_with (of_number teid.0 x seq (get_or l g.old nobody)) reply) (concerned_for w))
          ≡ placed_concerned node (concerned_for w) l
          (named_with (span_at (concerned_for w).old (concerned_for w).oldrecord) (done_with (of_number teid.0 x seq (concerned_for w).oldrecord) reply) (concerned_for w))
      at_old = rw (old_at w, place_at w)

      session_same : Sees node l w (length reply) g → on_owner node l teid.0 (session_on x seq) reply ≡ comes_to w
      unfolding asked_on named_on restarts_in
      session_same sees =
          let i = sees.named teid seq x refl in
          owner_same node l reply (rules_of node l k).size teid.0 x seq
          ∙ ap (λ (y : ℕ). placed_one (span_at y (get_or l y nobody)) node y l (done_with (of_number teid.0 x seq (get_or l y nobody)) reply)) (sym i)
          ∙ one_same (span_at g.old (get_or l g.old nobody)) (done_with (of_number teid.0 x seq (get_or l g.old nobody)) reply) (none w sees refl)
          ∙ at_old

    create_same : (c : C.Create) (seq : ℕ) → Sees node l (A.Create c seq) (length reply) g → create_taken c seq node l reply ≡ comes_to (A.Create c seq)
    unfolding create_taken create_places asked_on verdict_in concerned_in restarts_in heard_create
    create_same c seq sees =
        let w = A.Create c seq in
        let a = all_of w sees in
        split (restarts_by c.recovery node)
        (λ e. let z = sees.cleared (a ∙ e) in rw e (restart_same node l k c seq e g z.old z.free z.counts (a ∙ e) reply))
        (λ e. let f = sees.known c seq refl k (a ∙ e) in
        let v = verdict_of g node c seq (get_or l g.old nobody) in
        rw (heard-still c.recovery node l e, e, ← f.old)
        (settled_same node l k c seq g f.old f.free f.counts reply node l
        ∙ sym (placed_none node l (concerned_with g l v) (open_on c seq node (concerned_with g l v) reply) (open_ended c seq node (concerned_with g l v) reply) (all_at w ∙ a ∙ e))))

    asked_same : (w : Asked) → Sees node l w (length reply) g → asked_taken node l w reply ≡ comes_to w
    unfolding asked_taken asked_on restarts_in no_reply cause_taken
    asked_same (A.Silent number) sees = still_same (A.Silent number) number 0 reply (none (A.Silent number) sees refl)
    asked_same A.Version sees = still_same A.Version 5 (length version_not_supported) (overlay version_not_supported reply) (none A.Version sees refl)
    asked_same (A.Echo r seq) sees = echo_same r seq sees
    asked_same (A.EchoReply r) sees = ended_same r sees
    asked_same (A.Create c seq) sees = create_same c seq sees
    asked_same (A.Refused w to seq) sees = still_same (A.Refused w to seq) _ _ _ (none (A.Refused w to seq) sees refl)
    asked_same (A.Session teid seq x) sees = session_same teid seq x sees

-- where the reply buffer is short or the rules are broken, nothing moves
pub control_same : InPlace
unfolding InPlace no_reply restarts_now
control_same node l w reply g sees =
    split (ltb (length reply) least_reply)
    (λ s. rw (s, ← taken-short node w p reply (ltb-true (length reply) least_reply s)) (still_same node l reply g w 1 0 reply (sees.all ∙ off_short s)))
    (λ s. let room = ltb-false (length reply) least_reply s in
    split (keeps_rules node l)
    (λ k. rw (s, k, ← taken_kept node w p reply room (kept_at node l reply g w ∙ sees.kept ∙ k)) (asked_same node l reply g k s w sees))
    (λ k. rw (s, k, ← taken_broken node w p reply room (kept_at node l reply g w ∙ sees.kept ∙ k)) (still_same node l reply g w 2 0 reply (sees.all ∙ rw k))))
  where
    p : Concerned
    p = concerned_in g node l w

    off_short : ltb (length reply) least_reply ≡ true → (keeps_rules node l && restarts_now (length reply) w node) ≡ false
    off_short s = rw s (split (keeps_rules node l) (λ k. rw k) (λ k. rw k))
