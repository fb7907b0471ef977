-- Outside the places that a call answers every record is as it was: for any table whatever.
-- Assumes nothing.
use Rattle.std.specs.Prelude.{ℕ, ◌+◌, ◌<◌, ◌≤◌, Bool, ◌&&◌, ◌≡◌, refl, length, get_or, replicate, eqb, leb}
use Rattle.std.proofs.Math.Bool.{true, false}
use mathlib.Core.List.{List, [], ◌∷◌, map}
use Rattle.std.proofs.Common.{sym, ◌∙◌, arith}
use Rattle.std.proofs.Math.ListN.{length-map, get_or-eq_default}
use Rattle.std.proofs.lemmas.List.{length-replicate, set-get_or}
use Rattle.std.proofs.Math.Dec.{ltb}
use borrow.Author.Tests.{eqb-true, lt-ltb, le-leb, ltb-true, ltb-false}
use Rattle.base_octets.specs.Choice.{split, impossible, and_left, and_right, tests}
use Rattle.base_octets.specs.Every.{every}
use Rattle.unit_tunnel.specs.Numbering.{places}
use Rattle.unit_plan.specs.declared.Plan.{Plan}
use Rattle.unit_session.specs.declared.Session.{Session}
use Rattle.unit_session.specs.declared.Bounds.{Bounds}
use Rattle.unit_session.specs.OwnRequest.{last_number, request_ok, spent}
use Rattle.unit_session.specs.Session.{is_free, blank_at, record_ok, freed, ticked, sent}
use Rattle.unit_session.specs.Keep.{own_ok, free_timer, ticked_still}
use Rattle.unit_table.specs.declared.Node.{Node}
use Rattle.unit_table.specs.Rules.{bounds_of, keeps_rules, rules_of}
use Rattle.unit_table.specs.Change.{nobody, changed_at, changed_other}
use Rattle.unit_table.specs.Number.{taken_number}
use Rattle.unit_table.specs.Own.{all_ticked, due_place}
use Rattle.call_own.specs.declared.Span.{Span}
use Rattle.call_own.specs.Outcome.{Outcome, least_reply, no_reply, all_places, one_place, between, two_places, session_place, Done, bare_on, on_session}
use Rattle.call_own.specs.Calls.{fresh_answer, fresh_held, fresh_of, quiet, tick_places, tick_of, close_on, close_of, echo_sent, place_sent, due_sent, send_of}

-- a place that may have changed
unfoldable pub is_within : ℕ → Span → Bool
is_within i span = leb span.from i && ltb i span.to

-- every other has the record that it had
unfoldable pub OthersStay : Outcome → List Session → Type 0
OthersStay o t = (i : ℕ) → is_within i o.answer.span ≡ false → get_or o.table i nobody ≡ get_or t i nobody

-- ---- laws of places
module _ (k : ℕ) where
  within : (span : Span) → span.from ≤ k → k < span.to → is_within k span ≡ false → ⊥
  unfolding is_within
  within span a b n =
      let t : (leb span.from k && ltb k span.to) ≡ true = rw (le-leb span.from k a, lt-ltb k span.to b) in
      impossible (sym n ∙ t)

  pub out_all : is_within k all_places ≡ false → places ≤ k
  out_all n = split (ltb k places) (λ t. absurd (within all_places (omega arith) (ltb-true k places t) n)) (λ t. ltb-false k places t)

  pub out_one : (i : ℕ) → is_within k (one_place i) ≡ false → i < places → k ≡ i → ⊥
  unfolding one_place
  out_one i n h e = within (record { from = i; to = i + 1 }) (omega arith) (omega arith) (rw (lt-ltb i places h) at n)

  module _ (i j : ℕ) (n : is_within k (two_places i j) ≡ false) where
    both : i < places → j < places → (k ≡ i → ⊥) × (k ≡ j → ⊥)
    unfolding two_places between
    both h g = split (ltb i j)
        (λ t. let m = ltb-true i j t in
        let out : is_within k (record { from = i; to = j + 1 }) ≡ false = rw (lt-ltb i places h, lt-ltb j places g, t) at n in
        ((λ e. within (record { from = i; to = j + 1 }) (omega arith) (omega arith) out), (λ e. within (record { from = i; to = j + 1 }) (omega arith) (omega arith) out)))
        (λ t. let m = ltb-false i j t in
        let out : is_within k (record { from = j; to = i + 1 }) ≡ false = rw (lt-ltb i places h, lt-ltb j places g, t) at n in
        ((λ e. within (record { from = j; to = i + 1 }) (omega arith) (omega arith) out), (λ e. within (record { from = j; to = i + 1 }) (omega arith) (omega arith) out)))

    -- neither of two
    pub out_first : i < places → k ≡ i → ⊥
    unfolding two_places
    out_first h = split (ltb j places)
        (λ t. (both h (ltb-true j places t)).0)
        (λ t. out_one i (rw (lt-ltb i places h, t) at n) h)

    pub out_second : j < places → k ≡ j → ⊥
    unfolding two_places
    out_second g = split (ltb i places)
        (λ t. (both (ltb-true i places t) g).1)
        (λ t. out_one j (rw t at n) g)

-- ---- laws of tables: past the last there is nothing to change
pub past_both : (l m : List Session) (k : ℕ) → length l ≤ k → length m ≤ k → get_or l k nobody ≡ get_or m k nobody
past_both l m k h g = get_or-eq_default l nobody h ∙ sym (get_or-eq_default m nobody g)

pub taken_there : (l : List Session) (i : ℕ) → is_free (get_or l i nobody) ≡ false → i < length l
unfolding is_free blank_at
taken_there l i e = split (ltb i (length l)) (λ t. ltb-true i (length l) t)
    (λ t. impossible (sym (rw (get_or-eq_default l nobody (ltb-false i (length l) t)) at e)))

-- what concerns one session, where a free record stays
pub on_others : (node : Node) (l : List Session) → length l ≡ places → (i : ℕ) (f : Session → Done) (reply : List ℕ)
    → ((s : Session) → is_free s ≡ true → (f s).session ≡ s) → OthersStay (on_session node l i f reply) l
unfolding OthersStay on_session session_place changed_at
on_others node l size i f reply same k n = split (is_free (get_or l i nobody))
    (λ e. rw (same (get_or l i nobody) e, set-get_or l i nobody))
    (λ e. let h = taken_there l i e in
    changed_other (λ s. (f s).session) i l k nobody (out_one k i (rw e at n) (omega arith)))

-- ---- where all are quiet no timer runs, and a tick changes no record
still_timer : (b : Bounds) (s : Session) → record_ok b s ≡ true → eqb s.own.sends 0 ≡ true → s.own.timer ≡ 0
unfolding request_ok
still_timer b s ok q = split (is_free s) (free_timer b s ok)
    (λ n. let h = own_ok b s ok n in
    let t : leb s.own.timer 0 ≡ true = and_right (leb s.own.number last_number) _ (rw q at h) in omega (arith, tests))

pub all_still : (b : Bounds) (n : ℕ) (l : List Session) → every (record_ok b) l ≡ true → quiet l ≡ true → map (ticked n) l ≡ l
unfolding quiet every
all_still b n [] ok q = refl
all_still b n (s ∷ l) ok q =
    rw (
      ticked_still n s (still_timer b s (and_left (record_ok b s) (every (record_ok b) l) ok) (and_left (eqb s.own.sends 0) (quiet l) q)),
      all_still b n l (and_right (record_ok b s) (every (record_ok b) l) ok) (and_right (eqb s.own.sends 0) (quiet l) q),
    )

-- ---- the calls
pub fresh_others : (p : Plan) (t : List Session) → OthersStay (fresh_of p t) t
unfolding OthersStay fresh_of fresh_answer fresh_held no_reply
fresh_others p t k = split (eqb (length t) places)
    (λ e. rw e (λ n. let h = out_all k n in
    let z = eqb-true (length t) places e in
    let m = length-replicate places nobody in
    past_both (replicate places nobody) t k (omega arith) (omega arith)))
    (λ e. rw e (λ n. refl))

module _ (node : Node) (t : List Session) where
  ticked_others : (k : ℕ) → keeps_rules node t ≡ true → is_within k (tick_places node t) ≡ false
      → get_or (all_ticked node.plan node.echo t) k nobody ≡ get_or t k nobody
  unfolding tick_places all_ticked
  ticked_others k e n =
      let size = (rules_of node t e).size in
      let f = length-map t freed in
      let g = length-map t (ticked node.plan.sends) in
      split (spent node.plan.sends node.echo)
      (λ s. let h = out_all k (split (quiet t) (λ q. rw (q, s) at n) (λ q. rw q at n)) in
      rw s (past_both (map freed t) t k (omega arith) (omega arith)))
      (λ s. split (quiet t)
      (λ q. rw (s, all_still (bounds_of node.plan) node.plan.sends t (rules_of node t e).each q))
      (λ q. let h = out_all k (rw q at n) in rw s (past_both (map (ticked node.plan.sends) t) t k (omega arith) (omega arith))))

  pub tick_others : OthersStay (tick_of node t) t
  unfolding OthersStay tick_of no_reply
  tick_others k = split (keeps_rules node t) (λ e. rw e (ticked_others k e)) (λ e. rw e (λ n. refl))

  close_same : (s : Session) → is_free s ≡ true → (close_on s).session ≡ s
  unfolding close_on bare_on
  close_same s e = rw e

  pub close_others : (i : ℕ) → OthersStay (close_of node t i) t
  unfolding OthersStay close_of no_reply
  close_others i k = split (keeps_rules node t)
      (λ e. rw e (on_others node t (rules_of node t e).size i close_on [] close_same k))
      (λ e. rw e (λ n. refl))

  pub send_others : (reply : List ℕ) → OthersStay (send_of node t reply) t
  unfolding OthersStay send_of due_sent echo_sent place_sent no_reply
  send_others reply k =
      split (ltb (length reply) least_reply) (λ a. rw a (λ n. refl))
      (λ a. split (keeps_rules node t)
      (λ e. split (eqb node.echo.timer 0) (λ z. rw (a, e, z) (λ n. refl))
      (λ z. split (ltb (due_place t) (length t))
      (λ d. let size = (rules_of node t e).size in
      let h = ltb-true (due_place t) (length t) d in
      rw (a, e, z, d) (λ n. changed_other (sent node.plan.resend (taken_number node.next node.echo t)) (due_place t) t k nobody (out_one k (due_place t) n (omega arith))))
      (λ d. rw (a, e, z, d) (λ n. refl))))
      (λ e. rw (a, e) (λ n. refl)))
