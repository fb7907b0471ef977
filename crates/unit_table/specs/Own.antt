-- The unit's own requests, over the whole table: what is sent next, what a tick makes of all, and when the echo ends. Each keeps every rule.
-- Assumes nothing.
use Rattle.std.specs.Prelude.{◌≡◌, ℕ, ◌+◌, ◌<◌, ◌≤◌, Bool, true, false, List, map, length, replicate, ◌==◌, nat_eq, nat_lt, slice_index_or, slice_set, refl}
use Rattle.std.proofs.Common.{◌∙◌, arith}
use Rattle.std.proofs.Math.ListN.{length-set, get_or-eq_default}
use Rattle.std.proofs.lemmas.List.{length-replicate}
use borrow.Author.Tests.{eqb-true, eqb-false, ne_eqb, ltb-true, ltb-false}
use mir.Val.{bool_byte}
use Rattle.base_octets.specs.Choice.{pick, split, impossible, and_left, tests}
use Rattle.base_octets.specs.Every.{every_set, every_same}
use Rattle.base_octets.specs.Sums.{count_of, sum_set, sum_same}
use Rattle.base_octets.specs.Search.{first_of}
use Rattle.unit_tunnel.specs.Numbering.{places}
use Rattle.unit_plan.specs.declared.Plan.{Plan}
use Rattle.unit_plan.specs.Limits.{most_sends}
use Rattle.unit_plan.specs.Plan.{accepted, Figures, accepted_figures}
use Rattle.unit_sharing.specs.Sharing.{within_less, accepted_fair, fresh_within, guarantee_at, ceiling_at}
use Rattle.unit_plan.specs.Limits.{parties}
use Rattle.unit_session.specs.declared.OwnRequest.{OwnRequest}
use Rattle.unit_session.specs.declared.Session.{Session}
use Rattle.unit_session.specs.OwnRequest.{last_number, idle, request_ok, awaits, sent_once, counted_down, spent, range_of, range_to, request_sent, request_down, awaits_down, awaits-first, awaits_again}
use Rattle.unit_session.specs.Session.{is_free, is_closing, is_on, has_id, waits_for, record_ok, blank_at, freed, ticked, sent, is_due}
use Rattle.unit_session.specs.Keep.{ok_blank, own_ok, ok_sent, sent_on, sent_id, sent_waits}
use Rattle.unit_table.specs.declared.Node.{Node}
use Rattle.unit_table.specs.Rules.{live_on, live, bounds_of, Rules}
use Rattle.unit_table.specs.Change.{nobody, changed_at, record_ok_lem, rules_all_freed, rules-ticked}
use Rattle.unit_table.specs.Number.{awaited}

-- ---- the echo
-- it ended: the next one is due after E ticks
unfoldable pub rested : ℕ → OwnRequest → OwnRequest
rested e r = record { timer = e; sends = 0; number = r.number }

unfoldable pub echo_ticked : Plan → OwnRequest → OwnRequest
echo_ticked p echo = pick (spent p.sends echo) (rested p.interval echo) (counted_down echo)

-- ---- a tick of all: an echo that is given up frees all places; else each place is counted down, or given up and freed
unfoldable pub all_ticked : Plan → OwnRequest → List Session → List Session
all_ticked p echo l = pick (spent p.sends echo) (map freed l) (map (ticked p.sends) l)

-- ---- the lowest place whose request is due, or the number of places
unfoldable pub due_place : List Session → ℕ
due_place l = first_of is_due l

-- ---- laws
sends_most : (p : Plan) → accepted p ≡ true → p.sends ≤ 10
unfolding most_sends
sends_most p e = let f = (accepted_figures p e).last in omega arith

module _ (p : Plan) (echo : OwnRequest) (next : ℕ) (l : List Session) (r : Rules p echo next l) where
  figures : Figures p
  figures = accepted_figures p r.planned

  -- the echo in another state, which awaits no more than it did
  pub rules-echo : (e : OwnRequest) → request_ok p.interval p.resend p.sends e ≡ true → ((k : ℕ) → bool_byte (awaits k e) ≤ bool_byte (awaits k echo)) → Rules p e next l
  rules-echo e ok less = record {
    planned = r.planned;
    size = r.size;
    each = r.each;
    once = r.once;
    within = r.within;
    echoes = ok;
    counted = r.counted;
    waits = λ k. let a = r.waits k in let b = less k in omega arith;
  }

  pub rules-rested : Rules p (rested p.interval echo) next l
  unfolding rested awaits
  rules-rested =
      let i = range_of p.interval p.resend p.sends echo r.echoes in
      rules-echo (rested p.interval echo)
      (range_to p.interval p.resend p.sends (rested p.interval echo)
      (record { known = i.known; before = λ h. omega arith; timed = λ h. absurd (omega arith); most = λ h. absurd (omega arith); full = λ h. absurd (omega arith) }))
      (λ k. omega arith)

  pub rules_echo_down : spent p.sends echo ≡ false → Rules p (counted_down echo) next l
  rules_echo_down s =
      rules-echo (counted_down echo) (request_down p.interval p.resend p.sends echo s r.echoes) (λ k. rw (awaits_down k echo) (omega arith))

  -- another next number
  pub rules_next : (n : ℕ) → n ≤ last_number → Rules p echo n l
  rules_next n h = record {
    planned = r.planned;
    size = r.size;
    each = r.each;
    once = r.once;
    within = r.within;
    echoes = r.echoes;
    counted = h;
    waits = r.waits;
  }

  -- the echo is sent, with a number that nobody awaits
  pub rules_echo_sent : (k : ℕ) → k ≤ last_number → awaited k echo l ≡ 0 → echo.timer ≡ 0 → Rules p (sent_once p.resend k echo) next l
  unfolding awaited
  rules_echo_sent k hk none z = record {
    planned = r.planned;
    size = r.size;
    each = r.each;
    once = r.once;
    within = r.within;
    echoes = request_sent p.interval p.resend p.sends k echo figures.resends figures.first (let m = sends_most p r.planned in omega arith) hk z r.echoes;
    counted = r.counted;
    waits = λ j. split (echo.sends == 0) (first j) (again j);
  }
    where
      first : (j : ℕ) → (echo.sends == 0) ≡ true → bool_byte (awaits j (sent_once p.resend k echo)) + count_of (waits_for j) l ≤ 1
      first j q =
          rw (awaits-first p.resend k j echo (eqb-true echo.sends 0 q))
          (split (k == j)
          (λ t. let y = eqb-true k j t in let n : bool_byte (awaits j echo) + count_of (waits_for j) l ≡ 0 = rw (← y) none in rw t (omega arith))
          (λ t. let a = r.waits j in rw t (omega arith)))

      again : (j : ℕ) → (echo.sends == 0) ≡ false → bool_byte (awaits j (sent_once p.resend k echo)) + count_of (waits_for j) l ≤ 1
      again j q =
          let i = range_of p.interval p.resend p.sends echo r.echoes in
          let m = sends_most p r.planned in
          let n = eqb-false echo.sends 0 q in
          let b = i.most (omega arith) in
          rw (awaits_again p.resend k j echo n (omega arith)) (r.waits j)

  -- a place that is due is one of the table's
  pub due_in_lem : (i : ℕ) → is_due (slice_index_or l i nobody) ≡ true → i < length l
  unfolding is_due is_closing blank_at
  due_in_lem i d =
      split (nat_lt i (length l)) (λ t. ltb-true i (length l) t)
      (λ t. impossible (rw (get_or-eq_default l nobody (ltb-false i (length l) t)) at d))

  -- a place's request is sent, likewise
  pub rules-sent : (k : ℕ) (i : ℕ) → k ≤ last_number → awaited k echo l ≡ 0 → is_due (slice_index_or l i nobody) ≡ true → Rules p echo next (changed_at (sent p.resend k) i l)
  unfolding changed_at bounds_of live_on awaited is_due is_closing is_free waits_for
  rules-sent k i hk none d = record {
    planned = r.planned;
    size = length-set l i new ∙ r.size;
    each = every_set (record_ok (bounds_of p)) l i new r.each
        (ok_sent (bounds_of p) old (record_ok_lem p echo next l r i) k figures.resends figures.first (let m = sends_most p r.planned in omega arith) hk d);
    once = λ m e. let a = r.once m e in let b = rw (sent_id p.resend k old m e) at (sum_set (λ x. bool_byte (has_id m e x)) l i new nobody (due_in_lem i d)) in omega arith;
    within = within_less (parties p) (guarantee_at p) (ceiling_at p) (live l) (live (slice_set l i new)) (λ a h. same a) r.within;
    echoes = r.echoes;
    counted = r.counted;
    waits = λ j. split (old.own.sends == 0) (first j) (again j);
  }
    where
      old : Session
      old = slice_index_or l i nobody

      new : Session
      new = sent p.resend k old

      same : (a : ℕ) → live_on a (slice_set l i new) ≤ live_on a l
      same a = let e = rw (sent_on p.resend k old a) at (sum_set (λ x. bool_byte (is_on a x)) l i new nobody (due_in_lem i d)) in omega arith

      first : (j : ℕ) → (old.own.sends == 0) ≡ true → bool_byte (awaits j echo) + count_of (waits_for j) (slice_set l i new) ≤ 1
      first j q =
          let e = rw (sent_waits p.resend k old j, awaits-first p.resend k j old.own (eqb-true old.own.sends 0 q))
          at (sum_set (λ x. bool_byte (waits_for j x)) l i new nobody (due_in_lem i d)) in
          split (k == j)
          (λ t. let y = eqb-true k j t in let n : bool_byte (awaits j echo) + count_of (waits_for j) l ≡ 0 = rw (← y) none in let f = rw t at e in omega arith)
          (λ t. let a = r.waits j in let f = rw t at e in omega arith)

      again : (j : ℕ) → (old.own.sends == 0) ≡ false → bool_byte (awaits j echo) + count_of (waits_for j) (slice_set l i new) ≤ 1
      again j q =
          let x : nat_eq old.state 2 ≡ true = and_left (old.state == 2) (old.own.timer == 0) d in
          let f : is_free old ≡ false = ne_eqb old.state 0 (λ y. omega (arith, tests)) in
          let g = range_of 0 p.resend p.sends old.own (own_ok (bounds_of p) old (record_ok_lem p echo next l r i) f) in
          let m = sends_most p r.planned in
          let n = eqb-false old.own.sends 0 q in
          let b = g.most (omega arith) in
          let a = r.waits j in
          let e = rw (sent_waits p.resend k old j, awaits_again p.resend k j old.own n (omega arith))
          at (sum_set (λ x. bool_byte (waits_for j x)) l i new nobody (due_in_lem i d)) in
          omega arith

-- ---- a tick of the whole table
pub rules_tick : (p : Plan) (echo : OwnRequest) (next : ℕ) (l : List Session) → Rules p echo next l → Rules p (echo_ticked p echo) next (all_ticked p echo l)
unfolding echo_ticked all_ticked
rules_tick p echo next l r =
    split (spent p.sends echo)
    (λ s. rw s (rules-rested p echo next (map freed l) (rules_all_freed p echo next l r)))
    (λ s. rw s (rules_echo_down p echo next (map (ticked p.sends) l) (rules-ticked p echo next l r) s))

-- ---- the start
-- nothing heard, nothing sent, the first echo due after E ticks
unfoldable pub fresh_node : Plan → Node
fresh_node p = record { plan = p; echo = rested p.interval idle; next = 0; heard = 0; recovery = 0 }

-- a record that nobody took weighs nothing, however often
none_weigh : (p : Session → Bool) → p nobody ≡ false → (n : ℕ) → count_of p (replicate n nobody) ≡ 0
none_weigh p e n = let s = rw e at (sum_same (λ x. bool_byte (p x)) n nobody) in omega arith

pub rules_fresh : (p : Plan) → accepted p ≡ true → Rules p (rested p.interval idle) 0 (replicate places nobody)
unfolding rested idle awaits is_free is_on has_id waits_for blank_at live_on
rules_fresh p e = record {
  planned = e;
  size = length-replicate places nobody;
  each = every_same (record_ok (bounds_of p)) places nobody (ok_blank (bounds_of p) 0 (omega arith));
  once = λ i b. let z = none_weigh (has_id i b) refl places in omega arith;
  within = within_less (parties p) (guarantee_at p) (ceiling_at p) (λ a. 0) (live (replicate places nobody))
      (λ a h. let z = none_weigh (is_on a) refl places in omega arith) (fresh_within p (accepted_fair p e));
  echoes = range_to p.interval p.resend p.sends (rested p.interval idle)
      (record { known = omega arith; before = λ h. omega arith; timed = λ h. absurd (omega arith); most = λ h. absurd (omega arith); full = λ h. absurd (omega arith) });
  counted = omega arith;
  waits = λ k. let z = none_weigh (waits_for k) refl places in omega arith;
}
