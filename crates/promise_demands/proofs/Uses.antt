-- That what specs/Uses.antt says holds, and what that rests on.
-- Assumes nothing.
use Rattle.std.specs.Prelude.{ℕ, zero, suc, Bool, true, false, List, [], ◌∷◌, map, ◌≡◌, refl, length, replicate}
use Rattle.std.proofs.Common.{sym, ◌∙◌, arith, le-leb}
use Rattle.std.proofs.lemmas.List.{length-map, length-replicate}
use Rattle.base_octets.specs.Choice.{and_left, and_right, tests}
use Rattle.base_octets.specs.Every.{every}
use Rattle.base_octets.specs.Sums.{sum_of, count_of}
use Rattle.unit_tunnel.specs.Numbering.{places, last_use}
use Rattle.unit_plan.specs.declared.Plan.{Plan}
use Rattle.unit_plan.specs.Plan.{accepted}
use Rattle.unit_session.specs.declared.Session.{Session}
use Rattle.unit_session.specs.declared.Bounds.{Bounds}
use Rattle.unit_session.specs.OwnRequest.{idle, awaits}
use Rattle.unit_session.specs.Session.{is_free, is_on, has_id, waits_for, record_ok, blank_at}
use Rattle.unit_session.specs.Keep.{ok_blank, ok_usage}
use Rattle.unit_table.specs.Rules.{live_on, bounds_of, Rules, rules_to, keeps_rules}
use Rattle.unit_table.specs.Change.{nobody, Less, rules_less}
use Rattle.unit_table.specs.Own.{rested, fresh_node, rules_fresh}
use Rattle.call_own.specs.Calls.{fresh_answer, fresh_held}
use Rattle.call_store.specs.Stored.{fresh_state}
use Rattle.call_store.specs.Laws.{keeps_both}
use Rattle.call_store.specs.Kept.{fresh_stored_keeps}
use Rattle.promise_demands.specs.Run.{Kept, Start}
use Rattle.promise_demands.proofs.Run.{fresh_plan, kept_store}
use Rattle.promise_demands.proofs.Bounds.{start_rules}
use Rattle.promise_demands.specs.Uses.{fresh_used, is_use, AnyUsesStart}

-- ---- laws
-- free records weigh nothing
none_weigh : (q : Session → Bool) → ((usage : ℕ) → q (blank_at usage) ≡ false) → (us : List ℕ) → count_of q (map blank_at us) ≡ 0
unfolding sum_of
none_weigh q f [] = refl
none_weigh q f (x ∷ us) = let r = none_weigh q f us in rw (f x) (omega arith)

free_ok_lem : (b : Bounds) (us : List ℕ) → every is_use us ≡ true → every (record_ok b) (map blank_at us) ≡ true
unfolding every is_use
free_ok_lem b [] k = refl
free_ok_lem b (x ∷ us) k =
    let h = and_left (is_use x) (every is_use us) k in
    rw (ok_blank b x (omega (arith, tests))) (free_ok_lem b us (and_right (is_use x) (every is_use us) k))

ok_uses : (b : Bounds) (us : List ℕ) → every (record_ok b) (map blank_at us) ≡ true → every is_use us ≡ true
unfolding every is_use blank_at
ok_uses b [] k = refl
ok_uses b (x ∷ us) k =
    let h = ok_usage b (blank_at x) (and_left (record_ok b (blank_at x)) (every (record_ok b) (map blank_at us)) k) in
    rw (le-leb x last_use (omega arith)) (ok_uses b us (and_right (record_ok b (blank_at x)) (every (record_ok b) (map blank_at us)) k))

-- so they weigh no more than those of fresh
free_less : (us : List ℕ) (l : List Session) → Less (map blank_at us) l
unfolding live_on is_on has_id waits_for awaits is_free blank_at idle
free_less us l = record {
  ons = λ a. let z = none_weigh (is_on a) (λ x. refl) us in omega arith;
  ids = λ i b. let z = none_weigh (has_id i b) (λ x. refl) us in omega arith;
  waits = λ k. let z = none_weigh (waits_for k) (λ x. refl) us in omega arith;
}

used-rules : (p : Plan) (us : List ℕ) → accepted p ≡ true → length us ≡ places → every is_use us ≡ true → Rules p (rested p.interval idle) 0 (map blank_at us)
used-rules p us a n k =
    rules_less p (rested p.interval idle) 0 (replicate places nobody) (rules_fresh p a) (map blank_at us)
    (length-map us blank_at ∙ n ∙ sym (length-replicate places nobody)) (free_ok_lem (bounds_of p) us k) (free_less us (replicate places nobody))

used_table : (p : Plan) (us : List ℕ) → accepted p ≡ true → length us ≡ places → every is_use us ≡ true
    → keeps_rules (fresh_state p).node (map blank_at us) ≡ true
unfolding fresh_state fresh_held fresh_answer fresh_node
used_table p us a n k = rw a (rules_to (fresh_node p) (map blank_at us) (used-rules p us a n k))

used_kept : (p : Plan) (us : List ℕ) → accepted p ≡ true → length us ≡ places → every is_use us ≡ true → Kept (fresh_used p us)
unfolding fresh_used
used_kept p us a n k =
    keeps_both (fresh_state p).node (map blank_at us) (fresh_state p).store (used_table p us a n k) (kept_store (fresh_state p) (fresh_stored_keeps p a))

used_start : (p : Plan) (us : List ℕ) → accepted p ≡ true → length us ≡ places → every is_use us ≡ true → Start p (fresh_used p us)
unfolding fresh_used
used_start p us a n k = record { plan = fresh_plan p a; rules = used_kept p us a n k }

start_used : (p : Plan) (us : List ℕ) → Start p (fresh_used p us) → (length us ≡ places) × (every is_use us ≡ true)
unfolding fresh_used
start_used p us g = let r = start_rules p (fresh_used p us) g in (sym (length-map us blank_at) ∙ r.size, ok_uses (bounds_of p) us r.each)

zeros_are : (n : ℕ) → map blank_at (replicate n 0) ≡ replicate n nobody
zeros_are zero = refl
zeros_are (suc n) = rw (zeros_are n)

pub any_uses_start : AnyUsesStart
unfolding fresh_used fresh_state fresh_held
any_uses_start = record {
  starts = λ p us a. (start_used p us, λ k. used_start p us a k.0 k.1);
  zeros = λ p. rw (zeros_are places);
}
