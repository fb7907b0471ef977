-- That what specs/Ticks.antt says holds, and what that rests on.
-- Assumes nothing.
use Rattle.std.specs.Prelude.{ℕ, zero, suc, ◌+◌, ◌<◌, ◌≤◌, true, false, ◌≡◌, refl, length, replicate, eqb}
use Rattle.std.proofs.Common.{◌∙◌, arith}
use Rattle.std.proofs.Math.Path.{ap}
use Rattle.std.proofs.lemmas.Bool.{lt-leb}
use Rattle.base_octets.specs.Choice.{split, and_no}
use Rattle.base_octets.specs.Places.{map_at}
use Rattle.unit_tunnel.specs.Numbering.{places}
use Rattle.unit_plan.specs.declared.Plan.{Plan}
use Rattle.unit_plan.specs.Plan.{accepted, accepted_figures}
use Rattle.unit_session.specs.declared.OwnRequest.{OwnRequest}
use Rattle.unit_session.specs.OwnRequest.{idle, spent, counted_down}
use Rattle.unit_session.specs.Session.{is_free, freed, blank_at, turned, ticked}
use Rattle.unit_table.specs.Change.{nobody}
use Rattle.unit_table.specs.Own.{rested, echo_ticked, all_ticked, fresh_node}
use Rattle.unit_store.specs.Store.{aged}
use Rattle.call_own.specs.Calls.{fresh_answer, timed, tick_of, fresh_held}
use Rattle.call_own.specs.Outcome.{no_reply}
use Rattle.call_store.specs.Stored.{State, fresh_state}
use Rattle.promise_demands.specs.Run.{left, tick, step, run, of_octets, Kept, Start}
use Rattle.promise_demands.proofs.Run.{fresh_start, start_accepted, kept_table, tick_is}
use Rattle.promise_demands.proofs.Stays.{step_start, run_start}
use Rattle.promise_demands.specs.Bounds.{at}
use Rattle.promise_demands.proofs.Bounds.{start_rules}
use Rattle.promise_demands.specs.Ticks.{EveryTickCounts}

tick_leaves : (s : State) → Kept s → step tick s ≡ record {
  node = timed (echo_ticked s.node.plan s.node.echo) s.node.next s.node;
  table = (all_ticked s.node.plan s.node.echo s.table);
  store = aged s.store;
}
unfolding left tick_of no_reply
tick_leaves s k = rw (tick_is s k, kept_table s k)

module _ (p : Plan) (s : State) (k : Kept s) (plan : s.node.plan ≡ p) (size : length s.table ≡ places) where
  tick_echo : (step tick s).node.echo ≡ echo_ticked p s.node.echo
  unfolding timed
  tick_echo = ap (λ (x : State). x.node.echo) (tick_leaves s k) ∙ ap (λ (x : Plan). echo_ticked x s.node.echo) plan

  tick_recs : (step tick s).table ≡ all_ticked p s.node.echo s.table
  tick_recs = ap (λ (x : State). x.table) (tick_leaves s k) ∙ ap (λ (x : Plan). all_ticked x s.node.echo s.table) plan

  echo_down : 0 < s.node.echo.timer → spent p.sends s.node.echo ≡ false → (step tick s).node.echo.timer + 1 ≡ s.node.echo.timer
  unfolding echo_ticked counted_down
  echo_down h n = rw (tick_echo, n) (omega arith)

  pub place-ticked : (i : ℕ) → i < places → spent p.sends s.node.echo ≡ false → at (step tick s) i ≡ ticked p.sends (at s i)
  unfolding all_ticked
  place-ticked i h n = rw (tick_recs, n) (map_at (ticked p.sends) s.table i nobody nobody (omega arith))

  pub all_freed : (i : ℕ) → i < places → spent p.sends s.node.echo ≡ true → at (step tick s) i ≡ freed (at s i)
  unfolding all_ticked
  all_freed i h n = rw (tick_recs, n) (map_at freed s.table i nobody nobody (omega arith))

  place_down : (i : ℕ) → i < places → 0 < (at s i).own.timer → spent p.sends s.node.echo ≡ false → spent p.sends (at s i).own ≡ false
      → (at (step tick s) i).own.timer + 1 ≡ (at s i).own.timer
  unfolding ticked turned counted_down
  place_down i h t n m = rw (place-ticked i h n, m) (omega arith)

  place_up : (i : ℕ) → i < places → spent p.sends (at s i).own ≡ true → is_free (at (step tick s) i) ≡ true
  unfolding ticked freed blank_at is_free
  place_up i h m = split (spent p.sends s.node.echo) (λ n. rw (all_freed i h n)) (λ n. rw (place-ticked i h n, m))

  lost_up : (i : ℕ) → i < places → spent p.sends s.node.echo ≡ true → is_free (at (step tick s) i) ≡ true
  unfolding freed blank_at is_free
  lost_up i h n = rw (all_freed i h n)

-- nothing is given up before it is sent
unsent : (n : ℕ) (r : OwnRequest) → r.sends ≡ 0 → 1 ≤ n → spent n r ≡ false
unfolding spent
unsent n r z h = rw (z, lt-leb n 0 h) (and_no (eqb r.timer 1))

falls_sends : (p : Plan) (s : State) → Start p s → spent p.sends s.node.echo ≡ false → s.node.echo.sends ≡ 0 → (step tick s).node.echo.sends ≡ 0
unfolding echo_ticked counted_down places
falls_sends p s g u z = rw (tick_echo p s g.rules g.plan (start_rules p s g).size, u) z

fresh_echo : (p : Plan) → accepted p ≡ true → (fresh_state p).node.echo ≡ rested p.interval idle
unfolding fresh_state fresh_held fresh_answer fresh_node
fresh_echo p a = rw a

echo_falls : (p : Plan) → 1 ≤ p.sends → (k : ℕ) (s : State) → Start p s → s.node.echo.sends ≡ 0 → k ≤ s.node.echo.timer
    → (run (replicate k tick) s).node.echo.timer + k ≡ s.node.echo.timer
unfolding run places of_octets
echo_falls p some zero s g z h = omega arith
echo_falls p some (suc n) s g z h =
    let u = unsent p.sends s.node.echo z some in
    let d = echo_down p s g.rules g.plan (start_rules p s g).size (omega arith) u in
    let y = falls_sends p s g u z in
    let r = echo_falls p some n (step tick s) (step_start p tick s refl g) y (omega arith) in
    omega arith

pub every_tick_counts : EveryTickCounts
unfolding places rested idle
every_tick_counts = record {
  any = λ p s es r.
      let g = run_start p s es r in
      let n = (start_rules p (run es s) g).size in
      record {
        echo = echo_down p (run es s) g.rules g.plan n;
        place = place_down p (run es s) g.rules g.plan n;
        given_up = place_up p (run es s) g.rules g.plan n;
        echo_lost = lost_up p (run es s) g.rules g.plan n;
      };
  down = λ p s g z k h. echo_falls p (accepted_figures p (start_accepted p s g)).first k s g z h;
  fresh = λ p a k h.
      let e = ap (λ (x : OwnRequest). x.timer) (fresh_echo p a) in
      echo_falls p (accepted_figures p a).first k (fresh_state p) (fresh_start p a) (ap (λ (x : OwnRequest). x.sends) (fresh_echo p a)) (omega arith) ∙ e;
}
