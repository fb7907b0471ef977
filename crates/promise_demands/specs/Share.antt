-- The claims on sound new Creates after any run: 73 exactly when the sharing rule says so; accepted under the guarantee; accepted where a
-- session of the same access point has just been freed.
-- Assumes nothing.
use Rattle.std.specs.Prelude.{ℕ, ◌+◌, ◌<◌, ◌≤◌, true, false, List, ◌≢◌, ◌↔◌, ◌≡◌, length, get_or}
use Rattle.unit_plan.specs.declared.Plan.{Plan}
use Rattle.unit_plan.specs.Limits.{parties}
use Rattle.unit_tunnel.specs.Numbering.{places}
use Rattle.unit_sharing.specs.Sharing.{share_of, admits, guarantee_at, ceiling_at}
use Rattle.unit_session.specs.declared.Session.{Session}
use Rattle.unit_session.specs.Session.{is_on, freed}
use Rattle.unit_table.specs.Rules.{live_on}
use Rattle.unit_table.specs.Change.{nobody, changed_at}
use Rattle.wire_requests.specs.declared.Create as C
use Rattle.wire_header.specs.Header.{header_of}
use Rattle.call_own.specs.Outcome.{least_reply}
use Rattle.call_store.specs.Stored.{State, control_stored}
use Rattle.promise_demands.specs.Run.{Event, control, step, answered, run, of_octets, Run}
use Rattle.promise_demands.specs.Bounds.{at, u}
use Rattle.promise_demands.specs.Creates.{NewCreate, asked_u, accepted_of, refused_of}

-- ---- 73 exactly when the sharing rule says so, accepted otherwise; and what each leaves
pub record Judged (p : Plan) (s : State) (d : List ℕ) (c : C.Create) (reply : List ℕ) : Type 0 where
  pub no_reply : (answered (control d reply) s ≡ 73) ↔ (admits p (asked_u c s) c.point ≡ false)
  pub accepted : (answered (control d reply) s ≡ 0) ↔ (admits p (asked_u c s) c.point ≡ true)
  pub leaves : admits p (asked_u c s) c.point ≡ true → (control_stored s.node s.table s.store d reply).call ≡ accepted_of (header_of d).sequence c s reply
  pub tells : admits p (asked_u c s) c.point ≡ false → (control_stored s.node s.table s.store d reply).call ≡ refused_of (header_of d).sequence c s reply

unfoldable pub RefusalsJust : Type 0
RefusalsJust = (p : Plan) (s : State) (es : List Event) → Run p s es → (d : List ℕ) (c : C.Create) → NewCreate p (run es s) d c
    → (reply : List ℕ) → least_reply ≤ length reply → Judged p (run es s) d c reply

-- ---- under its guarantee: u as it is before the call
unfoldable pub GuaranteesKept : Type 0
GuaranteesKept = (p : Plan) (s : State) (es : List Event) → Run p s es → (d : List ℕ) (c : C.Create) → NewCreate p (run es s) d c
    → u (run es s) c.point < guarantee_at p c.point
    → (reply : List ℕ) → least_reply ≤ length reply → answered (control d reply) (run es s) ≡ 0

-- ---- a freed place is room at once
-- an access point has fewer sessions than before, and none has more
pub record Fewer (a : ℕ) (before after : State) : Type 0 where
  pub less : u after a < u before a
  pub others : (b : ℕ) → u after b ≤ u before b

-- freeing one place: one less on its access point, all others as they were
pub record OneLess (a i : ℕ) (l : List Session) : Type 0 where
  pub less : live_on a (changed_at freed i l) + 1 ≡ live_on a l
  pub others : (b : ℕ) → a ≢ b → live_on b (changed_at freed i l) ≡ live_on b l

pub record FreedIsRoom : Type 0 where
  pub counts : (a i : ℕ) (l : List Session) → is_on a (get_or l i nobody) ≡ true → OneLess a i l
  -- after the very call that left the access point fewer sessions, a sound new Create for it is accepted
  pub room : (p : Plan) (s : State) (es : List Event) → Run p s es → (e : Event) → of_octets e ≡ true
      → (d : List ℕ) (c : C.Create) → Fewer c.point (run es s) (step e (run es s)) → NewCreate p (step e (run es s)) d c
      → (reply : List ℕ) → least_reply ≤ length reply → answered (control d reply) (step e (run es s)) ≡ 0
  -- so it is where the call freed a place of the access point and left every other record as it was
  pub place : (p : Plan) (s : State) (es : List Event) → Run p s es → (e : Event) → of_octets e ≡ true
      → (d : List ℕ) (c : C.Create) (i : ℕ) → is_on c.point (at (run es s) i) ≡ true
      → (step e (run es s)).table ≡ changed_at freed i (run es s).table → NewCreate p (step e (run es s)) d c
      → (reply : List ℕ) → least_reply ≤ length reply → answered (control d reply) (step e (run es s)) ≡ 0
  -- a place that any access point gave up is room at once, where the rule says so: u under the ceiling, and S under places after the call
  pub others : (p : Plan) (s : State) (es : List Event) → Run p s es → (e : Event) → of_octets e ≡ true
      → (d : List ℕ) (c : C.Create) → NewCreate p (step e (run es s)) d c
      → u (step e (run es s)) c.point < ceiling_at p c.point → share_of p (u (step e (run es s))) < places
      → (reply : List ℕ) → least_reply ≤ length reply → answered (control d reply) (step e (run es s)) ≡ 0
  -- and freeing a place of one that has more than its guarantee makes S one less
  pub shares : (p : Plan) (a i : ℕ) (l : List Session) → a < parties p → is_on a (get_or l i nobody) ≡ true → guarantee_at p a < live_on a l
      → share_of p (λ b. live_on b (changed_at freed i l)) + 1 ≡ share_of p (λ b. live_on b l)
