-- That what specs/Late.antt says holds, and what that rests on.
-- Assumes nothing.
use Rattle.std.specs.Prelude.{ℕ, ◌≤◌, List, ◌≡◌, length, get_or, Option, Some, None}
use Rattle.std.proofs.Math.Bool.{false}
use Rattle.std.proofs.Math.Path.{refl, ap}
use Rattle.std.proofs.Common.{sym, ◌∙◌}
use borrow.Author.Tests.{le-ltb}
use Rattle.base_octets.specs.Choice.{split, impossible}
use Rattle.unit_sharing.specs.Sharing.{admits}
use Rattle.unit_session.specs.declared.OwnRequest.{OwnRequest}
use Rattle.unit_session.specs.declared.Session.{Session}
use Rattle.unit_session.specs.Session.{is_free, has_id, freed, opened}
use Rattle.unit_table.specs.declared.Node.{Node}
use Rattle.unit_table.specs.declared.Judged.TheVariants as J
use Rattle.unit_table.specs.Rules.{live}
use Rattle.unit_table.specs.Change.{nobody, changed_at, changed_other}
use Rattle.unit_table.specs.Find.{found_in, found_is}
use Rattle.unit_table.specs.Own.{rested}
use Rattle.unit_table.specs.Recovery.{judged_by, is_restarted, restarted_by, late_by}
use Rattle.unit_store.specs.Store.{emptied, emptied_none}
use Rattle.wire_requests.specs.declared.Create as C
use Rattle.call_asked.specs.declared.Asked.{Asked}
use Rattle.call_asked.specs.declared.Asked.TheVariants as A
use Rattle.call_asked.specs.Asked.{asked_of}
use Rattle.call_own.specs.Outcome.{least_reply, no_reply, changing}
use Rattle.call_own.specs.Calls.{timed}
use Rattle.call_control.specs.Echoes.{restarts_by, heard_by, heard_places, heard_late, echo_taken, echo_ended, echo_reply_taken}
use Rattle.call_control.specs.Amends.{cause_taken}
use Rattle.call_control.specs.Creates.{opening_of, accepted_taken, opened_at, shared, is_repeat, settled_at, heard_create, opened_places, create_places, create_taken}
use Rattle.call_control.specs.Control.{asked_taken, control_taken, restarts_in}
use Rattle.call_store.specs.Stored.{State, asks_store, store_after, control_stored}
use Rattle.call_store.specs.Laws.{control_new, unasked_unkept, of_session, others_ask_not}
use Rattle.promise_demands.specs.Run.{left, control, step, run, Kept}
use Rattle.promise_demands.proofs.Run.{kept_table}
use Rattle.promise_demands.proofs.Stays.{settled-part, run_start}
use Rattle.promise_demands.specs.Restarted.{recovery_in, TableGone}
use Rattle.promise_demands.proofs.Restarted.{none_value, asked_gone}
use Rattle.promise_demands.specs.Late.{create_without, without, is_for, Carries, ahead, ThrownAway, LateKeeps, AllGone, RestartsFree}

-- ---- a Create whose value is late
module _ (c : C.Create) (seq : ℕ) (node : Node) (t : List Session) (reply : List ℕ) where
  -- what it carries beside its Recovery is what it is judged by
  opened_none : (n : Node) (m : List Session) (f : Option ℕ) → opened_at f c seq n m node t reply ≡ opened_at f (create_without c) seq n m node t reply
  unfolding opened_at opening_of create_without
  opened_none n m None = refl
  opened_none n m (Some i) = refl

  shared_none : (n : Node) (m : List Session) → shared c seq n m node t reply ≡ shared (create_without c) seq n m node t reply
  unfolding shared create_without
  shared_none n m = rw (opened_none n m (found_in is_free m))

  settled_none : (n : Node) (m : List Session) (f : Option ℕ) → settled_at f c seq n m node t reply ≡ settled_at f (create_without c) seq n m node t reply
  unfolding settled_at is_repeat create_without
  settled_none n m None = shared_none n m
  settled_none n m (Some i) = rw (shared_none n (changed_at freed i m))

  module _ (value : ℕ) (carried : c.recovery ≡ Some value) (late : judged_by node value ≡ J.Late) where
    create-heard : heard_by c.recovery node t ≡ record { node = node; table = t }
    unfolding heard_by
    create-heard = rw carried (heard_late value node t late)

    create-places : create_places c seq node t ≡ create_places (create_without c) seq node t
    unfolding create_places restarts_by is_restarted opened_places is_repeat create_without
    create-places = let e : restarts_by c.recovery node ≡ false = rw (carried, late) in rw e

    create_none : create_taken c seq node t reply ≡ create_taken (create_without c) seq node t reply
    unfolding create_taken heard_create heard_by create_without
    create_none =
        ap (λ a. changing (create_places c seq node t) (heard_create c seq a node t reply)) create-heard
        ∙ ap (λ x. changing x (heard_create c seq (record { node = node; table = t }) node t reply)) create-places
        ∙ ap (changing (create_places (create_without c) seq node t)) (settled_none node t (found_in (has_id c.imsi c.ebi) t))

    -- a place that is opened was free, and the one that is freed had its IMSI and EBI
    module _ (i : ℕ) (taken : is_free (get_or t i nobody) ≡ false) where
      opened_stays : (m : List Session) → get_or m i nobody ≡ get_or t i nobody → (n : Node) (f : Option ℕ) → found_in is_free m ≡ f
          → get_or (opened_at f c seq n m node t reply).table i nobody ≡ get_or t i nobody
      unfolding opened_at accepted_taken no_reply
      opened_stays m e n None g = refl
      opened_stays m e n (Some j) g =
          changed_other (opened (opening_of c seq)) j m i nobody
          (λ z. let y = (found_is is_free m j g).1.1 in impossible (sym taken ∙ rw (← e, z) y)) ∙ e

      shared_stays : (m : List Session) → get_or m i nobody ≡ get_or t i nobody → (n : Node) → get_or (shared c seq n m node t reply).table i nobody ≡ get_or t i nobody
      unfolding shared cause_taken
      shared_stays m e n = split (admits n.plan (live m) c.point) (λ q. rw q (opened_stays m e n (found_in is_free m) refl)) (λ q. rw q e)

      settled_stays : has_id c.imsi c.ebi (get_or t i nobody) ≡ false → (n : Node) (f : Option ℕ) → found_in (has_id c.imsi c.ebi) t ≡ f
          → get_or (settled_at f c seq n t node t reply).table i nobody ≡ get_or t i nobody
      unfolding settled_at accepted_taken
      settled_stays o n None g = shared_stays t refl n
      settled_stays o n (Some j) g =
          split (is_repeat c seq (get_or t j nobody)) (λ q. rw q)
          (λ q. rw q (shared_stays (changed_at freed j t)
          (changed_other freed j t i nobody (λ z. let y = (found_is (has_id c.imsi c.ebi) t j g).1.1 in impossible (sym o ∙ rw z y))) n))

      create_stays : has_id c.imsi c.ebi (get_or t i nobody) ≡ false → get_or (create_taken c seq node t reply).table i nobody ≡ get_or t i nobody
      unfolding create_taken heard_create
      create_stays o = rw create-heard (settled_stays o node (found_in (has_id c.imsi c.ebi) t) refl)

    create-part : {B : Type 0} (f : Node → B) → f (create_taken c seq node t reply).answer.node ≡ f node
    unfolding create_taken heard_create
    create-part f = rw create-heard (settled-part f c seq node t reply node t refl (found_in (has_id c.imsi c.ebi) t))

-- ---- each datagram whose value is late
module _ (node : Node) (t : List Session) (reply : List ℕ) (value : ℕ) (late : judged_by node value ≡ J.Late) where
  module _ (r : Option ℕ) (e : r ≡ Some value) where
    late_heard : heard_by r node t ≡ record { node = node; table = t }
    unfolding heard_by
    late_heard = rw e (heard_late value node t late)

    late_places : heard_places r node ≡ heard_places None node
    unfolding heard_places restarts_by is_restarted
    late_places = rw (e, late)

  asked_none : (a : Asked) → recovery_in a ≡ Some value → asked_taken node t a reply ≡ asked_taken node t (without a) reply
  unfolding asked_taken recovery_in without echo_taken echo_reply_taken heard_by
  asked_none (A.Silent number) e = refl
  asked_none A.Version e = refl
  asked_none (A.Echo r seq) e = rw (late_heard r e, late_places r e)
  asked_none (A.EchoReply r) e = rw (late_heard r e, late_places r e)
  asked_none (A.Create c seq) e = create_none c seq node t reply value e late
  asked_none (A.Refused w to seq) e = refl
  asked_none (A.Session teid seq x) e = refl

  -- of the node no part that the echo leaves
  asked_part : {B : Type 0} (f : Node → B) → ((r : OwnRequest) → f (timed r node.next node) ≡ f node)
      → (a : Asked) → recovery_in a ≡ Some value → f (asked_taken node t a reply).answer.node ≡ f node
  unfolding asked_taken recovery_in echo_taken echo_reply_taken echo_ended no_reply
  asked_part f k (A.Silent number) e = absurd (none_value value e)
  asked_part f k A.Version e = absurd (none_value value e)
  asked_part f k (A.Echo r seq) e = rw (late_heard r e)
  asked_part f k (A.EchoReply r) e = rw (late_heard r e) (k (rested node.plan.interval node.echo))
  asked_part f k (A.Create c seq) e = create-part c seq node t reply value e late f
  asked_part f k (A.Refused w to seq) e = absurd (none_value value e)
  asked_part f k (A.Session teid seq x) e = absurd (none_value value e)

  asked_stays : (a : Asked) → recovery_in a ≡ Some value → (i : ℕ) → is_free (get_or t i nobody) ≡ false → is_for a (get_or t i nobody) ≡ false
      → get_or (asked_taken node t a reply).table i nobody ≡ get_or t i nobody
  unfolding asked_taken recovery_in is_for echo_taken echo_reply_taken echo_ended no_reply
  asked_stays (A.Silent number) e i n o = refl
  asked_stays A.Version e i n o = refl
  asked_stays (A.Echo r seq) e i n o = rw (late_heard r e)
  asked_stays (A.EchoReply r) e i n o = rw (late_heard r e)
  asked_stays (A.Create c seq) e i n o = create_stays c seq node t reply value e late i n o
  asked_stays (A.Refused w to seq) e i n o = absurd (none_value value e)
  asked_stays (A.Session teid seq x) e i n o = absurd (none_value value e)

-- ---- what carries a value does not ask the store, and empties it where the value is that of a restart
value_asks_not : (a : Asked) (value : ℕ) → recovery_in a ≡ Some value → of_session a ≡ false
unfolding recovery_in of_session
value_asks_not (A.Silent number) value e = refl
value_asks_not A.Version value e = refl
value_asks_not (A.Echo r seq) value e = refl
value_asks_not (A.EchoReply r) value e = refl
value_asks_not (A.Create c seq) value e = refl
value_asks_not (A.Refused w to seq) value e = refl
value_asks_not (A.Session teid seq x) value e = absurd (none_value value e)

restarts_as : (a : Asked) (node : Node) (value : ℕ) → recovery_in a ≡ Some value → restarts_in a node ≡ is_restarted (judged_by node value)
unfolding recovery_in restarts_in restarts_by
restarts_as (A.Silent number) node value e = absurd (none_value value e)
restarts_as A.Version node value e = absurd (none_value value e)
restarts_as (A.Echo r seq) node value e = rw e
restarts_as (A.EchoReply r) node value e = rw e
restarts_as (A.Create c seq) node value e = rw e
restarts_as (A.Refused w to seq) node value e = absurd (none_value value e)
restarts_as (A.Session teid seq x) node value e = absurd (none_value value e)

-- a control datagram that is not short of room comes to what it asks for
module _ (s : State) (kept : Kept s) (d : List ℕ) (value : ℕ) (c : Carries s d value) (reply : List ℕ) (room : least_reply ≤ length reply) where
  asks_not : asks_store d ≡ false
  asks_not = others_ask_not s.node d (asked_of s.node d) refl (value_asks_not (asked_of s.node d) value c.carried)

  new : control_stored s.node s.table s.store d reply
      ≡ record {
        call = control_taken s.node s.table d reply;
        store = store_after s.node d (control_taken s.node s.table d reply) s.store;
      }
  new =
      control_new s.node s.table s.store d reply room kept (unasked_unkept s.node s.table s.store d reply asks_not)

  comes_to_lem : (control_stored s.node s.table s.store d reply).call ≡ asked_taken s.node s.table (asked_of s.node d) reply
  unfolding control_taken
  comes_to_lem = rw (new, le-ltb (length reply) least_reply room, kept_table s kept)

  store_late : judged_by s.node value ≡ J.Late → (step (control d reply) s).store ≡ s.store
  unfolding step left store_after is_restarted
  store_late j = rw (new, asks_not, restarts_as (asked_of s.node d) s.node value c.carried, j)

  store_gone : judged_by s.node value ≡ J.Restarted → (step (control d reply) s).store ≡ emptied s.store
  unfolding step left store_after is_restarted
  store_gone j = rw (new, asks_not, restarts_as (asked_of s.node d) s.node value c.carried, j)

thrown_away : (s : State) → Kept s → (d : List ℕ) (value : ℕ) → Carries s d value → 128 ≤ ahead s value → (reply : List ℕ) → least_reply ≤ length reply → ThrownAway s d reply
unfolding step left timed
thrown_away s kept d value c h reply room =
    let e = comes_to_lem s kept d value c reply room in
    let j = late_by s.node value c.stored h in
    let a = asked_of s.node d in
    record {
      as_none = e ∙ asked_none s.node s.table reply value j a c.carried;
      heard = rw e (asked_part s.node s.table reply value j (λ (n : Node). n.heard) (λ r. refl) a c.carried);
      recovery = rw e (asked_part s.node s.table reply value j (λ (n : Node). n.recovery) (λ r. refl) a c.carried);
      stays = λ i n o. rw e (asked_stays s.node s.table reply value j a c.carried i n o);
      store = store_late s kept d value c reply room j;
    }

pub late_keeps : LateKeeps
unfolding LateKeeps
late_keeps p s es r d value c h reply room = thrown_away (run es s) (run_start p s es r).rules d value c h reply room

stepped : (s : State) (kept : Kept s) (d : List ℕ) (value : ℕ) (c : Carries s d value) (reply : List ℕ) (room : least_reply ≤ length reply)
    → TableGone s.table value (asked_taken s.node s.table (asked_of s.node d) reply).answer.node (asked_taken s.node s.table (asked_of s.node d) reply).table
    → TableGone s.table value (step (control d reply) s).node (step (control d reply) s).table
unfolding step left
stepped s kept d value c reply room g = rw (comes_to_lem s kept d value c reply room) g

restarts_free_at : (s : State) → Kept s → (d : List ℕ) (value : ℕ) → Carries s d value → 1 ≤ ahead s value → ahead s value ≤ 127
    → (reply : List ℕ) → least_reply ≤ length reply → AllGone s value (step (control d reply) s)
restarts_free_at s kept d value c h k reply room =
    let j = restarted_by s.node value c.stored h k in
    let e = store_gone s kept d value c reply room j in
    let g = after-gone in
    record { heard = g.heard; recovery = g.recovery; gone = g.gone; store = e; unused = rw e (emptied_none s.store) }
  where
    after-gone : TableGone s.table value (step (control d reply) s).node (step (control d reply) s).table
    after-gone = stepped s kept d value c reply room
        (asked_gone s.node s.table (kept_table s kept) value (restarted_by s.node value c.stored h k) (asked_of s.node d) c.carried reply)

pub restarts_free : RestartsFree
unfolding RestartsFree
restarts_free p s es r d value c h k reply room = restarts_free_at (run es s) (run_start p s es r).rules d value c h k reply room
