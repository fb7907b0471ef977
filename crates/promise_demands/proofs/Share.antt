-- That what specs/Share.antt says holds, and what that rests on.
-- Assumes nothing.
use Rattle.std.specs.Prelude.{ℕ, ◌+◌, ◌<◌, ◌≤◌, max, true, false, List, ◌≢◌, ◌≡◌, refl, length, get_or, eqb, ltb}
use Rattle.std.proofs.Common.{sym, ◌∙◌, arith, eqb-true, ltb-true, ltb-false, ne_eqb}
use Rattle.std.proofs.Math.Path.{ap}
use Rattle.std.proofs.Math.ListN.{get_or-eq_default}
use Rattle.std.proofs.lemmas.Bool.{eqb-false}
use mir.Val.{bool_byte}
use Rattle.base_octets.specs.Choice.{split, impossible}
use Rattle.base_octets.specs.Sums.{sum_set}
use Rattle.base_octets.specs.Below.{to_fewer, to_more}
use Rattle.unit_plan.specs.declared.Plan.{Plan}
use Rattle.unit_plan.specs.Limits.{parties}
use Rattle.unit_tunnel.specs.Numbering.{places}
use Rattle.unit_sharing.specs.Sharing.{Within, share, share_of, admitted, admits, guarantee_at, ceiling_at, accepted_fair, guarantee_admits, share_less}
use Rattle.unit_sharing.proofs.Sharing.{sharable-admits}
use Rattle.unit_session.specs.declared.Session.{Session}
use Rattle.unit_session.specs.Session.{is_free, is_on, freed, blank_at}
use Rattle.unit_table.specs.Rules.{live_on}
use Rattle.unit_table.specs.Change.{nobody, changed_at}
use Rattle.wire_requests.specs.declared.Create as C
use Rattle.call_own.specs.Outcome.{Outcome, least_reply}
use Rattle.call_control.specs.Amends.{cause_taken}
use Rattle.call_control.specs.Creates.{accepted_taken, no_room}
use Rattle.call_store.specs.Stored.{State}
use Rattle.promise_demands.specs.Run.{Event, control, step, answered, run, of_octets, Kept, Start}
use Rattle.promise_demands.proofs.Run.{start_accepted}
use Rattle.promise_demands.proofs.Stays.{step_start, run_start}
use Rattle.promise_demands.specs.Bounds.{at, u}
use Rattle.promise_demands.proofs.Bounds.{start_rules}
use Rattle.promise_demands.specs.Creates.{NewCreate, asked_u, accepted_of, refused_of}
use Rattle.promise_demands.proofs.Creates.{create-accepted, create-refused, create-point, asked_less}
use Rattle.promise_demands.specs.Share.{Judged, RefusalsJust, GuaranteesKept, Fewer, OneLess, FreedIsRoom}

module _ (p : Plan) (s : State) (kept : Kept s) (plan : s.node.plan ≡ p) (d : List ℕ) (c : C.Create) (n : NewCreate p s d c) (reply : List ℕ) (room : least_reply ≤ length reply) where
  pub number_yes : admits p (asked_u c s) c.point ≡ true → answered (control d reply) s ≡ 0
  unfolding answered accepted_of accepted_taken
  number_yes e = ap (λ (o : Outcome). o.answer.number) (create-accepted p s kept plan d c n reply room e)

  pub number_no : admits p (asked_u c s) c.point ≡ false → answered (control d reply) s ≡ 73
  unfolding answered refused_of cause_taken no_room
  number_no e = ap (λ (o : Outcome). o.answer.number) (create-refused p s kept plan d c n reply room e)

  judged : Judged p s d c reply
  judged = record {
    no_reply = ((λ f. split (admits p (asked_u c s) c.point) (λ e. let z : ◌≡◌ {A = ℕ} 0 73 = sym (number_yes e) ∙ f in absurd (omega arith)) (λ e. e)), number_no);
    accepted = ((λ f. split (admits p (asked_u c s) c.point) (λ e. e) (λ e. let z : ◌≡◌ {A = ℕ} 73 0 = sym (number_no e) ∙ f in absurd (omega arith))), number_yes);
    leaves = create-accepted p s kept plan d c n reply room;
    tells = create-refused p s kept plan d c n reply room;
  }

pub refusals_just : RefusalsJust
unfolding RefusalsJust
refusals_just p s es r d c n reply room = let g = run_start p s es r in judged p (run es s) g.rules g.plan d c n reply room

pub guarantees_kept : GuaranteesKept
unfolding GuaranteesKept
guarantees_kept p s es r d c n h reply room =
    number_yes p (run es s) g.rules g.plan d c n reply room
    (guarantee_admits (parties p) (guarantee_at p) (ceiling_at p) (asked_u c (run es s)) c.point
    ((accepted_fair p (start_accepted p s r.start)).capped c.point (create-point p (run es s) g.rules g.plan d c n reply room))
    (let l = asked_less c (run es s) c.point in omega arith))
  where
    g : Start p (run es s)
    g = run_start p s es r

-- the counts: u < g, or S has become less
fewer_admitted : (n : ℕ) (g c w v : ℕ → ℕ) (a : ℕ) → a < n → g a ≤ c a → Within n g c w → v a < w a → ((b : ℕ) → v b ≤ w b) → admitted n g c v a ≡ true
unfolding share
fewer_admitted n g c w v a h k i l o =
    split (ltb (v a) (g a))
    (λ t. guarantee_admits n g c v a k (ltb-true (v a) (g a) t))
    (λ t. let m = ltb-false (v a) (g a) t in
    let x = to_fewer (λ b. max (v b) (g b)) (λ b. max (w b) (g b)) n a h
    (λ b q. let y = o b in
    split (eqb a b)
    (λ z. let f = eqb-true a b z in let l' : v b < w b = rw (← f) l in let m' : g b ≤ v b = rw (← f) m in rw z (omega arith))
    (λ z. rw z (omega arith))) in
    let r = i.room in
    let d = i.under a h in
    sharable-admits n g c v a (omega arith) (omega arith))

on_there : (a i : ℕ) (l : List Session) → is_on a (get_or l i nobody) ≡ true → i < length l
unfolding is_on is_free blank_at
on_there a i l e =
    split (ltb i (length l)) (λ t. ltb-true i (length l) t)
    (λ t. impossible (rw (get_or-eq_default l nobody (ltb-false i (length l) t)) at e))

freed_off : (b : ℕ) (s : Session) → is_on b (freed s) ≡ false
unfolding is_on is_free freed blank_at
freed_off b s = refl

on_one : (a b : ℕ) (s : Session) → is_on a s ≡ true → a ≢ b → is_on b s ≡ false
unfolding is_on
on_one a b s e n =
    split (is_free s) (λ q. rw q)
    (λ q. let f : eqb s.point a ≡ true = rw q at e in
    let g = eqb-true s.point a f in
    rw (q, ne_eqb s.point b (λ z. n (sym g ∙ z))))

one_less : (a i : ℕ) (l : List Session) → is_on a (get_or l i nobody) ≡ true → OneLess a i l
unfolding live_on changed_at
one_less a i l e =
    let h = on_there a i l e in
    record {
      less = let x = rw (e, freed_off a (get_or l i nobody)) at (sum_set (λ s. bool_byte (is_on a s)) l i (freed (get_or l i nobody)) nobody h) in omega arith;
      others = λ b n. let x = rw (on_one a b (get_or l i nobody) e n, freed_off b (get_or l i nobody)) at (sum_set (λ s. bool_byte (is_on b s)) l i (freed (get_or l i nobody)) nobody h) in omega arith;
    }

-- after one more call
module _ (p : Plan) (s : State) (g : Start p s) (e : Event) (o : of_octets e ≡ true) (d : List ℕ) (c : C.Create) (n : NewCreate p (step e s) d c) (reply : List ℕ)
    (room : least_reply ≤ length reply) where
  then : Start p (step e s)
  then = step_start p e s o g

  freed-room : Fewer c.point s (step e s) → answered (control d reply) (step e s) ≡ 0
  freed-room f =
      number_yes p (step e s) then.rules then.plan d c n reply room
      (fewer_admitted (parties p) (guarantee_at p) (ceiling_at p) (u s) (asked_u c (step e s)) c.point h
      ((accepted_fair p (start_accepted p s g)).capped c.point h) (start_rules p s g).within
      (let l = asked_less c (step e s) c.point in let m = f.less in omega arith) (λ b. let l = asked_less c (step e s) b in let m = f.others b in omega arith))
    where
      h : c.point < parties p
      h = create-point p (step e s) then.rules then.plan d c n reply room

  any_room : u (step e s) c.point < ceiling_at p c.point → share_of p (u (step e s)) < places → answered (control d reply) (step e s) ≡ 0
  unfolding places
  any_room under free =
      number_yes p (step e s) then.rules then.plan d c n reply room
      (sharable-admits (parties p) (guarantee_at p) (ceiling_at p) (asked_u c (step e s)) c.point (let l = asked_less c (step e s) c.point in omega arith)
      (let m = share_less (parties p) (guarantee_at p) (u (step e s)) (asked_u c (step e s)) (λ b h. asked_less c (step e s) b) in omega arith))

one_less_shared : (p : Plan) (a i : ℕ) (l : List Session) → a < parties p → is_on a (get_or l i nobody) ≡ true → guarantee_at p a < live_on a l
    → share_of p (λ b. live_on b (changed_at freed i l)) + 1 ≡ share_of p (λ b. live_on b l)
unfolding share
one_less_shared p a i l h e more =
    let o = one_less a i l e in
    let less = o.less in
    let down = to_fewer after before (parties p) a h (λ b q. split (eqb a b)
    (λ z. let f = eqb-true a b z in let l' : live_on b (changed_at freed i l) + 1 ≡ live_on b l = rw (← f) less in let m : guarantee_at p b < live_on b l = rw (← f) more in rw z (omega arith))
    (λ z. let k = o.others b (eqb-false a b z) in rw (z, k) (omega arith))) in
    let up = to_more before after (parties p) a (λ b q. split (eqb a b)
    (λ z. let f = eqb-true a b z in let l' : live_on b (changed_at freed i l) + 1 ≡ live_on b l = rw (← f) less in rw z (omega arith))
    (λ z. let k = o.others b (eqb-false a b z) in rw (z, k) (omega arith))) in
    omega arith
  where
    after : ℕ → ℕ
    after b = max (live_on b (changed_at freed i l)) (guarantee_at p b)

    before : ℕ → ℕ
    before b = max (live_on b l) (guarantee_at p b)

one_fewer : (a i : ℕ) (before after : State) → is_on a (at before i) ≡ true → after.table ≡ changed_at freed i before.table → Fewer a before after
one_fewer a i before after h e =
    let o = one_less a i before.table h in
    record {
      less = let l = o.less in rw e (omega arith);
      others = λ b. split (eqb a b)
          (λ q. let f = eqb-true a b q in let l = o.less in rw (e, ← f) (omega arith))
          (λ q. let l = o.others b (eqb-false a b q) in rw e (omega arith));
    }

pub freed_is_room : FreedIsRoom
freed_is_room = record {
  counts = one_less;
  room = λ p s es r e o d c f n reply room. freed-room p (run es s) (run_start p s es r) e o d c n reply room f;
  place = λ p s es r e o d c i h q n reply room.
      freed-room p (run es s) (run_start p s es r) e o d c n reply room (one_fewer c.point i (run es s) (step e (run es s)) h q);
  others = λ p s es r e o d c n under free reply room. any_room p (run es s) (run_start p s es r) e o d c n reply room under free;
  shares = one_less_shared;
}
