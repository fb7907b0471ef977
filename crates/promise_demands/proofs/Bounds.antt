-- That what specs/Bounds.antt says holds, and what that rests on.
-- Assumes nothing.
use Rattle.std.specs.Prelude.{ℕ, ◌<◌, ◌≤◌, true, false, List, ◌≢◌, ◌≡◌, refl}
use Rattle.std.proofs.Common.{arith, eq-eqb}
use Rattle.unit_tunnel.specs.Numbering.{places, teids, last_use, control_offset, user_offset, control_fits, user_fits}
use Rattle.unit_tunnel.specs.Tunnel.{number_same, number_fits, kinds_apart}
use Rattle.unit_plan.specs.declared.Plan.{Plan}
use Rattle.unit_plan.specs.Address.{address_same}
use Rattle.unit_session.specs.declared.OwnRequest.{OwnRequest}
use Rattle.unit_session.specs.declared.Session.{Session}
use Rattle.unit_session.specs.Session.{is_free, has_id}
use Rattle.unit_session.specs.Keep.{ok_usage}
use Rattle.unit_table.specs.Rules.{bounds_of, Rules, rules_of}
use Rattle.unit_table.specs.Change.{record_ok_lem}
use Rattle.unit_table.specs.Find.{found_only}
use Rattle.call_store.specs.Stored.{State}
use Rattle.promise_demands.specs.Numbers.{tick_numbers, close_numbers, send_numbers, control_numbers, line_numbers, TickNumbers, CloseNumbers, SendNumbers, ControlNumbers, LineNumbers}
use Rattle.promise_demands.proofs.Numbers.{among_other, tick_numbers_lem, close_numbers_lem, send_numbers_lem, control_numbers_lem, line_numbers_lem}
use Rattle.promise_demands.specs.UserNumbers.{user_numbers, UserNumbers, down_numbers, DownNumbers}
use Rattle.promise_demands.proofs.UserNumbers.{user_numbers_lem, down_numbers_lem}
use Rattle.promise_demands.specs.Run.{Event, control, user, down, tick, send, close, line, answered, run, Kept, Start}
use Rattle.promise_demands.proofs.Run.{kept_table}
use Rattle.promise_demands.proofs.Stays.{run_start}
use Rattle.promise_demands.specs.Bounds.{at, RulesHold, NeitherTwoNorEleven, CeilingsKept, Apart, Own, NoneShared}

-- ---- the rules by name, under the plan of the start
under_plan : (q p : Plan) (echo : OwnRequest) (next : ℕ) (l : List Session) → q ≡ p → Rules q echo next l → Rules p echo next l
under_plan q p echo next l e r = rw (← e) r

pub start_rules : (p : Plan) (s : State) → Start p s → Rules p s.node.echo s.node.next s.table
start_rules p s g = under_plan s.node.plan p s.node.echo s.node.next s.table g.plan (rules_of s.node s.table (kept_table s g.rules))

pub rules_hold : RulesHold
unfolding RulesHold
rules_hold = run_start

kept_neither : (s : State) → Kept s → (e : Event) → (answered e s ≢ 2) × (answered e s ≢ 11)
unfolding answered tick_numbers close_numbers send_numbers control_numbers line_numbers user_numbers down_numbers TickNumbers CloseNumbers SendNumbers ControlNumbers LineNumbers UserNumbers DownNumbers
kept_neither s k (control d reply) =
    let m = control_numbers_lem s.node s.table s.store d reply k in
    (among_other (answered (control d reply) s) 2 control_numbers m refl, among_other (answered (control d reply) s) 11 control_numbers m refl)
kept_neither s k (user d reply) =
    let m = user_numbers_lem s.node s.table s.store d reply k in
    (among_other (answered (user d reply) s) 2 user_numbers m refl, among_other (answered (user d reply) s) 11 user_numbers m refl)
kept_neither s k (down packet out) =
    let m = down_numbers_lem s.node s.table s.store packet out k in
    (among_other (answered (down packet out) s) 2 down_numbers m refl, among_other (answered (down packet out) s) 11 down_numbers m refl)
kept_neither s k tick =
    let m = tick_numbers_lem s.node s.table s.store k in
    (among_other (answered tick s) 2 tick_numbers m refl, among_other (answered tick s) 11 tick_numbers m refl)
kept_neither s k (send reply) =
    let m = send_numbers_lem s.node s.table s.store reply k in
    (among_other (answered (send reply) s) 2 send_numbers m refl, among_other (answered (send reply) s) 11 send_numbers m refl)
kept_neither s k (close place) =
    let m = close_numbers_lem s.node s.table s.store place k in
    (among_other (answered (close place) s) 2 close_numbers m refl, among_other (answered (close place) s) 11 close_numbers m refl)
kept_neither s k (line place reply) =
    let m = line_numbers_lem s.node s.table s.store place reply k in
    (among_other (answered (line place reply) s) 2 line_numbers m refl, among_other (answered (line place reply) s) 11 line_numbers m refl)

pub neither_two_nor_eleven : NeitherTwoNorEleven
unfolding NeitherTwoNorEleven
neither_two_nor_eleven p s es r = kept_neither (run es s) (run_start p s es r).rules

pub ceilings_kept : CeilingsKept
unfolding CeilingsKept places
ceilings_kept p s es r = let w = (start_rules p (run es s) (run_start p s es r)).within in (w.under, w.room)

has_id_lem : (s : Session) → is_free s ≡ false → has_id s.imsi s.ebi s ≡ true
unfolding has_id
has_id_lem s n = rw (n, eq-eqb s.imsi s.imsi refl, eq-eqb s.ebi s.ebi refl)

module _ (p : Plan) (s : State) (g : Start p s) (i : ℕ) (h : i < places) where
  rules : Rules p s.node.echo s.node.next s.table
  rules = start_rules p s g

  usage : (at s i).usage ≤ last_use
  usage = ok_usage (bounds_of p) (at s i) (record_ok_lem p s.node.echo s.node.next s.table rules i)

  own : Own i (at s i)
  unfolding places teids
  own = record {
    control = number_fits control_offset (at s i).usage i control_fits h usage;
    user = number_fits user_offset (at s i).usage i user_fits h usage;
    kinds = λ j v k. kinds_apart (at s i).usage i v j h k;
  }

  apart : (j : ℕ) → j < places → i ≢ j → is_free (at s i) ≡ false → is_free (at s j) ≡ false → Apart p i j (at s i) (at s j)
  unfolding places
  apart j k n a b = record {
    controls = λ e. n (number_same control_offset (at s i).usage i (at s j).usage j control_fits h k e).1;
    users = λ e. n (number_same user_offset (at s i).usage i (at s j).usage j user_fits h k e).1;
    addresses = λ e. n (address_same p.pool i j h k e);
    ids = λ e o. n (found_only (has_id (at s j).imsi (at s j).ebi) s.table i j (rules.once (at s j).imsi (at s j).ebi) (let z = rules.size in omega arith) (let z = rules.size in omega arith)
        (rw (← e, ← o) (has_id_lem (at s i) a)) (has_id_lem (at s j) b));
  }

pub none_shared : NoneShared
unfolding NoneShared
none_shared p s es r i h = let g = run_start p s es r in (own p (run es s) g i h, apart p (run es s) g i h)
