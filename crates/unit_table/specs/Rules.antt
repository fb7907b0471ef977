-- What a table is and when it keeps its rules (number 2 otherwise). The rules stand first as one test that reads like document 01,
-- then as facts by name, which is what proofs carry through every operation; the two say the same.
-- Assumes nothing.
use Rattle.std.specs.Prelude.{◌≡◌, ℕ, ◌+◌, ◌≤◌, Bool, true, not, ◌&&◌, leb, List, ◌∷◌, map, length, ◌==◌, nat_eq, nat_le, refl}
use Rattle.std.proofs.Common.{arith, eqb-true, eq-eqb, le-leb}
use mir.Val.{bool_byte}
use Rattle.base_octets.specs.Choice.{and_left, and_right, tests}
use Rattle.base_octets.specs.Every.{every}
use Rattle.base_octets.specs.Sums.{sum_of, count_of, sum_of_map}
use Rattle.unit_tunnel.specs.Numbering.{places}
use Rattle.unit_plan.specs.declared.Plan.{Plan}
use Rattle.unit_plan.specs.Limits.{parties}
use Rattle.unit_plan.specs.Plan.{accepted}
use Rattle.unit_sharing.specs.Sharing.{Within, guarantee_at, ceiling_at, within_ok, within_of_lem, within_to}
use Rattle.base_distinct.specs.Apart.{pairwise, pairwise_count, count_pairwise}
use Rattle.unit_session.specs.declared.OwnRequest.{OwnRequest}
use Rattle.unit_session.specs.declared.Session.{Session}
use Rattle.unit_session.specs.declared.Bounds.{Bounds}
use Rattle.unit_session.specs.OwnRequest.{last_number, request_ok, awaits}
use Rattle.unit_session.specs.Session.{is_free, has_id, is_on, waits_for, record_ok}
use Rattle.unit_table.specs.declared.Node.{Node}

-- u: the sessions of an access point, live or closing, counted from the records
unfoldable pub live_on : ℕ → List Session → ℕ
live_on a l = count_of (is_on a) l

abbrev pub live : List Session → ℕ → ℕ
live l a = live_on a l

-- what a record is held to of its plan
unfoldable pub bounds_of : Plan → Bounds
bounds_of p = record { parties = parties p; resend = p.resend; sends = p.sends }

-- two sessions with one IMSI and EBI
unfoldable pub same_id : Session → Session → Bool
same_id a b = not (is_free a) && has_id a.imsi a.ebi b

-- two requests that await one number
unfoldable pub same_wait : OwnRequest → OwnRequest → Bool
same_wait r q = not (r.sends == 0) && awaits r.number q

-- the requests that may be under way: the echo, and one for each place
unfoldable pub requests : OwnRequest → List Session → List OwnRequest
requests echo l = echo ∷ map (λ s. s.own) l

unfoldable pub keeps_rules : Node → List Session → Bool
keeps_rules node l =
    accepted node.plan
    && length l == places
    && every (record_ok (bounds_of node.plan)) l
    && pairwise same_id l
    && within_ok node.plan (live l)
    && request_ok node.plan.interval node.plan.resend node.plan.sends node.echo
    && nat_le node.next last_number
    && pairwise same_wait (requests node.echo l)

-- ---- the same by name
pub record Rules (p : Plan) (echo : OwnRequest) (next : ℕ) (l : List Session) : Type 0 where
  pub planned : accepted p ≡ true
  pub size : length l ≡ places
  pub each : every (record_ok (bounds_of p)) l ≡ true
  pub once : (imsi ebi : ℕ) → count_of (has_id imsi ebi) l ≤ 1
  pub within : Within (parties p) (guarantee_at p) (ceiling_at p) (live l)
  pub echoes : request_ok p.interval p.resend p.sends echo ≡ true
  pub counted : next ≤ last_number
  pub waits : (k : ℕ) → bool_byte (awaits k echo) + count_of (waits_for k) l ≤ 1

-- ---- pair by pair, and as counts
same_id_lem : (imsi ebi : ℕ) (x y : Session) → has_id imsi ebi x ≡ true → has_id imsi ebi y ≡ true → same_id x y ≡ true
unfolding same_id has_id
same_id_lem imsi ebi x y e f =
    let i : nat_eq x.imsi imsi ≡ true = search (and_left, and_right) in
    let b : nat_eq x.ebi ebi ≡ true = search (and_left, and_right) in
    let n : not (is_free x) ≡ true = search (and_left, and_right) in
    rw (n, eqb-true x.imsi imsi i, eqb-true x.ebi ebi b) f

id_shared : (x y : Session) → same_id x y ≡ true → (has_id x.imsi x.ebi x ≡ true) × (has_id x.imsi x.ebi y ≡ true)
unfolding same_id has_id
id_shared x y e =
    let n : not (is_free x) ≡ true = and_left (not (is_free x)) (has_id x.imsi x.ebi y) e in
    (rw (n, eq-eqb x.imsi x.imsi refl, eq-eqb x.ebi x.ebi refl), and_right (not (is_free x)) (has_id x.imsi x.ebi y) e)

same_wait_lem : (k : ℕ) (r q : OwnRequest) → awaits k r ≡ true → awaits k q ≡ true → same_wait r q ≡ true
unfolding same_wait awaits
same_wait_lem k r q e f =
    let n : not (r.sends == 0) ≡ true = search (and_left, and_right) in
    let i : nat_eq r.number k ≡ true = search (and_left, and_right) in
    rw (n, eqb-true r.number k i) f

wait_shared : (r q : OwnRequest) → same_wait r q ≡ true → (awaits r.number r ≡ true) × (awaits r.number q ≡ true)
unfolding same_wait awaits
wait_shared r q e =
    let n : not (r.sends == 0) ≡ true = and_left (not (r.sends == 0)) (awaits r.number q) e in
    (rw (n, eq-eqb r.number r.number refl), and_right (not (r.sends == 0)) (awaits r.number q) e)

count_requests : (k : ℕ) (echo : OwnRequest) (l : List Session) → count_of (awaits k) (requests echo l) ≡ bool_byte (awaits k echo) + count_of (waits_for k) l
unfolding requests sum_of waits_for
count_requests k echo l = rw (sum_of_map (λ r. bool_byte (awaits k r)) (λ s. s.own) l)

pub rules_of : (node : Node) (l : List Session) → keeps_rules node l ≡ true → Rules node.plan node.echo node.next l
unfolding keeps_rules
rules_of node l e =
    let a : accepted node.plan ≡ true = search (and_left, and_right) depth 9 in
    let s : nat_eq (length l) places ≡ true = search (and_left, and_right) depth 9 in
    let h : every (record_ok (bounds_of node.plan)) l ≡ true = search (and_left, and_right) depth 9 in
    let i : pairwise same_id l ≡ true = search (and_left, and_right) depth 9 in
    let w : within_ok node.plan (live l) ≡ true = search (and_left, and_right) depth 9 in
    let o : request_ok node.plan.interval node.plan.resend node.plan.sends node.echo ≡ true = search (and_left, and_right) depth 9 in
    let n : leb node.next last_number ≡ true = search (and_left, and_right) depth 9 in
    let q : pairwise same_wait (requests node.echo l) ≡ true = search (and_left, and_right) depth 9 in
    record {
      planned = a;
      size = omega (arith, tests);
      each = h;
      once = λ imsi ebi. pairwise_count same_id (has_id imsi ebi) l (same_id_lem imsi ebi) i;
      within = within_of_lem node.plan (live l) w;
      echoes = o;
      counted = omega (arith, tests);
      waits = λ k. rw (← count_requests k node.echo l) (pairwise_count same_wait (awaits k) (requests node.echo l) (same_wait_lem k) q);
    }

pub rules_to : (node : Node) (l : List Session) → Rules node.plan node.echo node.next l → keeps_rules node l ≡ true
unfolding keeps_rules
rules_to node l r =
    rw (
      r.planned,
      eq-eqb (length l) places r.size,
      r.each,
      count_pairwise same_id (λ k. has_id k.imsi k.ebi) (λ x. x) id_shared l (λ k. r.once k.imsi k.ebi),
      within_to node.plan (live l) r.within,
      r.echoes,
      le-leb node.next last_number r.counted,
    )
    (count_pairwise same_wait awaits (λ x. x.number) wait_shared (requests node.echo l)
    (λ k. rw (count_requests k node.echo l) (r.waits k)))
