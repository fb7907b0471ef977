-- Create keeps the table rules: a table that kept them before keeps them after, whatever came and whatever it was answered.
-- Assumes nothing.
use Rattle.std.specs.Prelude.{ℕ, ◌%◌, ◌≤◌, Bool, true, List, ◌≡◌, length, get_or, ltb, Option, Some, None}
use Rattle.std.proofs.Math.Path.{refl}
use Rattle.std.proofs.Common.{arith, lt-ltb, le-leb, ne_eqb, ltb-false}
use Rattle.base_octets.specs.Choice.{split}
use Rattle.base_octets.specs.Sums.{count_of}
use Rattle.base_octets.specs.Search.{first_of, first_none}
use Rattle.unit_plan.specs.declared.Plan.{Plan}
use Rattle.unit_plan.specs.Limits.{parties}
use Rattle.unit_plan.specs.Plan.{accepted, parties_four}
use Rattle.unit_sharing.specs.Sharing.{admits}
use Rattle.unit_session.specs.declared.Session.{Session}
use Rattle.unit_session.specs.Session.{is_free, has_id, freed, opened, read_ok, imsis, last_created}
use Rattle.unit_session.specs.Keep.{opening_ok}
use Rattle.unit_table.specs.declared.Node.{Node}
use Rattle.unit_table.specs.Rules.{keeps_rules, Rules, rules_of, rules_to, bounds_of, live}
use Rattle.unit_table.specs.Change.{nobody, changed_at, rules-freed}
use Rattle.unit_table.specs.Find.{found_in, found_is}
use Rattle.unit_table.specs.Open.{replaced, replaced_none, rules-opened}
use Rattle.wire_requests.specs.declared.Create as C
use Rattle.wire_requests.specs.Create.{CreateSound}
use Rattle.call_own.specs.Outcome.{no_reply}
use Rattle.call_control.specs.Amends.{cause_taken}
use Rattle.call_control.specs.Echoes.{heard_by, heard_plan, heard-keeps}
use Rattle.call_control.specs.Creates.{opening_of, accepted_taken, opened_at, shared, is_repeat, settled_at, heard_create, create_taken}

-- ---- what is opened is as the record's rule will have it
opening_ok_lem : (p : Plan) (c : C.Create) (seq : ℕ) → accepted p ≡ true → CreateSound (parties p) c → seq ≤ last_created → opening_ok (bounds_of p) (opening_of c seq) ≡ true
unfolding opening_ok opening_of read_ok bounds_of imsis
opening_ok_lem p c seq a s h =
    let f = parties_four p a in
    let q = s.point in
    let m : c.point % 256 ≡ c.point = omega arith in
    let i = s.imsi in
    let x = s.control in
    let y = s.user in
    rw (
      m,
      lt-ltb c.point (parties p) q,
      lt-ltb c.imsi 1000000000000000 i,
      le-leb 5 c.ebi s.low,
      le-leb c.ebi 15 s.high,
      ne_eqb c.control 0 (λ z. omega arith),
      ne_eqb c.user 0 (λ z. omega arith),
      le-leb seq last_created h,
    )

opening_point : (p : Plan) (c : C.Create) (seq : ℕ) → accepted p ≡ true → CreateSound (parties p) c → (opening_of c seq).point ≡ c.point
unfolding opening_of
opening_point p c seq a s = let f = parties_four p a in let q = s.point in omega arith

-- none found: none has it
found_none_count : (p : Session → Bool) (l : List Session) → found_in p l ≡ None → count_of p l ≡ 0
unfolding found_in
found_none_count p l e =
    split (ltb (first_of p l) (length l))
    (λ t. let f : Some (first_of p l) ≡ None = rw t at e in let z : ◌≡◌ {A = ℕ} 0 1 = cc in absurd (omega arith))
    (λ t. first_none p l (ltb-false (first_of p l) (length l) t))

-- ---- the sharing rule and the place, on any table that keeps its rules and has nobody with the IMSI and EBI
module _ (c : C.Create) (seq : ℕ) (small : seq ≤ last_created) (node₀ : Node) (t₀ : List Session) (e₀ : keeps_rules node₀ t₀ ≡ true) (reply : List ℕ) where
  shared_keeps : (node : Node) (t : List Session) → keeps_rules node t ≡ true → CreateSound (parties node.plan) c → count_of (has_id c.imsi c.ebi) t ≡ 0
      → keeps_rules (shared c seq node t node₀ t₀ reply).answer.node (shared c seq node t node₀ t₀ reply).table ≡ true
  unfolding shared opened_at accepted_taken cause_taken no_reply opening_of
  shared_keeps node t e s none =
      split (admits node.plan (live t) c.point) (λ q. rw q (place (found_in is_free t) refl q)) (λ q. rw q e)
    where
      r : Rules node.plan node.echo node.next t
      r = rules_of node t e

      opens : (i : ℕ) → found_in is_free t ≡ Some i → admits node.plan (live t) c.point ≡ true
          → keeps_rules node (changed_at (opened (opening_of c seq)) i t) ≡ true
      opens i f q =
          let g = found_is is_free t i f in
          let w : admits node.plan (live t) (opening_of c seq).point ≡ true = rw (opening_point node.plan c seq r.planned s) q in
          rules_to node (changed_at (opened (opening_of c seq)) i t)
          (rules-opened node.plan node.echo node.next t r (opening_of c seq) i g.0 g.1.1 (opening_ok_lem node.plan c seq r.planned s small) none w)

      place : (f : Option ℕ) → found_in is_free t ≡ f → admits node.plan (live t) c.point ≡ true
          → keeps_rules (opened_at f c seq node t node₀ t₀ reply).answer.node (opened_at f c seq node t node₀ t₀ reply).table ≡ true
      place None f q = e₀
      place (Some i) f q = opens i f q

  settled-keeps : (node : Node) (t : List Session) → keeps_rules node t ≡ true → CreateSound (parties node.plan) c → (f : Option ℕ) → found_in (has_id c.imsi c.ebi) t ≡ f
      → keeps_rules (settled_at f c seq node t node₀ t₀ reply).answer.node (settled_at f c seq node t node₀ t₀ reply).table ≡ true
  unfolding settled_at accepted_taken replaced
  settled-keeps node t e s None q = shared_keeps node t e s (found_none_count (has_id c.imsi c.ebi) t q)
  settled-keeps node t e s (Some i) q =
      split (is_repeat c seq (get_or t i nobody)) (λ x. rw x e) (λ x. rw x (shared_keeps node (changed_at freed i t) kept s gone))
    where
      r : Rules node.plan node.echo node.next t
      r = rules_of node t e

      kept : keeps_rules node (changed_at freed i t) ≡ true
      kept = rules_to node (changed_at freed i t) (rules-freed node.plan node.echo node.next t r i)

      gone : count_of (has_id c.imsi c.ebi) (changed_at freed i t) ≡ 0
      gone =
          let k = (found_is (has_id c.imsi c.ebi) t i q).1.0 in
          rw k (replaced_none node.plan node.echo node.next t r c.imsi c.ebi)

pub create-keeps : (node : Node) (t : List Session) (c : C.Create) (seq : ℕ) (reply : List ℕ) → keeps_rules node t ≡ true → CreateSound (parties node.plan) c → seq ≤ last_created
    → keeps_rules (create_taken c seq node t reply).answer.node (create_taken c seq node t reply).table ≡ true
unfolding create_taken heard_create
create-keeps node t c seq reply e sound small =
    settled-keeps c seq small node t e reply (heard_by c.recovery node t).node (heard_by c.recovery node t).table (heard-keeps node t e c.recovery)
    (rw (heard_plan c.recovery node t) sound)
    (found_in (has_id c.imsi c.ebi) (heard_by c.recovery node t).table) refl
