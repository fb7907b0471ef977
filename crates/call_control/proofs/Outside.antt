-- Take control datagram changes no record outside the places that it answers, whatever came and whatever table was lent.
-- Assumes nothing.
use Rattle.std.specs.Prelude.{ℕ, ◌<◌, true, List, map, ◌≡◌, get_or, ltb, Option, Some, None}
use Rattle.std.proofs.Math.Bool.{false}
use Rattle.std.proofs.Math.Path.{refl}
use Rattle.std.proofs.Common.{◌∙◌, arith, ltb-true, ltb-false}
use Rattle.std.proofs.Math.ListN.{length, length-map}
use Rattle.base_octets.specs.Choice.{split}
use Rattle.base_octets.specs.Search.{first_of}
use Rattle.unit_tunnel.specs.Numbering.{places, control_offset}
use Rattle.unit_sharing.specs.Sharing.{admits}
use Rattle.unit_session.specs.declared.Session.{Session}
use Rattle.unit_session.specs.Session.{is_free, has_id, freed, opened}
use Rattle.unit_table.specs.declared.Node.{Node}
use Rattle.unit_table.specs.Rules.{keeps_rules, rules_of, live}
use Rattle.unit_table.specs.Change.{nobody, changed_at, length_changed, changed_out, changed_other}
use Rattle.unit_table.specs.Find.{place_found, found_in, found_is, owner_of}
use Rattle.wire_requests.specs.declared.Create as C
use Rattle.call_asked.specs.declared.Concern.{Concern}
use Rattle.call_asked.specs.declared.Concern.TheVariants as S
use Rattle.call_asked.specs.declared.Asked.{Asked}
use Rattle.call_asked.specs.declared.Asked.TheVariants as A
use Rattle.call_asked.specs.Asked.{asked_of}
use Rattle.call_own.specs.Outcome.{bare_on, on_owner, least_reply, no_reply, all_places, one_place, two_places}
use Rattle.call_own.specs.Outside.{is_within, OthersStay, out_all, out_one, out_first, out_second, past_both, on_others}
use Rattle.call_control.specs.Echoes.{restarts_by, heard_node, heard_by, heard_places, heard-freed, heard_same, stored_plan, echo_taken, echo_ended, echo_reply_taken}
use Rattle.call_control.specs.Amends.{cause_taken, cause_on, none_on, session_on}
use Rattle.call_control.specs.Creates.{opening_of, accepted_taken, opened_at, shared, is_repeat, settled_at, heard_create, opened_places, create_places, create_taken}
use Rattle.call_control.specs.Control.{asked_taken, control_taken}

-- ---- what concerns a session that there is not changes nothing
none_same : (x : Concern) (seq : ℕ) (s : Session) → (none_on x seq s).session ≡ s
unfolding none_on cause_on bare_on
none_same (S.Modify m) seq s = refl
none_same (S.Delete d) seq s = refl
none_same (S.Refused type w) seq s = refl
none_same (S.Bearer b) seq s = refl

session_same : (x : Concern) (seq : ℕ) (s : Session) → is_free s ≡ true → (session_on x seq s).session ≡ s
unfolding session_on
session_same x seq s e = rw e (none_same x seq s)

-- the rule goes by the plan, which no Recovery changes
pub places-heard : (r : Option ℕ) (c : C.Create) (seq : ℕ) (node : Node) (t : List Session) (i : ℕ)
    → opened_places c seq (heard_node r node) t i ≡ opened_places c seq node t i
unfolding opened_places
places-heard r c seq node t i = rw (stored_plan r node)

-- ---- a table that keeps its rules has as many records as there are places
module _ (node : Node) (t : List Session) (size : length t ≡ places) (k : ℕ) where
  heard_others : (r : Option ℕ) → is_within k (heard_places r node) ≡ false → get_or (heard_by r node t).table k nobody ≡ get_or t k nobody
  unfolding heard_places
  heard_others r n = split (restarts_by r node)
      (λ e. let h = out_all k (rw e at n) in
      let m = length-map t freed in
      rw (heard-freed r node t e) (past_both (map freed t) t k (omega arith) (omega arith)))
      (λ e. rw (heard_same r node t e))

  module _ (c : C.Create) (seq : ℕ) (reply : List ℕ) where
    -- how long the table is that a Create leaves
    shared_long : (n : Node) (m : List Session) → length m ≡ places → length (shared c seq n m node t reply).table ≡ places
    unfolding shared opened_at accepted_taken cause_taken no_reply
    shared_long n m z = split (admits n.plan (live m) c.point) (λ a. rw a (place (found_in is_free m))) (λ a. rw a z)
      where
        place : (f : Option ℕ) → length (opened_at f c seq n m node t reply).table ≡ places
        place None = size
        place (Some j) = length_changed (opened (opening_of c seq)) j m ∙ z

    settled_long : (n : Node) (m : List Session) → length m ≡ places → (f : Option ℕ) → length (settled_at f c seq n m node t reply).table ≡ places
    unfolding settled_at accepted_taken
    settled_long n m z None = shared_long n m z
    settled_long n m z (Some i) =
        split (is_repeat c seq (get_or m i nobody)) (λ x. rw x z) (λ x. rw x (shared_long n (changed_at freed i m) (length_changed freed i m ∙ z)))

    -- a restart changes all, and nothing past the last place
    again_others : restarts_by c.recovery node ≡ true → is_within k all_places ≡ false
        → get_or (heard_create c seq (heard_by c.recovery node t) node t reply).table k nobody ≡ get_or t k nobody
    unfolding heard_create
    again_others e n =
        let h = out_all k n in
        let m = length-map t freed in
        let z = settled_long (heard_node c.recovery node) (map freed t) (m ∙ size) (found_in (has_id c.imsi c.ebi) (map freed t)) in
        rw (heard-freed c.recovery node t e)
        (past_both (settled_at (found_in (has_id c.imsi c.ebi) (map freed t)) c seq (heard_node c.recovery node) (map freed t) node t reply).table t k (omega arith) (omega arith))

    -- the table without the replaced session, and the place that is opened there
    module _ (n : Node) (i : ℕ) (p : i < places → k ≡ i → ⊥) where
      abbrev then' : List Session
      then' = changed_at freed i t

      then_others : get_or then' k nobody ≡ get_or t k nobody
      then_others = split (ltb i places)
          (λ a. changed_other freed i t k nobody (p (ltb-true i places a)))
          (λ a. let h = ltb-false i places a in rw (changed_out freed i t (omega arith)))

      opened_others : (f : Option ℕ) → found_in is_free then' ≡ f → (first_of is_free then' < places → k ≡ first_of is_free then' → ⊥)
          → get_or (opened_at f c seq n then' node t reply).table k nobody ≡ get_or t k nobody
      unfolding opened_at accepted_taken no_reply
      opened_others None e q = refl
      opened_others (Some j) e q =
          let w = found_is is_free then' j e in
          let m = length_changed freed i t in
          let h = w.0 in
          let same = w.1.0 in
          changed_other (opened (opening_of c seq)) j then' k nobody (λ z. q (omega arith) (omega arith)) ∙ then_others

    shared_others : (n : Node) (i : ℕ)
        → (admits n.plan (live (changed_at freed i t)) c.point ≡ true → is_within k (two_places i (first_of is_free (changed_at freed i t))) ≡ false)
        → (admits n.plan (live (changed_at freed i t)) c.point ≡ false → is_within k (one_place i) ≡ false)
        → get_or (shared c seq n (changed_at freed i t) node t reply).table k nobody ≡ get_or t k nobody
    unfolding shared cause_taken
    shared_others n i two one = split (admits n.plan (live (changed_at freed i t)) c.point)
        (λ a. let j = first_of is_free (changed_at freed i t) in
        rw a (opened_others n i (out_first k i j (two a)) (found_in is_free (changed_at freed i t)) refl (out_second k i j (two a))))
        (λ a. rw a (then_others n i (out_one k i (one a))))

    settled_others : (n : Node) (i : ℕ) → i ≡ first_of (has_id c.imsi c.ebi) t → is_within k (opened_places c seq n t i) ≡ false
        → get_or (settled_at (found_in (has_id c.imsi c.ebi) t) c seq n t node t reply).table k nobody ≡ get_or t k nobody
    unfolding settled_at found_in opened_places accepted_taken
    settled_others n i e out = split (ltb i (length t))
        (λ h. rw (← e, h) (split (is_repeat c seq (get_or t i nobody))
        (λ r. rw r)
        (λ r. rw r (shared_others n i (λ a. rw (h, r, a) at out) (λ a. rw (h, r, a) at out)))))
        (λ h. let same = changed_out freed i t (ltb-false i (length t) h) in
        let s = shared_others n i (λ a. rw (h, a) at out) (λ a. rw (h, a) at out) in
        rw (← e, h) (rw same at s))

    create_others : is_within k (create_places c seq node t) ≡ false → get_or (create_taken c seq node t reply).table k nobody ≡ get_or t k nobody
    unfolding create_taken create_places heard_create
    create_others n = split (restarts_by c.recovery node)
        (λ e. again_others e (rw e at n))
        (λ e. let i = first_of (has_id c.imsi c.ebi) t in
        let out : is_within k (opened_places c seq (heard_node c.recovery node) t i) ≡ false = rw (places-heard c.recovery c seq node t i) (rw e at n) in
        rw (heard_same c.recovery node t e) (settled_others (heard_node c.recovery node) i refl out))

-- ---- the call
module _ (node : Node) (t : List Session) where
  asked_others : keeps_rules node t ≡ true → (a : Asked) (reply : List ℕ) → OthersStay (asked_taken node t a reply) t
  unfolding OthersStay asked_taken echo_taken echo_reply_taken echo_ended cause_taken on_owner no_reply create_taken
  asked_others e (A.Silent number) reply k n = refl
  asked_others e A.Version reply k n = refl
  asked_others e (A.Echo r seq) reply k n = heard_others node t (rules_of node t e).size k r n
  asked_others e (A.EchoReply r) reply k n = heard_others node t (rules_of node t e).size k r n
  asked_others e (A.Create c seq) reply k n = create_others node t (rules_of node t e).size k c seq reply n
  asked_others e (A.Refused w to seq) reply k n = refl
  asked_others e (A.Session teid seq x) reply k n =
      on_others node t (rules_of node t e).size (place_found (owner_of control_offset teid.0 t) t) (session_on x seq) reply (session_same x seq) k n

  pub control_others : (d reply : List ℕ) → OthersStay (control_taken node t d reply) t
  unfolding OthersStay control_taken no_reply
  control_others d reply k =
      split (ltb (length reply) least_reply) (λ a. rw a (λ n. refl))
      (λ a. split (keeps_rules node t) (λ e. rw (a, e) (asked_others e (asked_of node d) reply k)) (λ e. rw (a, e) (λ n. refl)))
