-- What the digests of a table that keeps its rules say of its records: the place of the session with an IMSI and EBI, the first free
-- place once one place is freed, and the sharing rule then.
-- Assumes nothing.
use Rattle.std.specs.Prelude.{◌≡◌, ℕ, zero, suc, ◌+◌, ◌*◌, ◌%◌, ◌<◌, ◌≤◌, max, Bool, true, List, [], ◌∷◌, map, length, get_or, ◌==◌, nat_eq, nat_lt, slice_index, slice_index_or, slice_set, refl}
use Rattle.std.proofs.Common.{sym, ◌∙◌, length-set}
use native.Mathlib.Omega.{arith}
use Rattle.std.proofs.Math.ListN.{get_or-eq_default}
use Rattle.std.proofs.Math.Seq.{set_out}
use borrow.Author.Tests.{eqb-true, eqb-false, eq-eqb, ne_eqb, lt-ltb, le-ltb, ltb-true, ltb-false}
use Rattle.base_octets.specs.Choice.{split, and_left, and_right}
use Rattle.base_octets.specs.Every.{every}
use Rattle.base_octets.specs.Sums.{sum_of, sum_set, count_most}
use Rattle.base_octets.specs.Below.{to_equal}
use Rattle.base_octets.specs.Search.{first_of, first_most}
use Rattle.unit_plan.specs.declared.Plan.{Plan}
use Rattle.unit_plan.specs.Limits.{parties}
use Rattle.unit_sharing.specs.Sharing.{admits, admitted, sharable, share, guarantee_at, admits_out}
use Rattle.unit_session.specs.declared.Session.{Session}
use Rattle.unit_session.specs.declared.Bounds.{Bounds}
use Rattle.unit_session.specs.Session.{is_free, is_on, has_id, record_ok, freed, blank_at}
use Rattle.unit_table.specs.Rules.{live_on, live}
use Rattle.unit_table.specs.Change.{nobody, changed_at}
use Rattle.step_keys.specs.Survey.{id_key, key_of, weight_of, imsi_part}
use Rattle.step_keys.specs.Check.{unpacked_of, known_id, unpacked_at, packed}
use Rattle.step_check.specs.Digest.{digest_of, key_in, key_in_lem, free_in_lem}
use Rattle.step_check.specs.Findings.{key_place, free_in}
use Rattle.step_control.specs.Step.{counts_less, room_for, lower}
use Rattle.unit_session.specs.Wide.{long_words}
use Rattle.unit_tunnel.specs.Numbering.{places}

-- ---- a search among what is read of the elements, and one by a test that agrees
first-map : {A B : Type 0} (p : B → Bool) (f : A → B) (l : List A) → first_of p (map f l) ≡ first_of (λ x. p (f x)) l
unfolding first_of
first-map p f [] = refl
first-map p f (x ∷ l) = rw (first-map p f l)

first_agree : {A : Type 0} (ok p q : A → Bool) (l : List A) → every ok l ≡ true → ((x : A) → ok x ≡ true → p x ≡ q x) → first_of p l ≡ first_of q l
unfolding first_of every
first_agree ok p q [] e h = refl
first_agree ok p q (x ∷ l) e h =
    rw (h x (and_left (ok x) (every ok l) e), first_agree ok p q l (and_right (ok x) (every ok l) e) h)

-- one more passes: the lower of the two
first-set : {A : Type 0} (p : A → Bool) (l : List A) (i : ℕ) (x : A) → p x ≡ true → i < length l → first_of p (slice_set l i x) ≡ lower i (first_of p l)
unfolding first_of lower
first-set p [] i x e h = absurd (omega arith)
first-set p (y ∷ l) zero x e h = rw e (split (p y) (λ f. rw f) (λ f. rw (f, lt-ltb 0 (suc (first_of p l)) (omega arith))))
first-set p (y ∷ l) (suc i) x e h =
    split (p y) (λ f. rw (f, le-ltb (suc i) 0 (omega arith)))
    (λ f. rw (f, first-set p l i x e (omega arith))
    (split (nat_lt i (first_of p l))
    (λ g. let k = ltb-true i (first_of p l) g in rw (g, lt-ltb (suc i) (suc (first_of p l)) (omega arith)))
    (λ g. let k = ltb-false i (first_of p l) g in rw (g, le-ltb (suc i) (suc (first_of p l)) (omega arith)))))

-- ---- the rule goes by the counts of the plan's access points alone
admits_agree : (p : Plan) (u v : ℕ → ℕ) (x : ℕ) → ((a : ℕ) → a < parties p → u a ≡ v a) → admits p u x ≡ admits p v x
unfolding admitted sharable share
admits_agree p u v x h =
    split (nat_lt x (parties p))
    (λ t. rw (h x (ltb-true x (parties p) t), to_equal (λ a. max (u a) (guarantee_at p a)) (λ a. max (v a) (guarantee_at p a)) (parties p) (λ a q. rw (h a q))))
    (λ t. admits_out p u x (ltb-false x (parties p) t) ∙ sym (admits_out p v x (ltb-false x (parties p) t)))

-- ---- one record and its digest
module _ (b : Bounds) (s : Session) (ok : record_ok b s ≡ true) where
  id_in : (imsi ebi : ℕ) → imsi < 1000000000000000 → 5 ≤ ebi → ebi ≤ 15 → (key_in (digest_of b s) == id_key imsi ebi) ≡ has_id imsi ebi s
  unfolding key_of has_id
  id_in imsi ebi h low high = rw (key_in_lem b s ok) (split (is_free s)
      (λ n. rw n (ne_eqb 0 (imsi % imsi_part * 256 + ebi) (λ q. omega arith)))
      (λ n. let k = known_id b s ok n in
      let mine = s.imsi % imsi_part * 256 + s.ebi in
      let theirs = imsi % imsi_part * 256 + ebi in
      rw n (split (s.imsi == imsi)
      (λ t. let x = eqb-true s.imsi imsi t in
      split (s.ebi == ebi)
      (λ u. let y = eqb-true s.ebi ebi u in rw (t, u, eq-eqb mine theirs (omega arith)))
      (λ u. let y = eqb-false s.ebi ebi u in rw (t, u, ne_eqb mine theirs (λ q. omega arith))))
      (λ t. let x = eqb-false s.imsi imsi t in rw (t, ne_eqb mine theirs (λ q. omega arith))))))

-- ---- the places that the digests say
module _ (b : Bounds) (l : List Session) (each : every (record_ok b) l ≡ true) where
  pub key_place_lem : (imsi ebi : ℕ) → imsi < 1000000000000000 → 5 ≤ ebi → ebi ≤ 15
      → key_place (map (digest_of b) l) (id_key imsi ebi) ≡ first_of (has_id imsi ebi) l
  unfolding key_place
  key_place_lem imsi ebi h low high =
      first-map (λ d. nat_eq (key_in d) (id_key imsi ebi)) (digest_of b) l
      ∙ first_agree (record_ok b) (λ s. nat_eq (key_in (digest_of b s)) (id_key imsi ebi)) (has_id imsi ebi) l each (λ s ok. id_in b s ok imsi ebi h low high)

  pub free_place_lem : free_in (map (digest_of b) l) ≡ first_of is_free l
  unfolding free_in
  free_place_lem =
      first-map (λ d. nat_eq d 0) (digest_of b) l
      ∙ first_agree (record_ok b) (λ s. nat_eq (digest_of b s) 0) is_free l each (λ s ok. free_in_lem b s ok)

-- ---- once a place is freed; a place that there is not changes nothing
pub freed_free : (s : Session) → is_free (freed s) ≡ true
unfolding freed blank_at is_free
freed_free s = refl

pub freed_weight : (s : Session) → weight_of (freed s) ≡ 0
unfolding weight_of freed blank_at is_free
freed_weight s = refl

nobody_weight : weight_of nobody ≡ 0
unfolding weight_of blank_at is_free
nobody_weight = refl

module _ (l : List Session) (i : ℕ) (inside : i ≤ length l) where
  pub free_then : first_of is_free (changed_at freed i l) ≡ lower i (first_of is_free l)
  unfolding changed_at lower
  free_then = split (nat_lt i (length l))
      (λ e. first-set is_free l i (freed (slice_index_or l i nobody)) (freed_free (slice_index_or l i nobody)) (ltb-true i (length l) e))
      (λ e. let h = ltb-false i (length l) e in
      let m = first_most is_free l in
      rw (set_out l i (freed (slice_index_or l i nobody)) h, le-ltb i (first_of is_free l) (omega arith)))

  weight_then : sum_of weight_of (changed_at freed i l) + weight_of (slice_index_or l i nobody) ≡ sum_of weight_of l
  unfolding changed_at
  weight_then = split (nat_lt i (length l))
      (λ e. let h = ltb-true i (length l) e in
      let s = rw (freed_weight (slice_index_or l i nobody)) at (sum_set weight_of l i (freed (slice_index_or l i nobody)) nobody h) in
      omega arith)
      (λ e. let h = ltb-false i (length l) e in
      let d : get_or l i nobody ≡ nobody = get_or-eq_default l nobody h in
      let w = nobody_weight in
      rw (set_out l i (freed (slice_index_or l i nobody)) h, d, w) (omega arith))

length_then : (i : ℕ) (l : List Session) → length (changed_at freed i l) ≡ length l
unfolding changed_at
length_then i l = length-set l i (freed (slice_index_or l i nobody))

few : (l : List Session) → length l ≤ places → sum_of weight_of l < long_words
unfolding live_on places
few l n =
    let p = packed l in
    let x = count_most (is_on 0) l in
    let y = count_most (is_on 1) l in
    let z = count_most (is_on 2) l in
    let w = count_most (is_on 3) l in
    omega arith

module _ (l : List Session) (i : ℕ) (inside : i ≤ length l) (size : length l ≤ places) where
  counts_then : counts_less (sum_of weight_of l) (slice_index_or l i nobody) ≡ sum_of weight_of (changed_at freed i l)
  unfolding counts_less
  counts_then =
      let w = weight_then l i inside in
      let n = length_then i l in
      let f = few (changed_at freed i l) (omega arith) in
      omega arith

  pub room_then : (p : Plan) (point : ℕ) → parties p ≤ 4
      → room_for p (sum_of weight_of l) (slice_index_or l i nobody) point ≡ admits p (live (changed_at freed i l)) point
  unfolding room_for places
  room_then p point four =
      let n = length_then i l in
      rw counts_then (admits_agree p (λ a. slice_index (unpacked_of (sum_of weight_of (changed_at freed i l))) a) (live (changed_at freed i l)) point
      (λ a h. unpacked_at (changed_at freed i l) (omega arith) a (omega arith)))
