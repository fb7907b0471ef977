-- What the pass over the digests has found when it has come to a place: of the digests from there on, es. Marks need only be complete
-- for keys: a key without its mark is none of theirs.
-- Assumes nothing.
use Rattle.std.specs.Prelude.{◌≡◌, ℕ, zero, suc, ◌+◌, ◌-◌, ◌*◌, ◌/◌, ◌%◌, ◌<◌, ◌≤◌, Bool, true, false, not, ◌&&◌, List, [], ◌∷◌, map, length, drop, ◌==◌, ◌≢◌, bit_or, nat_eq, nat_le, slice_index, slice_index_or, slice_set, refl}
use Rattle.std.proofs.Math.Path.{sym}
use Rattle.std.proofs.Common.{◌∙◌, ap, arith, length-set, get_or-set_same, get_or-set_other}
use Rattle.std.proofs.lemmas.List.{length-map}
use Rattle.std.proofs.lemmas.Nat.{or_mod, or_shr}
use mir.Val.{bool_byte}
use borrow.Author.Tests.{eqb-true, eqb-false, ne_eqb, leb-true, leb-false, le-leb}
use Rattle.base_octets.specs.Choice.{pick, split, impossible, and_left, and_right}
use Rattle.base_octets.specs.Every.{every, every_rest, rest_fails}
use Rattle.base_octets.specs.Places.{next_of, map_at}
use Rattle.base_octets.specs.Sums.{sum_of, count_of, count_most}
use Rattle.base_distinct.specs.Apart.{none_clash, pairwise, same_key}
use Rattle.base_distinct.specs.Lacks.{lacks, lacks_hit, lacks_on, lacks_end, none_same, none_zero}
use Rattle.unit_session.specs.Wide.{or_none, long_words}
use Rattle.step_keys.specs.Survey.{point_unit, second_unit, third_unit, fourth_unit}
use Rattle.step_check.specs.Digest.{key_in, point_in, weight_in, clear, unset, quiet_in, idle_in, good_in, mark_of, mark_small, key_bit, due_bit, await_bit}
use Rattle.step_check.specs.Summary.{no_summary, summary_of}
use Rattle.unit_tunnel.specs.Numbering.{places}

pub record Marked (marks l : List ℕ) : Type 0 where
  pub new : (x : ℕ) → (x ≢ 0) → slice_index marks (mark_of x) ≡ 0 → lacks x l ≡ true

marked_zero : (marks l : List ℕ) → Marked marks l → Marked marks (0 ∷ l)
unfolding lacks every
marked_zero marks l m = record { new = λ x h e. rw (ne_eqb x 0 h) (m.new x h e) }

marked_key : (marks l : List ℕ) (k : ℕ) → mark_of k < length marks → Marked marks l → Marked (slice_set marks (mark_of k) 1) (k ∷ l)
unfolding lacks every
marked_key marks l k b m = record { new = one }
  where
    unmarked : (x : ℕ) → slice_index (slice_set marks (mark_of k) 1) (mark_of x) ≡ 0 → mark_of x ≢ mark_of k
    unmarked x e q = let z : ◌≡◌ {A = ℕ} 1 0 = sym (get_or-set_same marks (mark_of k) 1 0 b) ∙ (rw q at e) in omega arith

    one : (x : ℕ) → (x ≢ 0) → slice_index (slice_set marks (mark_of k) 1) (mark_of x) ≡ 0 → every (λ y. not (x == y)) (k ∷ l) ≡ true
    one x h e =
        let apart : nat_eq x k ≡ false = ne_eqb x k (λ q. unmarked x e (ap mark_of q)) in
        let still : slice_index_or marks (mark_of x) 0 ≡ 0 = sym (get_or-set_other marks (mark_of k) (mark_of x) 1 0 (unmarked x e)) ∙ e in
        rw apart (m.new x h still)

-- a key whose mark is set already
marked_again : (marks l : List ℕ) (k : ℕ) → (slice_index marks (mark_of k) ≢ 0) → Marked marks l → Marked marks (k ∷ l)
unfolding lacks every
marked_again marks l k b m = record { new = λ x h e. rw (ne_eqb x k (λ q. b (rw (ap mark_of q) at e))) (m.new x h e) }

-- whether x is taken for none of the keys l, and the marks with it
unfoldable pub enters_of : ℕ → List ℕ → List ℕ → Bool
enters_of x l marks = pick (x == 0) true (pick (slice_index marks (mark_of x) == 0) true (lacks x l))

unfoldable pub marks_of : ℕ → List ℕ → List ℕ
marks_of x marks = pick (x == 0) marks (pick (slice_index marks (mark_of x) == 0) (slice_set marks (mark_of x) 1) marks)

pub length_marks : (x : ℕ) (marks : List ℕ) → length (marks_of x marks) ≡ length marks
unfolding marks_of
length_marks x marks = split (x == 0) (λ e. rw e) (λ e. split (slice_index marks (mark_of x) == 0) (λ f. rw (e, f) (length-set marks (mark_of x) 1)) (λ f. rw (e, f)))

-- ---- flags and counts of the digests that have a key
unfoldable pub flags_in : ℕ → ℕ → ℕ
flags_in d flags = pick {A = ℕ} (key_in d == 0) flags (bit_or d flags)

clear_both : (d f : ℕ) → (clear await_bit (bit_or d f) ≡ (clear await_bit d && clear await_bit f))
    × ((clear due_bit (bit_or d f) ≡ (clear due_bit d && clear due_bit f))
    × (clear key_bit (bit_or d f) ≡ (clear key_bit d && clear key_bit f)))
clear_both d f = (
  rw (or_shr d f 60, or_mod (d / await_bit) (f / await_bit) 1) (or_none (d / await_bit % 2) (f / await_bit % 2)),
  (
    rw (or_shr d f 59, or_mod (d / due_bit) (f / due_bit) 1) (or_none (d / due_bit % 2) (f / due_bit % 2)),
    rw (or_shr d f 58, or_mod (d / key_bit) (f / key_bit) 1) (or_none (d / key_bit % 2) (f / key_bit % 2)),
  ),
)

-- a bit that is gathered so
gathered : (bit : ℕ) → ((d f : ℕ) → clear bit (bit_or d f) ≡ (clear bit d && clear bit f)) → (d flags : ℕ) (rest : Bool)
    → clear bit flags ≡ rest → clear bit (flags_in d flags) ≡ (unset bit d && rest)
unfolding flags_in unset
gathered bit both d flags rest e = split (key_in d == 0) (λ k. rw (k, e)) (λ k. rw (k, both d flags, e))

-- a digest with a key is one for its access point
unfoldable pub on_in : ℕ → ℕ → Bool
on_in a d = not (key_in d == 0) && point_in d == a

unfoldable pub tallies_of : List ℕ → List ℕ
tallies_of es = count_of (on_in 0) es ∷ count_of (on_in 1) es ∷ count_of (on_in 2) es ∷ count_of (on_in 3) es ∷ []

unfoldable pub tallied_in : ℕ → List ℕ → List ℕ
tallied_in d us = pick (key_in d == 0) us (slice_set us (point_in d) ((slice_index us (point_in d) + 1) % long_words))

unfoldable pub packed_in : List ℕ → ℕ
packed_in us = slice_index us 0 % 65536 + slice_index us 1 % 65536 * second_unit + slice_index us 2 % 65536 * third_unit + slice_index us 3 % 65536 * fourth_unit

pub length_tallied : (d : ℕ) (us : List ℕ) → length (tallied_in d us) ≡ length us
unfolding tallied_in
length_tallied d us = split (key_in d == 0) (λ e. rw e) (λ e. rw e (length-set us (point_in d) ((slice_index us (point_in d) + 1) % long_words)))

more_none : (n : ℕ) → 0 + n ≡ n
more_none n = omega arith

more_one : (n : ℕ) → n ≤ places → (n + 1) % long_words ≡ 1 + n
unfolding places
more_one n h = omega arith

tallied_more : (d : ℕ) (es : List ℕ) → length es ≤ places → tallied_in d (tallies_of es) ≡ tallies_of (d ∷ es)
unfolding tallied_in tallies_of on_in sum_of
tallied_more d es n = split (key_in d == 0)
    (λ k. rw (k, more_none (count_of (on_in 0) es), more_none (count_of (on_in 1) es), more_none (count_of (on_in 2) es), more_none (count_of (on_in 3) es)))
    (λ k. first k ∙ one k (point_in d) refl)
  where
    first : nat_eq (key_in d) 0 ≡ false → tallied_in d (tallies_of es) ≡ slice_set (tallies_of es) (point_in d) ((slice_index (tallies_of es) (point_in d) + 1) % long_words)
    first k = rw k

    most : (a : ℕ) → count_of (on_in a) es ≤ places
    most a = let m = count_most (on_in a) es in omega arith

    one : nat_eq (key_in d) 0 ≡ false → (p : ℕ) → point_in d ≡ p → slice_set (tallies_of es) p ((slice_index (tallies_of es) p + 1) % long_words) ≡ tallies_of (d ∷ es)
    one k zero e =
        rw (k, e, more_one (count_of (on_in 0) es) (most 0), more_none (count_of (on_in 1) es), more_none (count_of (on_in 2) es), more_none (count_of (on_in 3) es))
    one k (suc zero) e =
        rw (k, e, more_one (count_of (on_in 1) es) (most 1), more_none (count_of (on_in 0) es), more_none (count_of (on_in 2) es), more_none (count_of (on_in 3) es))
    one k (suc (suc zero)) e =
        rw (k, e, more_one (count_of (on_in 2) es) (most 2), more_none (count_of (on_in 0) es), more_none (count_of (on_in 1) es), more_none (count_of (on_in 3) es))
    one k (suc (suc (suc zero))) e =
        rw (k, e, more_one (count_of (on_in 3) es) (most 3), more_none (count_of (on_in 0) es), more_none (count_of (on_in 1) es), more_none (count_of (on_in 2) es))
    one k (suc (suc (suc (suc p)))) e =
        rw (
          k,
          ne_eqb (point_in d) 0 (λ z. omega arith),
          ne_eqb (point_in d) 1 (λ z. omega arith),
          ne_eqb (point_in d) 2 (λ z. omega arith),
          ne_eqb (point_in d) 3 (λ z. omega arith),
          more_none (count_of (on_in 0) es),
          more_none (count_of (on_in 1) es),
          more_none (count_of (on_in 2) es),
          more_none (count_of (on_in 3) es),
        )

weight_tally : (d : ℕ) → weight_in d ≡ bool_byte (on_in 0 d) + second_unit * bool_byte (on_in 1 d) + third_unit * bool_byte (on_in 2 d) + fourth_unit * bool_byte (on_in 3 d)
unfolding weight_in point_unit on_in
weight_tally d =
    split (key_in d == 0) (λ n. rw n (omega arith))
    (λ n. split (point_in d == 0) (λ e. rw (n, eqb-true (point_in d) 0 e) (omega arith))
    (λ e. split (point_in d == 1) (λ f. rw (n, eqb-true (point_in d) 1 f) (omega arith))
    (λ f. split (point_in d == 2) (λ g. rw (n, eqb-true (point_in d) 2 g) (omega arith))
    (λ g. split (point_in d == 3) (λ h. rw (n, eqb-true (point_in d) 3 h) (omega arith)) (λ h. rw (n, e, f, g, h) (omega arith))))))

weights_tally : (es : List ℕ) → sum_of weight_in es ≡ count_of (on_in 0) es + second_unit * count_of (on_in 1) es + third_unit * count_of (on_in 2) es + fourth_unit * count_of (on_in 3) es
unfolding sum_of
weights_tally [] = omega arith
weights_tally (d ∷ es) = let w = weight_tally d in let r = weights_tally es in omega arith

packed_tallies : (es : List ℕ) → length es ≤ places → packed_in (tallies_of es) ≡ sum_of weight_in es
unfolding packed_in tallies_of places
packed_tallies es n =
    let w = weights_tally es in
    let a = count_most (on_in 0) es in
    let b = count_most (on_in 1) es in
    let c = count_most (on_in 2) es in
    let d = count_most (on_in 3) es in
    omega arith

pub record Over (es marks : List ℕ) (flags : ℕ) (tallies : List ℕ) : Type 0 where
  pub apart : pairwise same_key (map key_in es) ≡ true
  pub marked : Marked marks (map key_in es)
  pub quiet : clear await_bit flags ≡ every quiet_in es
  pub idle : clear due_bit flags ≡ every idle_in es
  pub good : clear key_bit flags ≡ every good_in es
  pub tallied : tallies ≡ tallies_of es

pub over_none : (marks : List ℕ) → Over [] marks 0 (0 ∷ 0 ∷ 0 ∷ 0 ∷ [])
unfolding pairwise every_rest lacks every sum_of tallies_of
over_none marks = record { apart = refl; marked = record { new = λ x h e. refl }; quiet = refl; idle = refl; good = refl; tallied = refl }

module _ (d : ℕ) (es marks : List ℕ) (flags : ℕ) (tallies : List ℕ) (v : Over es marks flags tallies) (few : length es ≤ places) where
  more : (marks' : List ℕ) → none_clash same_key (key_in d) (map key_in es) ≡ true → Marked marks' (map key_in (d ∷ es)) → Over (d ∷ es) marks' (flags_in d flags) (tallied_in d tallies)
  unfolding pairwise every_rest every
  more marks' n m = record {
    apart = rw n v.apart;
    marked = m;
    quiet = gathered await_bit (λ x y. (clear_both x y).0) d flags (every quiet_in es) v.quiet;
    idle = gathered due_bit (λ x y. (clear_both x y).1.0) d flags (every idle_in es) v.idle;
    good = gathered key_bit (λ x y. (clear_both x y).1.1) d flags (every good_in es) v.good;
    tallied = rw v.tallied (tallied_more d es few);
  }

  -- on to the digest before
  pub over_more : length marks ≡ 1024 → enters_of (key_in d) (map key_in es) marks ≡ true → Over (d ∷ es) (marks_of (key_in d) marks) (flags_in d flags) (tallied_in d tallies)
  unfolding enters_of marks_of
  over_more n e = split (key_in d == 0) zero'
      (λ h. split (slice_index marks (mark_of (key_in d)) == 0)
      (λ m. let b = mark_small (key_in d) in rw (h, m) (more (slice_set marks (mark_of (key_in d)) 1) (fresh h (v.marked.new (key_in d) (eqb-false (key_in d) 0 h) (eqb-true (slice_index marks (mark_of (key_in d))) 0 m))) (marked_key marks (map key_in es) (key_in d) (omega arith) v.marked)))
      (λ m. rw (h, m) (more marks (fresh h (rw (h, m) at e)) (marked_again marks (map key_in es) (key_in d) (eqb-false (slice_index marks (mark_of (key_in d))) 0 m) v.marked))))
    where
      zero' : nat_eq (key_in d) 0 ≡ true → Over (d ∷ es) (pick (key_in d == 0) marks (pick (slice_index marks (mark_of (key_in d)) == 0) (slice_set marks (mark_of (key_in d)) 1) marks)) (flags_in d flags) (tallied_in d tallies)
      zero' h = let z = eqb-true (key_in d) 0 h in rw h (more marks (rw z (none_zero (map key_in es))) (rw z (marked_zero marks (map key_in es) v.marked)))

      fresh : nat_eq (key_in d) 0 ≡ false → lacks (key_in d) (map key_in es) ≡ true → none_clash same_key (key_in d) (map key_in es) ≡ true
      fresh h l = none_same (key_in d) (map key_in es) (eqb-false (key_in d) 0 h) ∙ l

  -- a key that was there
  pub clash : enters_of (key_in d) (map key_in es) marks ≡ false → none_clash same_key (key_in d) (map key_in es) ≡ false
  unfolding enters_of
  clash e = split (key_in d == 0) (λ h. impossible (sym (rw h at e)))
      (λ h. split (slice_index marks (mark_of (key_in d)) == 0) (λ m. impossible (sym (rw (h, m) at e)))
      (λ m. none_same (key_in d) (map key_in es) (eqb-false (key_in d) 0 h) ∙ (rw (h, m) at e)))

-- ---- by places, from the end down
pub drop-map : (i : ℕ) (l : List ℕ) → drop i (map key_in l) ≡ map key_in (drop i l)
drop-map zero l = refl
drop-map (suc i) [] = refl
drop-map (suc i) (d ∷ l) = drop-map i l

module _ (ds : List ℕ) (i : ℕ) (some : 0 < i) (inside : i ≤ length ds) where
  pub back : drop (i - 1) ds ≡ slice_index ds (i - 1) ∷ drop i ds
  back = let e : i - 1 + 1 ≡ i = omega arith in rw e at (next_of ds (i - 1) 0 (omega arith))

  pub over_twice : none_clash same_key (key_in (slice_index ds (i - 1))) (map key_in (drop i ds)) ≡ false → summary_of ds ≡ no_summary
  unfolding summary_of pairwise every_rest
  over_twice e = rw (rest_fails (none_clash same_key) (i - 1) (map key_in ds) (rw (drop-map (i - 1) ds, back, e)))

pub over_all : (ds marks : List ℕ) (flags : ℕ) (tallies : List ℕ) → length ds ≤ places → Over ds marks flags tallies
    → summary_of ds ≡ record { good = clear key_bit flags; quiet = clear await_bit flags; idle = clear due_bit flags; counts = packed_in tallies }
unfolding summary_of
over_all ds marks flags tallies n v = rw (v.apart, v.quiet, v.good, v.idle, v.tallied, packed_tallies ds n)

-- ---- a search among the keys of digests from a place on, that has come to place i of all of them
unfoldable pub later : ℕ → ℕ → ℕ
later from i = pick {A = ℕ} (nat_le from i) i from

pub later_start : (from : ℕ) → from ≡ later from 0
unfolding later
later_start from = split (nat_le from 0) (λ e. let h = leb-true from 0 e in rw e (omega arith)) (λ e. rw e)

later_least : (from i : ℕ) → i ≤ later from i
unfolding later
later_least from i = split (nat_le from i) (λ e. rw e (omega arith)) (λ e. let h = leb-false from i e in rw e (omega arith))

module _ (x : ℕ) (ds : List ℕ) (from i : ℕ) (inside : i < length ds) where
  at : slice_index_or (map key_in ds) i 0 ≡ key_in (slice_index ds i)
  at = map_at key_in ds i 0 0 inside

  within : i < length (map key_in ds)
  within = simp length-map inside

  abbrev hit : Bool
  hit = nat_le from i && x == key_in (slice_index ds i)

  pub key_hit : hit ≡ true → lacks x (drop (later from i) (map key_in ds)) ≡ false
  unfolding later
  key_hit e =
      rw (and_left (nat_le from i) (x == key_in (slice_index ds i)) e)
      (lacks_hit x (map key_in ds) i within (eqb-true x (key_in (slice_index ds i)) (and_right (nat_le from i) (x == key_in (slice_index ds i)) e) ∙ sym at))

  pub key_on : hit ≡ false → lacks x (drop (later from i) (map key_in ds)) ≡ lacks x (drop (later from (i + 1)) (map key_in ds))
  unfolding later
  key_on e = split (nat_le from i)
      (λ l. let h = leb-true from i l in
      rw (l, le-leb from (i + 1) (omega arith)) (lacks_on x (map key_in ds) i within (λ q. eqb-false x (key_in (slice_index ds i)) (rw l at e) (q ∙ at))))
      (λ l. let h = leb-false from i l in rw (l, before h))
    where
      before : i < from → pick {A = ℕ} (nat_le from (i + 1)) (i + 1) from ≡ from
      before h = split (nat_le from (i + 1)) (λ m. let k = leb-true from (i + 1) m in rw m (omega arith)) (λ m. rw m)

pub key_end : (x : ℕ) (ds : List ℕ) (from i : ℕ) → length ds ≤ i → lacks x (drop (later from i) (map key_in ds)) ≡ true
key_end x ds from i h = let m = later_least from i in lacks_end x (map key_in ds) (later from i) (simp length-map (omega arith))

-- ---- a digest without a key: nothing is marked, nothing gathered, nothing counted
module _ (d : ℕ) (none : key_in d ≡ 0) where
  pub enters_none : (l marks : List ℕ) → enters_of (key_in d) l marks ≡ true
  unfolding enters_of
  enters_none l marks = rw none

  pub marks_none : (marks : List ℕ) → marks_of (key_in d) marks ≡ marks
  unfolding marks_of
  marks_none marks = rw none

  pub flags_none : (flags : ℕ) → flags_in d flags ≡ flags
  unfolding flags_in
  flags_none flags = rw none

  pub tallied_none : (us : List ℕ) → tallied_in d us ≡ us
  unfolding tallied_in
  tallied_none us = rw none
