-- The places that are looked for among the digests beside the summary: that of a key, the first free one and the first whose request is due.
-- Free places at the end change nothing of the summary.
-- Assumes nothing.
use Rattle.std.specs.Prelude.{◌≡◌, ℕ, ◌+◌, ◌-◌, ◌<◌, ◌≤◌, Bool, true, false, not, ◌&&◌, List, [], ◌∷◌, length, drop, replicate, ◌==◌, bit_or, nat_eq, slice_index, suc, refl, Some, None, cond, ltb}
use Rattle.std.proofs.Common.{sym, ap, arith, ltb-false, drop_of_length-le, eqb-true}
use Rattle.std.proofs.lemmas.List.{length-replicate}
use Rattle.std.specs.List.{position, position_or_len}
use Rattle.std.specs.Option.{unwrap_or}
use Rattle.std.proofs.lemmas.List.Recursion.{is_position_or_len}
use Rattle.base_octets.specs.Choice.{pick, split, and_left, and_right}
use Rattle.base_octets.specs.Every.{every}
use Rattle.base_octets.specs.Search.{first_of, first_most}
use Rattle.unit_tunnel.specs.Numbering.{places}
use Rattle.unit_session.specs.Wide.{or_none}
use Rattle.step_check.specs.declared.Findings.{Findings}
use Rattle.step_check.specs.Digest.{key_in, idle_in}
use Rattle.step_check.specs.Summary.{summary_of}
use Rattle.step_check.specs.Over.{Over, over_none, over_more, over_all, back, enters_none, marks_none, flags_none, tallied_none, packed_in}

-- ---- the first digest with a key, the first of a free record and the first of one that is due; past them where there is none
unfoldable pub key_place : List ℕ → ℕ → ℕ
key_place ds k = first_of (λ d. nat_eq (key_in d) k) ds

unfoldable pub free_in : List ℕ → ℕ
free_in ds = first_of (λ d. nat_eq d 0) ds

abbrev pub due_in : ℕ → Bool
due_in d = not (idle_in d)

-- no place is looked for where the key is 0, nor where nothing is due
unfoldable pub findings_of : ℕ → List ℕ → Findings
findings_of key ds = record {
  summary = summary_of ds;
  old = pick {A = ℕ} (key == 0) places (key_place ds key);
  free = pick {A = ℕ} (key == 0) places (free_in ds);
  due = pick {A = ℕ} (summary_of ds).idle places (first_of due_in ds);
}

-- ---- the first place of a list, as the library has it
pub first_len : (p : ℕ → Bool) (ds : List ℕ) → position_or_len p ds ≡ first_of p ds
unfolding first_of
first_len p ds = sym (is_position_or_len (first_of p) p refl (λ d es. split (p d) (λ e. rw e) (λ e. rw (e, suc_one (first_of p es)))) ds)
  where
    suc_one : (n : ℕ) → suc n ≡ 1 + n
    suc_one n = omega arith

pub first_found : (p : ℕ → Bool) (ds : List ℕ) (n : ℕ) → length ds ≡ n → unwrap_or (position p ds) n ≡ first_of p ds
first_found p ds n same = rw (first_len p ds) (by (ltb (first_of p ds) (length ds)) refl)
  where
    by : (b : Bool) → ltb (first_of p ds) (length ds) ≡ b → unwrap_or (cond b (Some (first_of p ds)) None) n ≡ first_of p ds
    by true e = refl
    by false e = let past = ltb-false (first_of p ds) (length ds) e in let most = first_most p ds in omega arith

-- ---- from a place on all are free
unfoldable pub free_above : List ℕ → ℕ → Bool
free_above ds n = every (λ d. nat_eq d 0) (drop n ds)

pub free_end : (ds : List ℕ) (n : ℕ) → length ds ≤ n → free_above ds n ≡ true
unfolding free_above every
free_end ds n h = let d : drop n ds ≡ [] = drop_of_length-le ds h in rw d

pub free_back : (ds : List ℕ) (i : ℕ) → 0 < i → i ≤ length ds → (slice_index ds (i - 1) == 0) ≡ true → free_above ds i ≡ true → free_above ds (i - 1) ≡ true
unfolding free_above every
free_back ds i some inside z e = rw (back ds i some inside, z, e)

-- eight at once, where the bits of all eight are none
module _ (ds : List ℕ) (n : ℕ) (some : 8 ≤ n) (inside : n ≤ length ds) where
  abbrev d : ℕ → ℕ
  d k = slice_index ds (n - k)

  eight : (d 8 == 0 && d 7 == 0 && d 6 == 0 && d 5 == 0) ≡ true → (d 4 == 0 && d 3 == 0 && d 2 == 0 && d 1 == 0) ≡ true
      → free_above ds n ≡ true → free_above ds (n - 8) ≡ true
  eight low high e =
      let a = free_back ds n (omega arith) inside (and_right (d 4 == 0 && d 3 == 0 && d 2 == 0) (d 1 == 0) high) e in
      let h3 = and_left (d 4 == 0 && d 3 == 0 && d 2 == 0) (d 1 == 0) high in
      let b = freed 1 (omega arith) (and_right (d 4 == 0 && d 3 == 0) (d 2 == 0) h3) a in
      let h2 = and_left (d 4 == 0 && d 3 == 0) (d 2 == 0) h3 in
      let c = freed 2 (omega arith) (and_right (d 4 == 0) (d 3 == 0) h2) b in
      let f = freed 3 (omega arith) (and_left (d 4 == 0) (d 3 == 0) h2) c in
      let g = freed 4 (omega arith) (and_right (d 8 == 0 && d 7 == 0 && d 6 == 0) (d 5 == 0) low) f in
      let l3 = and_left (d 8 == 0 && d 7 == 0 && d 6 == 0) (d 5 == 0) low in
      let h = freed 5 (omega arith) (and_right (d 8 == 0 && d 7 == 0) (d 6 == 0) l3) g in
      let l2 = and_left (d 8 == 0 && d 7 == 0) (d 6 == 0) l3 in
      let k = freed 6 (omega arith) (and_right (d 8 == 0) (d 7 == 0) l2) h in
      freed 7 (omega arith) (and_left (d 8 == 0) (d 7 == 0) l2) k
    where
      freed : (j : ℕ) → j < 8 → (d (j + 1) == 0) ≡ true → free_above ds (n - j) ≡ true → free_above ds (n - (j + 1)) ≡ true
      freed j h z q =
          let s : n - j - 1 ≡ n - (j + 1) = omega arith in
          rw (← s) (free_back ds (n - j) (omega arith) (omega arith) (rw s z) q)

  pub free_eight : bit_or (bit_or (bit_or (bit_or (d 8) (d 7)) (d 6)) (d 5)) (bit_or (bit_or (bit_or (d 4) (d 3)) (d 2)) (d 1)) ≡ 0
      → free_above ds n ≡ true → free_above ds (n - 8) ≡ true
  free_eight z e = eight (and_left (d 8 == 0 && d 7 == 0 && d 6 == 0 && d 5 == 0) (d 4 == 0 && d 3 == 0 && d 2 == 0 && d 1 == 0) all)
      (and_right (d 8 == 0 && d 7 == 0 && d 6 == 0 && d 5 == 0) (d 4 == 0 && d 3 == 0 && d 2 == 0 && d 1 == 0) all) e
    where
      all : ((d 8 == 0 && d 7 == 0 && d 6 == 0 && d 5 == 0) && (d 4 == 0 && d 3 == 0 && d 2 == 0 && d 1 == 0)) ≡ true
      all = simp or_none at (ap (λ (x : ℕ). nat_eq x 0) z)

-- ---- the summary where all are free
key_none : key_in 0 ≡ 0
key_none = refl

pub over_free : (es marks : List ℕ) → length marks ≡ 1024 → length es ≤ places → every (λ d. nat_eq d 0) es ≡ true → Over es marks 0 (0 ∷ 0 ∷ 0 ∷ 0 ∷ [])
unfolding every
over_free [] marks n few e = over_none marks
over_free (d ∷ es) marks n few e =
    let z = eqb-true d 0 (and_left (d == 0) (every (λ x. nat_eq x 0) es) e) in
    let k : key_in d ≡ 0 = rw z key_none in
    let v = over_free es marks n (omega arith) (and_right (d == 0) (every (λ x. nat_eq x 0) es) e) in
    rw (marks_none d k marks, flags_none d k 0, tallied_none d k (0 ∷ 0 ∷ 0 ∷ 0 ∷ [])) at (over_more d es marks 0 (0 ∷ 0 ∷ 0 ∷ 0 ∷ []) v (omega arith) n (enters_none d k _ marks))

pub summary_free : (ds : List ℕ) → length ds ≤ places → free_above ds 0 ≡ true → summary_of ds ≡ record { good = true; quiet = true; idle = true; counts = 0 }
unfolding free_above packed_in
summary_free ds few e = over_all ds (replicate 1024 0) 0 (0 ∷ 0 ∷ 0 ∷ 0 ∷ []) few (over_free ds (replicate 1024 0) (length-replicate {A = ℕ} 1024 0) few e)
