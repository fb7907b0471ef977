-- The store: the last 32 replies to types 34 and 36, the newest first.
-- Assumes nothing.
use Rattle.std.specs.Prelude.{◌≡◌, ℕ, zero, suc, ◌+◌, ◌-◌, ◌<◌, ◌≤◌, min, Bool, true, false, not, ◌&&◌, List, [], ◌∷◌, ◌++◌, map, length, take, drop, ◌==◌, nat_eq, nat_lt, slice_index_or, slice_set, refl}
use Rattle.std.proofs.Common.{sym, ◌∙◌, ap, arith, take_all, take_at, drop_at, take-suc, length-take-le, eqb-true, eq-eqb, ltb-true, ltb-false}
use Rattle.std.proofs.lemmas.List.{length-map}
use mir.Val.{bool_byte}
use Rattle.base_octets.specs.Choice.{pick, split, and_left, and_right, and_no}
use Rattle.base_octets.specs.Every.{every, every_rest, every_map}
use Rattle.base_octets.specs.Sums.{sum_of, count_of, sum_end, sum_map_most}
use Rattle.base_octets.specs.Search.{first_of}
use Rattle.base_distinct.specs.Apart.{none_clash, pairwise, same_key, pairwise_count, count_pairwise}
use Rattle.unit_store.specs.Row.{store_rows, life_in, life_after, three_in, is_unused, holds, kept_ok, life_taken, mark_in, life_taken_lem, ok_taken, holds-taken, mark_same}

-- two kept replies that are equal in type, sequence number and TEID
unfoldable pub same_three : List ℕ → List ℕ → Bool
same_three a b = not (is_unused a) && holds (three_in a) b

-- ---- the rules of the store
unfoldable pub store_ok : List (List ℕ) → Bool
store_ok l = length l == store_rows && (every kept_ok l && pairwise same_three l)

-- ---- a reply is kept: it stands first; those before the first unused place move back by one, and where no place is unused the last, which
-- is the oldest, makes room
unfoldable pub pushed : List ℕ → List (List ℕ) → List (List ℕ)
pushed x [] = []
pushed x (y ∷ l) = pick (is_unused y) (x ∷ l) (x ∷ pushed y l)

-- ---- a tick, and a restart of the exchange
unfoldable pub aged : List (List ℕ) → List (List ℕ)
aged l = map (life_taken false) l

unfoldable pub emptied : List (List ℕ) → List (List ℕ)
emptied l = map (life_taken true) l

-- the kept replies in the order of their age, the newest first: what the store is
unfoldable pub replies_in : List (List ℕ) → List (List ℕ)
replies_in [] = []
replies_in (r ∷ l) = pick (is_unused r) (replies_in l) (r ∷ replies_in l)

-- ---- laws: what the store is after a reply is kept: the new one, and of the others as many of the newest as there is room for
replies_most : (l : List (List ℕ)) → length (replies_in l) ≤ length l
unfolding replies_in
replies_most [] = omega arith
replies_most (r ∷ l) = let h = replies_most l in split (is_unused r) (λ e. rw e (omega arith)) (λ e. rw e (omega arith))

pub replies_kept : (x : List ℕ) (l : List (List ℕ)) → is_unused x ≡ false → replies_in (pushed x l) ≡ take (length l) (x ∷ replies_in l)
unfolding replies_in pushed
replies_kept x [] e = refl
replies_kept x (y ∷ l) e =
    split (is_unused y)
    (λ f. rw (f, e) (ap (λ (m : List (List ℕ)). x ∷ m) (sym (take_all (length l) (replies_in l) (replies_most l)))))
    (λ f. rw (f, e) (ap (λ (m : List (List ℕ)). x ∷ m) (replies_kept y l f)))

pub length-pushed : (x : List ℕ) (l : List (List ℕ)) → length (pushed x l) ≡ length l
unfolding pushed
length-pushed x [] = refl
length-pushed x (y ∷ l) = split (is_unused y) (λ f. rw f) (λ f. rw f (ap suc (length-pushed y l)))

every-pushed : (x : List ℕ) (l : List (List ℕ)) → kept_ok x ≡ true → every kept_ok l ≡ true → every kept_ok (pushed x l) ≡ true
unfolding pushed every
every-pushed x [] h e = e
every-pushed x (y ∷ l) h e =
    let a = and_left (kept_ok y) (every kept_ok l) e in
    let b = and_right (kept_ok y) (every kept_ok l) e in
    split (is_unused y) (λ f. rw (f, h, b)) (λ f. rw (f, h) (every-pushed y l a b))

count_pushed : (p : List ℕ → Bool) (x : List ℕ) (l : List (List ℕ)) → count_of p (pushed x l) ≤ bool_byte (p x) + count_of p l
unfolding pushed sum_of
count_pushed p x [] = omega arith
count_pushed p x (y ∷ l) =
    let r = count_pushed p y l in
    split (is_unused y) (λ f. rw f (omega arith)) (λ f. rw f (omega arith))

-- ---- laws: the rules by name
pub record Sound (l : List (List ℕ)) : Type 0 where
  pub size : length l ≡ 32
  pub each : every kept_ok l ≡ true
  pub once : (three : ℕ) → count_of (holds three) l ≤ 1

same_three_lem : (three : ℕ) (x y : List ℕ) → holds three x ≡ true → holds three y ≡ true → same_three x y ≡ true
unfolding same_three holds
same_three_lem three x y e f =
    let n : not (is_unused x) ≡ true = and_left (not (is_unused x)) (three == three_in x) e in
    let k = eqb-true three (three_in x) (and_right (not (is_unused x)) (three == three_in x) e) in
    rw (n, ← k) f

holds_own : (x : List ℕ) → not (is_unused x) ≡ true → holds (three_in x) x ≡ true
unfolding holds
holds_own x n = rw (n, eq-eqb (three_in x) (three_in x) refl)

holds_three : (three : ℕ) (x : List ℕ) → holds three x ≡ true → three ≡ three_in x
unfolding holds
holds_three three x e = eqb-true three (three_in x) (and_right (not (is_unused x)) (three == three_in x) e)

three_shared : (x y : List ℕ) → same_three x y ≡ true → (holds (three_in x) x ≡ true) × (holds (three_in x) y ≡ true)
unfolding same_three
three_shared x y e =
    let n : not (is_unused x) ≡ true = and_left (not (is_unused x)) (holds (three_in x) y) e in
    (holds_own x n, and_right (not (is_unused x)) (holds (three_in x) y) e)

pub sound_of : (l : List (List ℕ)) → store_ok l ≡ true → Sound l
unfolding store_ok
sound_of l e =
    let s : nat_eq (length l) 32 ≡ true = search and_left in
    let h : every kept_ok l ≡ true = search (and_left, and_right) in
    let i : pairwise same_three l ≡ true = search (and_left, and_right) in
    record { size = eqb-true (length l) 32 s; each = h; once = λ three. pairwise_count same_three (holds three) l (same_three_lem three) i }

pub sound_to : (l : List (List ℕ)) → Sound l → store_ok l ≡ true
unfolding store_ok
sound_to l s =
    rw (eq-eqb (length l) 32 s.size, s.each) (count_pairwise same_three holds three_in three_shared l s.once)

-- ---- laws: each operation keeps the rules
-- a reply is kept that the store does not hold
pub keeps_kept : (x : List ℕ) (l : List (List ℕ)) → store_ok l ≡ true → kept_ok x ≡ true → count_of (holds (three_in x)) l ≡ 0 → store_ok (pushed x l) ≡ true
keeps_kept x l e h none = sound_to (pushed x l) (record { size = length-pushed x l ∙ s.size; each = every-pushed x l h s.each; once = once })
  where
    s : Sound l
    s = sound_of l e

    once : (three : ℕ) → count_of (holds three) (pushed x l) ≤ 1
    once three =
        let a = count_pushed (holds three) x l in
        let b = s.once three in
        split (holds three x)
        (λ t. let z : count_of (holds three) l ≡ 0 = rw (holds_three three x t) none in let c = rw t at a in omega arith)
        (λ t. let c = rw t at a in omega arith)

taken-keeps : (all : Bool) (l : List (List ℕ)) → store_ok l ≡ true → store_ok (map (life_taken all) l) ≡ true
taken-keeps all l e = sound_to (map (life_taken all) l) (record {
  size = simp length-map s.size;
  each = every_map kept_ok (life_taken all) l (λ r. ok_taken all r) s.each;
  once = λ three. let a = sum_map_most (λ r. bool_byte (holds three r)) (life_taken all) l (λ r. holds-taken all r three) in let b = s.once three in omega arith;
})
  where
    s : Sound l
    s = sound_of l e

pub keeps-aged : (l : List (List ℕ)) → store_ok l ≡ true → store_ok (aged l) ≡ true
unfolding aged
keeps-aged l e = taken-keeps false l e

pub keeps-emptied : (l : List (List ℕ)) → store_ok l ≡ true → store_ok (emptied l) ≡ true
unfolding emptied
keeps-emptied l e = taken-keeps true l e

-- a store that was emptied keeps nothing
pub emptied_none : (l : List (List ℕ)) → every is_unused (emptied l) ≡ true
unfolding every emptied is_unused life_after
emptied_none [] = refl
emptied_none (r ∷ l) = rw (eq-eqb (life_in (life_taken true r)) 0 (life_taken_lem true r)) (emptied_none l)

-- ---- laws: in the words of the code
-- no life is left: nothing is kept, and no rule is broken
unused_apart : (x y : List ℕ) → is_unused x ≡ true → same_three x y ≡ false
unfolding same_three
unused_apart x y e = rw e

none_apart : (x : List ℕ) (l : List (List ℕ)) → is_unused x ≡ true → none_clash same_three x l ≡ true
unfolding none_clash every
none_apart x [] e = refl
none_apart x (y ∷ l) e = rw (unused_apart x y e) (none_apart x l e)

unused : (r : List ℕ) → life_in r ≡ 0 → is_unused r ≡ true
unfolding is_unused
unused r z = eq-eqb (life_in r) 0 z

pub vacant_ok : (l : List (List ℕ)) → sum_of life_in l ≡ 0 → (every kept_ok l && pairwise same_three l) ≡ true
unfolding sum_of every pairwise every_rest kept_ok is_unused
vacant_ok [] e = refl
vacant_ok (r ∷ l) e =
    let z : life_in r ≡ 0 = omega arith in
    let u : is_unused r ≡ true = unused r z in
    let h = vacant_ok l (omega arith) in
    rw (eq-eqb (life_in r) 0 z, and_left (every kept_ok l) (pairwise same_three l) h, none_apart r l u) (and_right (every kept_ok l) (pairwise same_three l) h)

-- rows read one after another into their marks
pub apart_stop : (l : List (List ℕ)) → every kept_ok l ≡ false → (every kept_ok l && pairwise same_three l) ≡ false
apart_stop l e = rw e

-- a row is left where a life is
pub more_rows : (l : List (List ℕ)) (i : ℕ) → 0 < sum_of life_in (drop i l) → i < length l
more_rows l i h =
    split (nat_lt i (length l)) (λ e. ltb-true i (length l) e)
    (λ e. let z = sum_end life_in l i (ltb-false i (length l) e) in absurd (omega arith))

-- with rows that are unused nothing clashes
apart_unused : (x y : List ℕ) → is_unused y ≡ true → same_three x y ≡ false
unfolding same_three holds
apart_unused x y e = rw (e, and_no (not (is_unused x)))

vacant_none : (x : List ℕ) (l : List (List ℕ)) → sum_of life_in l ≡ 0 → none_clash same_three x l ≡ true
unfolding sum_of none_clash every
vacant_none x [] e = refl
vacant_none x (y ∷ l) e =
    let z : life_in y ≡ 0 = omega arith in
    rw (apart_unused x y (unused y z)) (vacant_none x l (omega arith))

front_none : (x : List ℕ) (l : List (List ℕ)) → sum_of life_in l ≡ 0 → none_clash same_key (mark_in x) (map mark_in []) ≡ none_clash same_three x l
unfolding none_clash every
front_none x l h = sym (vacant_none x l h)

none_nil : (x : List ℕ) → none_clash same_key (mark_in x) (map mark_in []) ≡ none_clash same_three x []
unfolding none_clash every
none_nil x = refl

none_next : (x y : List ℕ) (l m : List (List ℕ)) → kept_ok x ≡ true → kept_ok y ≡ true → none_clash same_key (mark_in x) (map mark_in m) ≡ none_clash same_three x l
    → none_clash same_key (mark_in x) (map mark_in (y ∷ m)) ≡ none_clash same_three x (y ∷ l)
unfolding none_clash every same_three
none_next x y l m p q e = rw (mark_same x y p q, e)

kept_first : (y : List ℕ) (l : List (List ℕ)) → every kept_ok (y ∷ l) ≡ true → kept_ok y ≡ true
unfolding every
kept_first y l e = and_left (kept_ok y) (every kept_ok l) e

kept_rest : (y : List ℕ) (l : List (List ℕ)) → every kept_ok (y ∷ l) ≡ true → every kept_ok l ≡ true
unfolding every
kept_rest y l e = and_right (kept_ok y) (every kept_ok l) e

none_front : (x : List ℕ) (i : ℕ) (l : List (List ℕ)) → kept_ok x ≡ true → every kept_ok l ≡ true → sum_of life_in (drop i l) ≡ 0
    → none_clash same_key (mark_in x) (map mark_in (take i l)) ≡ none_clash same_three x l
none_front x zero l p e h = front_none x l h
none_front x (suc i) [] p e h = none_nil x
none_front x (suc i) (y ∷ l) p e h = none_next x y l (take i l) p (kept_first y l e) (none_front x i l p (kept_rest y l e) h)

front_apart : (i : ℕ) (l : List (List ℕ)) → every kept_ok l ≡ true → sum_of life_in (drop i l) ≡ 0 → pairwise same_key (map mark_in (take i l)) ≡ pairwise same_three l
unfolding pairwise every_rest
front_apart zero l e h = sym (and_right (every kept_ok l) (pairwise same_three l) (vacant_ok l h))
front_apart (suc i) [] e h = refl
front_apart (suc i) (x ∷ l) e h = rw (none_front x i l (kept_first x l e) (kept_rest x l e) h, front_apart i l (kept_rest x l e) h)

pub rest_ok : (l : List (List ℕ)) → sum_of life_in l ≡ 0 → every kept_ok l ≡ true
rest_ok l h = and_left (every kept_ok l) (pairwise same_three l) (vacant_ok l h)

pub apart_front : (i : ℕ) (l : List (List ℕ)) (marks : List ℕ) → every kept_ok l ≡ true → sum_of life_in (drop i l) ≡ 0 → take i marks ≡ map mark_in (take i l)
    → (every kept_ok l && pairwise same_three l) ≡ pairwise same_key (take i marks)
apart_front i l marks e h m = rw (e, m) (sym (front_apart i l e h))

pub pushed_none : (x : List ℕ) (l : List (List ℕ)) → length l ≡ 0 → l ≡ pushed x l
unfolding pushed
pushed_none x [] e = refl
pushed_none x (y ∷ l) e = absurd (omega arith)

-- those before the first unused place, or before the last, stand behind the new one
pub pushed_turned : (x : List ℕ) (l : List (List ℕ)) (i : ℕ) → 0 < length l → i ≡ min (first_of is_unused l) (length l - 1) → x ∷ (take i l ++ drop (suc i) l) ≡ pushed x l
unfolding pushed first_of
pushed_turned x [] i h e = absurd (omega arith)
pushed_turned x (y ∷ []) i h e =
    let z : i ≡ 0 = split (is_unused y) (λ f. let g = rw f at e in omega arith) (λ f. let g = rw f at e in omega arith) in
    rw z (split (is_unused y) (λ f. rw f) (λ f. rw f))
pushed_turned x (y ∷ z ∷ l) i h e =
    let r = pushed_turned y (z ∷ l) (min (first_of is_unused (z ∷ l)) (length (z ∷ l) - 1)) (omega arith) refl in
    split (is_unused y)
    (λ f. let g = rw f at e in let n : i ≡ 0 = omega arith in rw (f, n))
    (λ f. let g = rw f at e in
    let k : i ≡ suc (min (first_of is_unused (z ∷ l)) (length (z ∷ l) - 1)) = omega arith in
    rw (f, k) (ap (λ (m : List (List ℕ)). x ∷ m) r))

-- in the words of the code: the rows up to that place turned by one, and the first put over
pub pushed_first : (x : List ℕ) (l t : List (List ℕ)) (i : ℕ) → 0 < length l → i ≡ min (first_of is_unused l) (length l - 1)
    → t ≡ drop (length (take (i + 1) l) - 1) (take (i + 1) l) ++ take (length (take (i + 1) l) - 1) (take (i + 1) l) → slice_set (t ++ drop (i + 1) l) 0 x ≡ pushed x l
pushed_first x l t i h e f =
    let k : i + 1 ≡ suc i = omega arith in
    let s = take-suc l i [] (omega arith) in
    let n : length (take i l) ≡ i = length-take-le i l (omega arith) in
    let m = length-take-le (i + 1) l (omega arith) in
    let q : length (take (i + 1) l) - 1 ≡ i = omega arith in
    rw (f, q, k, s, drop_at (take i l) (slice_index_or l i [] ∷ []) i n, take_at (take i l) (slice_index_or l i [] ∷ []) i n) (pushed_turned x l i h e)
