-- A kept reply over time: where it stands and what life it has left after ticks and after other replies that were kept, and that the search finds it
-- until its tenth tick; and that after ten ticks nothing is left of what was there.
-- Assumes nothing.
use Rattle.std.specs.Prelude.{◌≡◌, ℕ, zero, suc, ◌+◌, ◌-◌, ◌<◌, ◌≤◌, Bool, true, false, not, ◌||◌, leb, List, [], ◌∷◌, map, length, get_or, take, ◌==◌, nat_eq, nat_le, nat_lt, slice_index_or}
use Rattle.std.proofs.Math.Path.{refl, sym, ap}
use Rattle.std.proofs.Common.{◌∙◌}
use native.Mathlib.Omega.{arith}
use Rattle.std.proofs.Math.ListN.{length-map}
use Rattle.std.proofs.Math.Seq.{length-take-le}
use mir.Val.{bool_byte}
use borrow.Author.Tests.{eqb-true, eq-eqb, ne_eqb, ltb-true, ltb-false, le-leb, leb-true}
use Rattle.base_octets.specs.Choice.{split, and_left, and_right, or_split, or_true, impossible, tests}
use Rattle.base_octets.specs.Every.{every, every-at}
use Rattle.base_octets.specs.Places.{map_at}
use Rattle.base_octets.specs.Sums.{sum_of, count_of, sum_holds_two, sum_least, sum_of_map, count_most}
use Rattle.base_octets.specs.Search.{first_of, first_most, first-before, first_passes}
use Rattle.unit_store.specs.Row.{full_life, life_in, life_after, number_in, octets_in, three_in, is_unused, holds, reply_ok, kept_ok, life_taken, after_most, unused_taken, life_taken_lem, three_taken, number_taken, octets_taken}
use Rattle.unit_store.specs.Store.{store_ok, pushed, aged, emptied, sound_of, length-pushed}

-- ---- one row after n ticks
unfoldable pub after_ticks : ℕ → List ℕ → List ℕ
after_ticks zero r = r
after_ticks (suc n) r = life_taken false (after_ticks n r)

one_less : (r : List ℕ) → life_in (life_taken false r) ≡ life_in r - 1
unfolding life_after
one_less r = life_taken_lem false r

module _ (r : List ℕ) where
  pub life_after_lem : (n : ℕ) → life_in (after_ticks n r) ≡ life_in r - n
  unfolding after_ticks
  life_after_lem zero = omega arith
  life_after_lem (suc n) = let e = life_after_lem n in let f = one_less (after_ticks n r) in omega arith

  three_after : (n : ℕ) → three_in (after_ticks n r) ≡ three_in r
  unfolding after_ticks
  three_after zero = refl
  three_after (suc n) = three_taken false (after_ticks n r) ∙ three_after n

  pub number_after : (n : ℕ) → number_in (after_ticks n r) ≡ number_in r
  unfolding after_ticks
  number_after zero = refl
  number_after (suc n) = number_taken false (after_ticks n r) ∙ number_after n

  pub octets_after : (n : ℕ) → octets_in (after_ticks n r) ≡ octets_in r
  unfolding after_ticks
  octets_after zero = refl
  octets_after (suc n) = octets_taken false (after_ticks n r) ∙ octets_after n

  module _ (full : life_in r ≡ full_life) (n : ℕ) (h : n < full_life) where
    pub used-after : is_unused (after_ticks n r) ≡ false
    unfolding is_unused
    used-after = let l = life_after_lem n in ne_eqb (life_in (after_ticks n r)) 0 (λ z. omega arith)

    holds_after : holds (three_in r) (after_ticks n r) ≡ true
    unfolding holds
    holds_after = rw (used-after, three_after n, eq-eqb (three_in r) (three_in r) refl)

-- ---- where a row stands
pushed_front : (y : List ℕ) (l : List (List ℕ)) → 0 < length l → slice_index_or (pushed y l) 0 [] ≡ y
unfolding pushed
pushed_front y [] h = absurd (omega arith)
pushed_front y (z ∷ l) h = split (is_unused z) (λ e. rw e) (λ e. rw e)

-- when another is kept it moves back by one at most
pub record Moved (l m : List (List ℕ)) (i : ℕ) : Type 0 where
  pub place : ℕ
  pub most : place ≤ suc i
  pub same : get_or m place [] ≡ slice_index_or l i []

pushed_moves : (x : List ℕ) (l : List (List ℕ)) (i : ℕ) → is_unused (slice_index_or l i []) ≡ false → suc i < length l → Moved l (pushed x l) i
unfolding pushed
pushed_moves x [] i u h = absurd (omega arith)
pushed_moves x (y ∷ l) zero u h = rw u (record { place = 1; most = omega arith; same = pushed_front y l (omega arith) })
pushed_moves x (y ∷ l) (suc i) u h =
    split (is_unused y)
    (λ e. rw e (record { place = suc i; most = omega arith; same = refl }))
    (λ e. let r = pushed_moves y l i u (omega arith) in
    let k = r.most in
    rw e (record { place = suc r.place; most = omega arith; same = r.same }))

-- the reply that was kept as x, m ticks later, when k others were kept after it
pub record Lies (x : List ℕ) (m k : ℕ) (w : List (List ℕ)) : Type 0 where
  pub place : ℕ
  pub within : place < length w
  pub few : place ≤ k
  pub row : get_or w place [] ≡ after_ticks m x

pub lies_first : (x : List ℕ) (w : List (List ℕ)) → 0 < length w → Lies x 0 0 (pushed x w)
unfolding after_ticks
lies_first x w h = record { place = 0; within = let n = length-pushed x w in omega arith; few = omega arith; row = pushed_front x w h }

module _ (x : List ℕ) (m k : ℕ) (w : List (List ℕ)) (l : Lies x m k w) where
  pub lies_kept : (y : List ℕ) → life_in x ≡ full_life → m < full_life → suc k < length w → Lies x m (suc k) (pushed y w)
  lies_kept y full h n =
      let u : is_unused (slice_index_or w l.place []) ≡ false = rw l.row (used-after x full m h) in
      let f = l.few in
      let r = pushed_moves y w l.place u (omega arith) in
      let s = length-pushed y w in
      let t = r.most in
      record { place = r.place; within = omega arith; few = omega arith; row = r.same ∙ l.row }

  pub lies_aged : Lies x (suc m) k (aged w)
  unfolding aged after_ticks
  lies_aged = record {
    place = l.place;
    within = let n = length-map w (life_taken false) in let h = l.within in omega arith;
    few = l.few;
    row = map_at (life_taken false) w l.place [] [] l.within ∙ ap (life_taken false) l.row;
  }

  -- and it is found there
  only : (p : List ℕ → Bool) (i j : ℕ) → count_of p w ≤ 1 → i ≤ j → j < length w → p (slice_index_or w i []) ≡ true → p (slice_index_or w j []) ≡ true → i ≡ j
  only p i j c h n e f =
      split (nat_lt i j)
      (λ t. let z = rw (e, f) at (sum_holds_two (λ r. bool_byte (p r)) w i j [] (ltb-true i j t) n) in absurd (omega arith))
      (λ t. omega (arith, tests))

  pub lies_found : store_ok w ≡ true → life_in x ≡ full_life → m < full_life → first_of (holds (three_in x)) w ≡ l.place
  lies_found s full h =
      let p : holds (three_in x) (slice_index_or w l.place []) ≡ true = rw l.row (holds_after x full m h) in
      let b = first-before (holds (three_in x)) w l.place [] l.within p in
      let n = l.within in
      let q = first_passes (holds (three_in x)) w [] (omega arith) in
      only (holds (three_in x)) (first_of (holds (three_in x)) w) l.place ((sound_of w s).once (three_in x)) b l.within q p

none_left : (n : ℕ) → life_after true n ≡ 0
unfolding life_after
none_left n = refl

-- ---- what fades: each row that holds the reply to a request has n ticks left at most
module _ (three : ℕ) where
  unfoldable pub fading : ℕ → List ℕ → Bool
  fading n r = not (holds three r) || nat_le (life_in r) n

  abbrev pub Fades : ℕ → List (List ℕ) → Type 0
  Fades n w = every (fading n) w ≡ true

  fading_ok : (r : List ℕ) → kept_ok r ≡ true → fading full_life r ≡ true
  unfolding fading kept_ok reply_ok holds is_unused
  fading_ok r e =
      or_split (life_in r == 0) (reply_ok r) e
      (λ f. rw f)
      (λ f. let a : leb (life_in r) full_life ≡ true = search (and_left, and_right) in rw (a, or_true (not (holds three r))))

  fades_all : (w : List (List ℕ)) → every kept_ok w ≡ true → Fades full_life w
  unfolding every
  fades_all [] e = refl
  fades_all (r ∷ w) e = rw (fading_ok r (and_left (kept_ok r) (every kept_ok w) e)) (fades_all w (and_right (kept_ok r) (every kept_ok w) e))

  pub fades_first : (w : List (List ℕ)) → store_ok w ≡ true → Fades full_life w
  fades_first w s = fades_all w (sound_of w s).each

  -- a tick takes one, and no row holds a reply that it did not hold before
  held_before : (all : Bool) (r : List ℕ) → holds three (life_taken all r) ≡ true → holds three r ≡ true
  unfolding holds
  held_before all r e =
      split (is_unused r)
      (λ u. let z = rw (unused_taken all r u) at e in impossible z)
      (λ u. let f = and_right (not (is_unused (life_taken all r))) (three == three_in (life_taken all r)) e in rw (u, ← three_taken all r) f)

  fading_taken : (all : Bool) (n m : ℕ) (r : List ℕ) → n ≤ suc m → fading n r ≡ true → fading m (life_taken all r) ≡ true
  unfolding fading
  fading_taken all n m r h e =
      split (holds three (life_taken all r))
      (λ f. let g = rw (held_before all r f) at e in
      let a = leb-true (life_in r) n g in
      let b = after_most all (life_in r) in
      let c = life_taken_lem all r in
      rw (le-leb (life_in (life_taken all r)) m (omega arith), or_true (not (holds three (life_taken all r)))))
      (λ f. rw f)

  fades_taken : (all : Bool) (n m : ℕ) (w : List (List ℕ)) → n ≤ suc m → Fades n w → Fades m (map (life_taken all) w)
  unfolding every
  fades_taken all n m [] h e = refl
  fades_taken all n m (r ∷ w) h e =
      rw (fading_taken all n m r h (and_left (fading n r) (every (fading n) w) e)) (fades_taken all n m w h (and_right (fading n r) (every (fading n) w) e))

  pub fades_aged : (n : ℕ) (w : List (List ℕ)) → Fades n w → Fades (n - 1) (aged w)
  unfolding aged
  fades_aged n w f = fades_taken false n (n - 1) w (omega arith) f

  pub fades_emptied : (n : ℕ) (w : List (List ℕ)) → Fades n (emptied w)
  unfolding every emptied fading
  fades_emptied n [] = refl
  fades_emptied n (r ∷ w) =
      let z : life_in (life_taken true r) ≤ n = let e = life_taken_lem true r in let f = none_left (life_in r) in omega arith in
      rw (le-leb (life_in (life_taken true r)) n z, or_true (not (holds three (life_taken true r)))) (fades_emptied n w)

  -- another reply is kept
  pub fades_pushed : (n : ℕ) (y : List ℕ) (w : List (List ℕ)) → fading n y ≡ true → Fades n w → Fades n (pushed y w)
  unfolding every pushed
  fades_pushed n y [] h e = e
  fades_pushed n y (z ∷ w) h e =
      let a = and_left (fading n z) (every (fading n) w) e in
      let b = and_right (fading n z) (every (fading n) w) e in
      split (is_unused z) (λ u. rw (u, h, b)) (λ u. rw (u, h) (fades_pushed n z w a b))

  pub fading_other : (n : ℕ) (y : List ℕ) → holds three y ≡ false → fading n y ≡ true
  unfolding fading
  fading_other n y e = rw e

  -- with no tick left none is there
  faded : (r : List ℕ) → fading 0 r ≡ true → holds three r ≡ false
  unfolding fading holds is_unused
  faded r e =
      split (life_in r == 0) (λ z. rw z)
      (λ z. split (three == three_in r)
      (λ q. let a = rw (z, q) at e in let b = leb-true (life_in r) 0 a in let c : nat_eq (life_in r) 0 ≡ true = eq-eqb (life_in r) 0 (omega arith) in impossible (sym z ∙ c))
      (λ q. rw (z, q)))

  pub fades_over : (w : List (List ℕ)) → Fades 0 w → first_of (holds three) w ≡ length w
  unfolding every first_of
  fades_over [] e = refl
  fades_over (r ∷ w) e =
      rw (faded r (and_left (fading 0 r) (every (fading 0) w) e)) (ap suc (fades_over w (and_right (fading 0 r) (every (fading 0) w) e)))

-- ---- the oldest makes room: before a kept reply stand, alive as long as it, those that were kept after it
-- where a row of the store m, which the kept reply y made of l, was before, and what stands before it then
pub record Was (p : List ℕ → Bool) (y : List ℕ) (l m : List (List ℕ)) (i : ℕ) : Type 0 where
  pub place : ℕ
  pub within : place < length l
  pub same : get_or m i [] ≡ slice_index_or l place []
  pub before : bool_byte (p y) + count_of p (take place l) ≤ count_of p (take i m)

module _ (p : List ℕ → Bool) (dead : (r : List ℕ) → is_unused r ≡ true → p r ≡ false) where
  was_still : (y z : List ℕ) (l : List (List ℕ)) (i : ℕ) → is_unused z ≡ true → i < length l → Was p y (z ∷ l) (y ∷ l) (suc i)
  unfolding sum_of
  was_still y z l i u h = record { place = suc i; within = omega arith; same = refl; before = rw (dead z u) (omega arith) }

  was_first : (y z : List ℕ) (l m : List (List ℕ)) → slice_index_or m 0 [] ≡ z → Was p y (z ∷ l) (y ∷ m) 1
  unfolding sum_of
  was_first y z l m e = record { place = 0; within = omega arith; same = e; before = omega arith }

  was_moved : (y z : List ℕ) (l m : List (List ℕ)) (i : ℕ) → Was p z l m i → Was p y (z ∷ l) (y ∷ m) (suc i)
  unfolding sum_of
  was_moved y z l m i w =
      let h = w.within in
      let b = w.before in
      record { place = suc w.place; within = omega arith; same = w.same; before = omega arith }

  pub pushed_was : (y : List ℕ) (l : List (List ℕ)) (i : ℕ) → suc i < length l → Was p y l (pushed y l) (suc i)
  unfolding pushed
  pushed_was y [] i h = absurd (omega arith)
  pushed_was y (z ∷ l) zero h =
      split (is_unused z)
      (λ u. rw u (was_still y z l zero u (omega arith)))
      (λ u. rw u (was_first y z l (pushed z l) (pushed_front z l (omega arith))))
  pushed_was y (z ∷ l) (suc i) h =
      split (is_unused z)
      (λ u. rw u (was_still y z l (suc i) u (omega arith)))
      (λ u. rw u (was_moved y z l (pushed z l) (suc i) (pushed_was z l i (omega arith))))

-- as alive as a row, or more
unfoldable pub outlives : List ℕ → List ℕ → Bool
outlives x r = nat_le (life_in x) (life_in r)

taken_order : (all : Bool) (a b : ℕ) → a ≤ b → life_after all a ≤ life_after all b
unfolding life_after
taken_order all a b h = split all (λ e. rw e (omega arith)) (λ e. rw e (omega arith))

take-map : (f : List ℕ → List ℕ) (i : ℕ) (l : List (List ℕ)) → take i (map f l) ≡ map f (take i l)
take-map f zero l = refl
take-map f (suc i) [] = refl
take-map f (suc i) (x ∷ l) = ap (λ (m : List (List ℕ)). f x ∷ m) (take-map f i l)

-- no life is over the full one
blank_ok : kept_ok [] ≡ true
unfolding kept_ok is_unused life_in
blank_ok = refl

most_of : (r : List ℕ) → kept_ok r ≡ true → life_in r ≤ full_life
unfolding kept_ok reply_ok is_unused
most_of r e =
    or_split (life_in r == 0) (reply_ok r) e
    (λ f. let z = eqb-true (life_in r) 0 f in omega arith)
    (λ f. let a : leb (life_in r) full_life ≡ true = search (and_left, and_right) in leb-true (life_in r) full_life a)

life_most : (w : List (List ℕ)) (i : ℕ) → every kept_ok w ≡ true → life_in (slice_index_or w i []) ≤ full_life
life_most w i e = most_of (slice_index_or w i []) (every-at kept_ok w i [] e blank_ok)

module _ (three : ℕ) where
  -- k replies that outlive it stand before each row that holds the reply to the request
  unfoldable pub Behind : ℕ → List (List ℕ) → Type 0
  Behind k w = (i : ℕ) → i < length w → holds three (slice_index_or w i []) ≡ true → k ≤ count_of (outlives (slice_index_or w i [])) (take i w)

  pub behind-first : (w : List (List ℕ)) → Behind 0 w
  unfolding Behind
  behind-first w i h e = omega arith

  alive : (x r : List ℕ) → holds three x ≡ true → is_unused r ≡ true → outlives x r ≡ false
  unfolding holds is_unused outlives
  alive x r e u =
      let a = eqb-true (life_in r) 0 u in
      let b : not (life_in x == 0) ≡ true = and_left (not (life_in x == 0)) (three == three_in x) e in
      split (nat_le (life_in x) (life_in r))
      (λ t. let c = leb-true (life_in x) (life_in r) t in let d : nat_eq (life_in x) 0 ≡ true = eq-eqb (life_in x) 0 (omega arith) in impossible (rw d at b))
      (λ t. t)

  module _ (k : ℕ) (w : List (List ℕ)) (b : Behind k w) where
    -- another is kept, that has all its life before it
    one_more_lem : (x y : List ℕ) (i : ℕ) → store_ok w ≡ true → life_in y ≡ full_life → holds three x ≡ true → slice_index_or (pushed y w) (suc i) [] ≡ x
        → suc i < length w → suc k ≤ count_of (outlives x) (take (suc i) (pushed y w))
    unfolding Behind outlives
    one_more_lem x y i s full e q h =
        let v = pushed_was (outlives x) (λ r u. alive x r e u) y w i h in
        let f : get_or w v.place [] ≡ x = sym v.same ∙ q in
        let c : k ≤ count_of (outlives x) (take v.place w) = rw f at (b v.place v.within (rw f e)) in
        let m : life_in x ≤ full_life = rw f at (life_most w v.place (sound_of w s).each) in
        let o : leb (life_in x) (life_in y) ≡ true = le-leb (life_in x) (life_in y) (omega arith) in
        let t = rw o at v.before in
        omega arith

    pub behind-pushed : (y : List ℕ) → store_ok w ≡ true → life_in y ≡ full_life → holds three y ≡ false → Behind (suc k) (pushed y w)
    unfolding Behind
    behind-pushed y s full other zero h e =
        let f = pushed_front y w (let n = length-pushed y w in omega arith) in impossible (sym other ∙ rw f at e)
    behind-pushed y s full other (suc i) h e =
        one_more_lem (slice_index_or (pushed y w) (suc i) []) y i s full e refl (let n = length-pushed y w in omega arith)

    -- a tick takes one from all, and none that is gone comes back
    less_taken : (all : Bool) (x : List ℕ) (l : List (List ℕ)) → holds three (life_taken all x) ≡ true
        → count_of (outlives x) l ≤ count_of (outlives (life_taken all x)) (map (life_taken all) l)
    unfolding outlives
    less_taken all x l e =
        rw (sum_of_map (λ r. bool_byte (nat_le (life_in (life_taken all x)) (life_in r))) (life_taken all) l)
        (sum_least (λ r. bool_byte (nat_le (life_in x) (life_in r))) (λ r. bool_byte (nat_le (life_in (life_taken all x)) (life_in (life_taken all r)))) l each)
      where
        each : (r : List ℕ) → bool_byte (nat_le (life_in x) (life_in r)) ≤ bool_byte (nat_le (life_in (life_taken all x)) (life_in (life_taken all r)))
        each r =
            split (nat_le (life_in x) (life_in r))
            (λ t. let a = taken_order all (life_in x) (life_in r) (leb-true (life_in x) (life_in r) t) in
            let c = life_taken_lem all x in
            let d = life_taken_lem all r in
            rw (t, le-leb (life_in (life_taken all x)) (life_in (life_taken all r)) (omega arith)) (omega arith))
            (λ t. rw t (omega arith))

    pub behind-taken : (all : Bool) → Behind k (map (life_taken all) w)
    unfolding Behind
    behind-taken all i h e =
        let n = length-map w (life_taken all) in
        let q : get_or (map (life_taken all) w) i [] ≡ life_taken all (slice_index_or w i []) = map_at (life_taken all) w i [] [] (omega arith) in
        let f : holds three (life_taken all (slice_index_or w i [])) ≡ true = rw q at e in
        let c = b i (omega arith) (held_before three all (slice_index_or w i []) f) in
        let d = less_taken all (slice_index_or w i []) (take i w) f in
        rw (q, take-map (life_taken all) i w) (omega arith)

  -- as many as there are places, or more: none is there
  pub behind_all : (w : List (List ℕ)) (k : ℕ) → length w ≤ k → Behind k w → first_of (holds three) w ≡ length w
  unfolding Behind
  behind_all w k l b =
      let m = first_most (holds three) w in
      split (nat_lt (first_of (holds three) w) (length w))
      (λ t. let h = ltb-true (first_of (holds three) w) (length w) t in
      let c = b (first_of (holds three) w) h (first_passes (holds three) w [] h) in
      let d = count_most (outlives (slice_index_or w (first_of (holds three) w) [])) (take (first_of (holds three) w) w) in
      let n = length-take-le (first_of (holds three) w) w m in
      absurd (omega arith))
      (λ t. let h = ltb-false (first_of (holds three) w) (length w) t in omega arith)
