-- The sharing rule, over n access points known by their numbers: g what each is guaranteed, c its ceiling, u its live sessions.
-- The laws are what "no access point over its ceiling", "room for the guaranteed" and "a free place for every admitted session"
-- are made of. They speak of any counts; a table's counts are put in for u.
-- Assumes nothing.
use Prim.Native.Nat.{ℕ, ◌<◌, ◌≤◌, max}
use Rattle.std.specs.Prelude.{Bool, false, ◌&&◌, ◌||◌, List, [], ◌∷◌, map, ◌≡◌, refl, length, get_or, ltb, sum_by}
use Rattle.std.specs.List.{list_all, zip}
use Rattle.std.proofs.Math.Bool.{true}
use Rattle.std.proofs.Common.{sym, ◌∙◌}
use native.Mathlib.Omega.{arith}
use Rattle.std.proofs.lemmas.List.{length-map}
use Rattle.std.proofs.Math.ListN.{get_or-eq_default}
use Rattle.std.proofs.Math.Dec.{leb}
use borrow.Author.Tests.{lt-ltb, le-ltb, le-leb, ltb-true, leb-true}
use Rattle.base_octets.specs.Choice.{and_left, and_right, tests}
use Rattle.base_octets.specs.Every.{every, every_in}
use Rattle.base_octets.specs.Sums.{sum_of, sum_by_of}
use Rattle.base_octets.specs.Below.{sum_to, all_to, all_in, all_of, all_agree, to_start, to_least, to_equal, to_front, to_list, all_start, all_front}
use Rattle.base_octets.specs.Places.{map_at}
use Rattle.unit_tunnel.specs.Numbering.{places}
use Rattle.unit_plan.specs.declared.AccessPoint.{AccessPoint}
use Rattle.unit_plan.specs.declared.Plan.{Plan}
use Rattle.unit_plan.specs.Limits.{used, parties, point_ok, no_point}
use Rattle.unit_plan.specs.Plan.{guaranteed, accepted}

-- S: the sum over all access points of the larger of u and g
unfoldable pub share : ℕ → (ℕ → ℕ) → (ℕ → ℕ) → ℕ
share n g u = sum_to (λ a. max (u a) (g a)) n

-- not all places are shared out: S < places
unfoldable pub sharable : ℕ → (ℕ → ℕ) → (ℕ → ℕ) → Bool
sharable n g u = ltb (share n g u) places

-- a new session of access point a is admitted when u < c and (u < g or S < places)
unfoldable pub admitted : ℕ → (ℕ → ℕ) → (ℕ → ℕ) → (ℕ → ℕ) → ℕ → Bool
admitted n g c u a = ltb (u a) (c a) && (ltb (u a) (g a) || sharable n g u)

-- ---- the figures of a plan; an access point that it does not have may have nothing
unfoldable pub guarantee_at : Plan → ℕ → ℕ
guarantee_at p a = get_or (map (λ x. x.guarantee) (used p)) a 0

unfoldable pub ceiling_at : Plan → ℕ → ℕ
ceiling_at p a = get_or (map (λ x. x.ceiling) (used p)) a 0

abbrev pub share_of : Plan → (ℕ → ℕ) → ℕ
share_of p u = share (parties p) (guarantee_at p) u

abbrev pub admits : Plan → (ℕ → ℕ) → ℕ → Bool
admits p u a = admitted (parties p) (guarantee_at p) (ceiling_at p) u a

-- u ≤ c for each access point
abbrev pub under_ceilings : Plan → (ℕ → ℕ) → Bool
under_ceilings p u = all_to (λ a. leb (u a) (ceiling_at p a)) (parties p)

-- the counts of a table are within its plan: u ≤ c for each access point, and S ≤ places
unfoldable pub within_ok : Plan → (ℕ → ℕ) → Bool
within_ok p u = under_ceilings p u && leb (share_of p u) places

-- ---- laws
-- fewer sessions never make S larger
pub share_less : (n : ℕ) (g u v : ℕ → ℕ) → ((a : ℕ) → a < n → v a ≤ u a) → share n g v ≤ share n g u
unfolding share
share_less n g u v less = to_least (λ a. max (v a) (g a)) (λ a. max (u a) (g a)) n (λ a h. let l = less a h in omega arith)

module _ (n : ℕ) (g c : ℕ → ℕ) where
  -- what the rule is there to keep
  pub record Within (u : ℕ → ℕ) : Type 0 where
    pub under : (a : ℕ) → a < n → u a ≤ c a
    pub room : share n g u ≤ places

  pub within_less : (u v : ℕ → ℕ) → ((a : ℕ) → a < n → v a ≤ u a) → Within u → Within v
  within_less u v less w =
      let s = share_less n g u v less in
      let r = w.room in
      record { under = λ a h. let l = less a h in let k = w.under a h in omega arith; room = omega arith }

  module _ (u : ℕ → ℕ) (a : ℕ) where
    -- ---- the rule taken apart: under the ceiling, and under the guarantee or not all shared out
    pub admitted_under : admitted n g c u a ≡ true → u a < c a
    unfolding admitted
    admitted_under e = ltb-true (u a) (c a) (and_left (ltb (u a) (c a)) (ltb (u a) (g a) || sharable n g u) e)

    -- ---- and put together
    -- under its guarantee an access point is always admitted, whatever the others have
    pub guarantee_admits : g a ≤ c a → u a < g a → admitted n g c u a ≡ true
    unfolding admitted
    guarantee_admits h k = rw (lt-ltb (u a) (c a) (omega arith), lt-ltb (u a) (g a) k)

-- nobody has a session: S is what is guaranteed
pub share_fresh : (n : ℕ) (g : ℕ → ℕ) → share n g (λ a. 0) ≡ sum_to g n
unfolding share
share_fresh n g = to_equal (λ a. max 0 (g a)) g n (λ a h. omega arith)

-- ---- access points, each beside its live sessions
abbrev pub shared_with : AccessPoint × ℕ → ℕ
shared_with q = max q.0.guarantee q.1

abbrev pub under_with : AccessPoint × ℕ → Bool
under_with q = leb q.1 q.0.ceiling

-- added and tested side by side they are added and tested party by party
shared_zip : (l : List AccessPoint) (u : List ℕ) → length l ≤ length u
    → sum_of shared_with (zip l u) ≡ sum_to (λ a. max (get_or u a 0) (get_or (map (λ x. x.guarantee) l) a 0)) (length l)
unfolding sum_of
shared_zip [] u h = sym (to_start _)
shared_zip (x ∷ l) [] h = absurd (omega arith)
shared_zip (x ∷ l) (n ∷ u) h =
    let r = shared_zip l u (omega arith) in
    let f = to_front (λ a. max (get_or (n ∷ u) a 0) (get_or (map (λ y. y.guarantee) (x ∷ l)) a 0)) (length l) in
    omega arith

under_zip : (l : List AccessPoint) (u : List ℕ) → length l ≤ length u
    → list_all under_with (zip l u) ≡ all_to (λ a. leb (get_or u a 0) (get_or (map (λ x. x.ceiling) l) a 0)) (length l)
under_zip [] u h = sym (all_start _)
under_zip (x ∷ l) [] h = absurd (omega arith)
under_zip (x ∷ l) (n ∷ u) h =
    rw (all_front (λ a. leb (get_or (n ∷ u) a 0) (get_or (map (λ y. y.ceiling) (x ∷ l)) a 0)) (length l), under_zip l u (omega arith))

module _ (p : Plan) (u : List ℕ) (fit : parties p ≤ length u) where
  pub shared_is : sum_by shared_with (zip (used p) u) ≡ share_of p (λ a. get_or u a 0)
  unfolding share guarantee_at
  shared_is = sum_by_of shared_with (zip (used p) u) ∙ shared_zip (used p) u fit

  pub under_is : list_all under_with (zip (used p) u) ≡ under_ceilings p (λ a. get_or u a 0)
  unfolding ceiling_at
  under_is = under_zip (used p) u fit

-- ---- the rule read off the plan's slots
pub admits_out : (p : Plan) (u : ℕ → ℕ) (a : ℕ) → parties p ≤ a → admits p u a ≡ false
unfolding admitted ceiling_at
admits_out p u a h =
    let e : get_or (map (λ x. x.ceiling) (used p)) a 0 ≡ 0 = get_or-eq_default (map (λ x. x.ceiling) (used p)) 0 (simp length-map h) in
    rw (e, le-ltb (u a) 0 (omega arith))

-- ---- the test of counts, its facts, and how it is made
module _ (p : Plan) (u : ℕ → ℕ) where
  pub within_of_lem : within_ok p u ≡ true → Within (parties p) (guarantee_at p) (ceiling_at p) u
  unfolding within_ok
  within_of_lem e =
      let a : all_to (λ a. leb (u a) (ceiling_at p a)) (parties p) ≡ true = search (and_left, and_right) in
      let r : leb (share_of p u) places ≡ true = search (and_left, and_right) in
      record { under = λ b h. leb-true (u b) (ceiling_at p b) (all_in (λ a. leb (u a) (ceiling_at p a)) (parties p) b a h); room = omega (arith, tests) }

  pub within_to : Within (parties p) (guarantee_at p) (ceiling_at p) u → within_ok p u ≡ true
  unfolding within_ok
  within_to w =
      rw (all_of (λ a. leb (u a) (ceiling_at p a)) (parties p) (λ a h. le-leb (u a) (ceiling_at p a) (w.under a h)))
      (le-leb (share_of p u) places w.room)

  pub within_agree : (v : ℕ → ℕ) → ((a : ℕ) → a < parties p → u a ≡ v a) → within_ok p u ≡ within_ok p v
  unfolding within_ok share
  within_agree v h =
      rw (
        all_agree (λ a. leb (u a) (ceiling_at p a)) (λ a. leb (v a) (ceiling_at p a)) (parties p) (λ a k. rw (h a k)),
        to_equal (λ a. max (u a) (guarantee_at p a)) (λ a. max (v a) (guarantee_at p a)) (parties p) (λ a k. rw (h a k)),
      )

  pub within_and : under_ceilings p u && leb (share_of p u) places ≡ within_ok p u
  unfolding within_ok
  within_and = refl

-- ---- an accepted plan is fair: no guarantee over its ceiling, no ceiling over the places, no more promised than there is
pub record Fair (p : Plan) : Type 0 where
  pub capped : (a : ℕ) → a < parties p → guarantee_at p a ≤ ceiling_at p a
  pub housed : (a : ℕ) → a < parties p → ceiling_at p a ≤ places
  pub kept : sum_to (guarantee_at p) (parties p) ≤ places

figures_of : (x : AccessPoint) → point_ok x ≡ true → (x.guarantee ≤ x.ceiling) × (x.ceiling ≤ places)
unfolding point_ok
figures_of x e =
    let a : leb x.guarantee x.ceiling ≡ true = search (and_left, and_right) in
    let b : leb x.ceiling places ≡ true = search (and_left, and_right) in
    (omega (arith, tests), omega (arith, tests))

pub accepted_fair : (p : Plan) → accepted p ≡ true → Fair p
unfolding accepted guaranteed guarantee_at ceiling_at
accepted_fair p e =
    let o : every point_ok (used p) ≡ true = search (and_left, and_right) in
    let s : leb (sum_of (λ x. x.guarantee) (used p)) places ≡ true = search (and_left, and_right) in
    let t = to_list (λ x. x.guarantee) (used p) (parties p) (omega arith) in
    record {
      capped = λ a h.
          let f = figures_of (get_or (used p) a no_point) (every_in point_ok (used p) a no_point o h) in
          rw (map_at (λ x. x.guarantee) (used p) a no_point 0 h, map_at (λ x. x.ceiling) (used p) a no_point 0 h) f.0;
      housed = λ a h.
          let f = figures_of (get_or (used p) a no_point) (every_in point_ok (used p) a no_point o h) in
          rw (map_at (λ x. x.ceiling) (used p) a no_point 0 h) f.1;
      kept = omega (arith, tests);
    }

-- the counts of a fresh unit are within an accepted plan
pub fresh_within : (p : Plan) → Fair p → Within (parties p) (guarantee_at p) (ceiling_at p) (λ a. 0)
fresh_within p f =
    let k = f.kept in
    record { under = λ a h. omega arith; room = rw (share_fresh (parties p) (guarantee_at p)) k }
