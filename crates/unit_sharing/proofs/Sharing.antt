-- The laws of the sharing rule that rest on what it is that not all places are shared out; specs/Sharing.antt has the rule and its other laws.
-- Assumes nothing.
use Prim.Native.Nat.{ℕ, ◌+◌, ◌<◌, ◌≤◌, max}
use Rattle.std.specs.Prelude.{◌&&◌, ◌||◌, ◌≡◌, get_or, eqb, ltb}
use Rattle.std.proofs.Math.Bool.{true}
use native.Mathlib.Omega.{arith}
use borrow.Author.Tests.{lt-ltb, ltb-true, eqb-true}
use mir.Val.{bool_byte}
use Rattle.base_octets.specs.Choice.{split, or_split, or_true, and_right, tests}
use Rattle.base_octets.specs.Below.{sum_to, to_least, to_more, to_fewer}
use Rattle.unit_tunnel.specs.Numbering.{places}
use Rattle.unit_plan.specs.declared.AccessPoint.{AccessPoint}
use Rattle.unit_plan.specs.declared.Plan.{Plan}
use Rattle.unit_plan.specs.Limits.{parties, used_figure}
use Rattle.unit_sharing.specs.Sharing.{share, sharable, admitted, guarantee_at, ceiling_at, share_of, admits, share_less, Within, admitted_under}

module _ (n : ℕ) (g u : ℕ → ℕ) where
  pub sharable_some : sharable n g u ≡ true → share n g u < places
  unfolding sharable
  sharable_some e = omega (arith, tests)

  pub some_sharable : share n g u < places → sharable n g u ≡ true
  unfolding sharable
  some_sharable h = lt-ltb (share n g u) places h

module _ (n : ℕ) (g c : ℕ → ℕ) where
  -- ---- the rule taken apart and put together
  module _ (u : ℕ → ℕ) (a : ℕ) where
    pub admitted_how : {A : Type 0} → admitted n g c u a ≡ true → (u a < g a → A) → (share n g u < places → A) → A
    unfolding admitted
    admitted_how e under some =
        or_split (ltb (u a) (g a)) (sharable n g u) (and_right (ltb (u a) (c a)) (ltb (u a) (g a) || sharable n g u) e)
        (λ q. under (ltb-true (u a) (g a) q)) (λ q. some (sharable_some n g u q))

    pub sharable-admits : u a < c a → share n g u < places → admitted n g c u a ≡ true
    unfolding admitted
    sharable-admits h k = rw (lt-ltb (u a) (c a) h, some_sharable n g u k) (or_true (ltb (u a) (g a)))

  -- one less never makes an admitted one refused
  pub admitted_less : (u v : ℕ → ℕ) → ((b : ℕ) → b < n → v b ≤ u b) → (a : ℕ) → a < n → admitted n g c u a ≡ true → admitted n g c v a ≡ true
  unfolding admitted
  admitted_less u v less a h e =
      let l = less a h in
      let t = admitted_under n g c u a e in
      let s = share_less n g u v less in
      admitted_how u a e
      (λ k. rw (lt-ltb (v a) (c a) (omega arith), lt-ltb (v a) (g a) (omega arith)))
      (λ k. sharable-admits v a (omega arith) (omega arith))

  module _ (u : ℕ → ℕ) (a : ℕ) where
    module _ (h : a < n) (w : Within n g c u) (e : admitted n g c u a ≡ true) where
      -- the counts with one more session of the access point: their S is still at most `places`
      pub admitted-share : (v : ℕ → ℕ) → ((b : ℕ) → b < n → v b ≤ u b + bool_byte (eqb a b)) → share n g v ≤ places
      unfolding share
      admitted-share v more = admitted_how u a e
          (λ k. let r = w.room in
          let s = to_least (λ b. max (v b) (g b)) (λ b. max (u b) (g b)) n
          (λ b q. let m = more b q in
          split (eqb a b)
          (λ t. let f = rw t at m in let x = eqb-true a b t in let k' : u b < g b = rw (← x) k in omega arith)
          (λ t. let f = rw t at m in omega arith)) in
          omega arith)
          (λ k. let s = to_more (λ b. max (v b) (g b)) (λ b. max (u b) (g b)) n a (λ b q. let m = more b q in omega arith) in omega arith)

      -- and every rule of the counts is kept
      pub admitted-keeps : (v : ℕ → ℕ) → ((b : ℕ) → b < n → v b ≤ u b + bool_byte (eqb a b)) → Within n g c v
      admitted-keeps v more = record {
        under = λ b q. let m = more b q in let k = w.under b q in
            split (eqb a b)
            (λ t. let f = rw t at m in let x = eqb-true a b t in let y : u b < c b = rw (← x) (admitted_under n g c u a e) in omega arith)
            (λ t. let f = rw t at m in omega arith);
        room = admitted-share v more;
      }

      -- the sessions are fewer than the places, so that one is free
      pub admitted-room : sum_to u n < places
      unfolding share
      admitted-room =
          let r = w.room in
          admitted_how u a e
          (λ k. let s = to_fewer u (λ b. max (u b) (g b)) n a h
          (λ b q. split (eqb a b)
          (λ t. let x = eqb-true a b t in let k' : u b < g b = rw (← x) k in rw t (omega arith))
          (λ t. rw t (omega arith))) in
          omega arith)
          (λ k. let s = to_least u (λ b. max (u b) (g b)) n (λ b q. omega arith) in omega arith)

-- ---- the rule read off the plan's slots
pub admits-at : (p : Plan) (u : ℕ → ℕ) (a : ℕ) (d : AccessPoint) → a < parties p
    → (ltb (u a) (get_or p.points a d).ceiling && (ltb (u a) (get_or p.points a d).guarantee || ltb (share_of p u) places)) ≡ admits p u a
unfolding admitted sharable guarantee_at ceiling_at
admits-at p u a d h = rw (used_figure p a d h (λ x. x.guarantee), used_figure p a d h (λ x. x.ceiling))
