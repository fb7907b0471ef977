-- Text laid into a lent buffer from a place on. What does not fit is cut, and the octets beside it stay as lent; the place behind it
-- is at most the buffer's end. So every writer is total, and pieces written one after another are one text (`laid_on`).
-- Assumes nothing.
use Prim.Native.Nat.{ℕ, zero, suc, ◌+◌, ◌<◌, ◌≤◌, min}
use Rattle.std.specs.Prelude.{◌-◌, List, [], ◌∷◌, ◌++◌, ◌≡◌, refl, take, drop, set}
use Rattle.std.proofs.Common.{ap, add-zero, append-nil, length-append, length-drop, drop_of_length-le}
use native.Mathlib.Omega.{arith}
use Rattle.std.proofs.Math.ListN.{length}
use Rattle.base_octets.specs.Overlay.{overlay, length-overlay}
use Rattle.base_octets.specs.Places.{tail_part}

unfoldable pub lay_at : ℕ → List ℕ → List ℕ → List ℕ
lay_at zero m d = overlay m d
lay_at (suc k) m [] = []
lay_at (suc k) m (y ∷ d) = y ∷ lay_at k m d

-- the place behind what was written, and the buffer
pub record Written : Type 0 where
  pub at : ℕ
  pub out : List ℕ

abbrev pub written : ℕ → List ℕ → Written
written at out = record { at = at; out = out }

unfoldable pub laid : ℕ → List ℕ → List ℕ → Written
laid at m d = written (min (at + length m) (length d)) (lay_at at m d)

pub length_lay : (k : ℕ) (m d : List ℕ) → length (lay_at k m d) ≡ length d
unfolding lay_at
length_lay zero m d = length-overlay m d
length_lay (suc k) m [] = refl
length_lay (suc k) m (y ∷ d) = ap suc (length_lay k m d)

pub lay_none : (k : ℕ) (d : List ℕ) → lay_at k [] d ≡ d
unfolding lay_at overlay
lay_none zero d = refl
lay_none (suc k) [] = refl
lay_none (suc k) (y ∷ d) = ap (λ (l : List ℕ). y ∷ l) (lay_none k d)

-- nothing is laid past the end
lay_past : (k : ℕ) (m d : List ℕ) → length d ≤ k → lay_at k m d ≡ d
unfolding lay_at overlay
lay_past zero [] [] h = refl
lay_past zero (x ∷ m) [] h = refl
lay_past zero m (y ∷ d) h = absurd (omega arith)
lay_past (suc k) m [] h = refl
lay_past (suc k) m (y ∷ d) h = ap (λ (l : List ℕ). y ∷ l) (lay_past k m d (omega arith))

-- a second piece behind the first
over_then : (m k d : List ℕ) → lay_at (min (length m) (length d)) k (overlay m d) ≡ overlay (m ++ k) d
unfolding lay_at overlay
over_then [] k d = let z : min 0 (length d) ≡ 0 = omega arith in rw z
over_then (x ∷ m) k [] = let z : min (suc (length m)) 0 ≡ 0 = omega arith in rw z (lay_past 0 k [] (omega arith))
over_then (x ∷ m) k (y ∷ d) =
    let z : min (suc (length m)) (suc (length d)) ≡ suc (min (length m) (length d)) = omega arith in
    rw z (ap (λ (l : List ℕ). x ∷ l) (over_then m k d))

lay_then : (at : ℕ) (m k d : List ℕ) → lay_at (min (at + length m) (length d)) k (lay_at at m d) ≡ lay_at at (m ++ k) d
unfolding lay_at
lay_then zero m k d = let z : 0 + length m ≡ length m = omega arith in rw z (over_then m k d)
lay_then (suc at) m k [] = let z : min (suc at + length m) 0 ≡ 0 = omega arith in rw z (lay_past 0 k [] (omega arith))
lay_then (suc at) m k (y ∷ d) =
    let z : min (suc at + length m) (suc (length d)) ≡ suc (min (at + length m) (length d)) = omega arith in
    rw z (ap (λ (l : List ℕ). y ∷ l) (lay_then at m k d))

pub laid_on : (at r : ℕ) (m k d o : List ℕ) → written r o ≡ laid at m d → laid r k o ≡ laid at (m ++ k) d
unfolding laid
laid_on at r m k d o e =
    let p : r ≡ min (at + length m) (length d) = ap (λ (w : Written). w.at) e in
    let q : o ≡ lay_at at m d = ap (λ (w : Written). w.out) e in
    let n : min (min (at + length m) (length d) + length k) (length d) ≡ min (at + length (m ++ k)) (length d) = simp length-append (omega arith) in
    rw (p, q, lay_then at m k d, length_lay at m d, n)

pub laid-length : (at r : ℕ) (m d o : List ℕ) → written r o ≡ laid at m d → length o ≡ length d
unfolding laid
laid-length at r m d o e =
    let q : o ≡ lay_at at m d = ap (λ (w : Written). w.out) e in
    rw q (length_lay at m d)

-- the place behind is within the buffer
pub laid_most : (at r : ℕ) (m d o : List ℕ) → written r o ≡ laid at m d → r ≤ length d
unfolding laid
laid_most at r m d o e =
    let p : r ≡ min (at + length m) (length d) = ap (λ (w : Written). w.at) e in
    rw p (omega arith)

-- nothing written
pub laid_none : (at : ℕ) (d : List ℕ) → written (min at (length d)) d ≡ laid at [] d
unfolding laid
laid_none at d = rw (lay_none at d, add-zero at)

pub laid_in : (at : ℕ) (d : List ℕ) → at ≤ length d → written at d ≡ laid at [] d
laid_in at d h = let e : min at (length d) ≡ at = omega arith in rw e at (laid_none at d)

-- one character
set_lay : (at : ℕ) (c : ℕ) (d : List ℕ) → set d at c ≡ lay_at at (c ∷ []) d
unfolding lay_at overlay
set_lay zero c [] = refl
set_lay zero c (y ∷ d) = refl
set_lay (suc at) c [] = refl
set_lay (suc at) c (y ∷ d) = ap (λ (l : List ℕ). y ∷ l) (set_lay at c d)

module _ (at c : ℕ) (d : List ℕ) where
  pub laid_one : at < length d → written (at + 1) (set d at c) ≡ laid at (c ∷ []) d
  unfolding laid
  laid_one h = let n : min (at + 1) (length d) ≡ at + 1 = omega arith in rw (n, set_lay at c d)

  pub laid_out : length d ≤ at → written (length d) d ≡ laid at (c ∷ []) d
  unfolding laid
  laid_out h = let n : min (at + 1) (length d) ≡ length d = omega arith in rw (n, lay_past at (c ∷ []) d h)

-- ---- the text laid over what is behind the place
lay_part : (k : ℕ) (m d : List ℕ) → take (min k (length d)) d ++ overlay m (drop (min k (length d)) d) ≡ lay_at k m d
unfolding lay_at overlay
lay_part zero m d = let z : min 0 (length d) ≡ 0 = omega arith in rw z
lay_part (suc k) [] [] = let z : min (suc k) 0 ≡ 0 = omega arith in rw z
lay_part (suc k) (x ∷ m) [] = let z : min (suc k) 0 ≡ 0 = omega arith in rw z
lay_part (suc k) m (y ∷ d) =
    let z : min (suc k) (suc (length d)) ≡ suc (min k (length d)) = omega arith in
    rw z (ap (λ (l : List ℕ). y ∷ l) (lay_part k m d))

-- `&mut out[n..]` is lent to be written
pub laid_part : (at n r : ℕ) (m d x : List ℕ) → n ≡ min at (length d) → x ≡ overlay m (take (length d - n) (drop n d)) → r ≡ min (length d) (n + length m)
    → written r (take n d ++ (x ++ drop (length d - n) (drop n d))) ≡ laid at m d
unfolding laid
laid_part at n r m d x e f g =
    let p : r ≡ min (at + length m) (length d) = omega arith in
    let l = length-drop n d in
    let y : drop (length d - n) (drop n d) ≡ [] = drop_of_length-le (drop n d) {i = length d - n} (omega arith) in
    rw (p, y, append-nil x, f, tail_part d n, e, lay_part at m d)

-- from the front: text that fits, then the rest as lent
pub laid-front : (m d : List ℕ) → length m ≤ length d → laid 0 m d ≡ written (length m) (overlay m d)
unfolding laid lay_at
laid-front m d h = let n : min (0 + length m) (length d) ≡ length m = omega arith in rw n
