-- A message laid over the front of a lent buffer: the octets past it stay as lent.
-- Assumes nothing.
use Rattle.std.specs.Prelude.{ℕ, zero, suc, ◌+◌, ◌-◌, ◌<◌, ◌≤◌, min, List, [], ◌∷◌, ◌++◌, ◌≡◌, refl, length, take, drop, get_or, set}
use Rattle.std.proofs.Common.{append-nil, ap, add-one, arith, length-drop, drop_of_length-le, take_all}

-- a buffer that is shorter takes what it can; none of ours is
unfoldable pub overlay : List ℕ → List ℕ → List ℕ
overlay [] d = d
overlay (x ∷ m) [] = []
overlay (x ∷ m) (y ∷ d) = x ∷ overlay m d

-- what a writer of a message does: the message is laid over the front of the buffer, and its length is answered
pub record Wrote (size : ℕ) (after before m : List ℕ) : Type 0 where
  pub length : size ≡ length m
  pub octets : after ≡ overlay m before

pub overlay-fits : (m d : List ℕ) → length m ≤ length d → overlay m d ≡ m ++ drop (length m) d
unfolding overlay
overlay-fits [] d h = refl
overlay-fits (x ∷ m) [] h = absurd (omega arith)
overlay-fits (x ∷ m) (y ∷ d) h = ap (λ (l : List ℕ). x ∷ l) (overlay-fits m d (omega arith))

pub length-overlay : (m d : List ℕ) → length (overlay m d) ≡ length d
unfolding overlay
length-overlay [] d = refl
length-overlay (x ∷ m) [] = refl
length-overlay (x ∷ m) (y ∷ d) = ap suc (length-overlay m d)

-- ---- a message in two parts: the first is laid over the front of the buffer, the second over what is behind it, if anything is
behind : (a b d : List ℕ) → length a ≤ length d → take (length a) (overlay a d) ++ overlay b (drop (length a) (overlay a d)) ≡ overlay (a ++ b) d
unfolding overlay
behind [] b d h = refl
behind (x ∷ a) b [] h = absurd (omega arith)
behind (x ∷ a) b (y ∷ d) h = ap (λ (l : List ℕ). x ∷ l) (behind a b d (omega arith))

-- the buffer x has the first part, and its end becomes y
pub overlay-two : (a b d x y : List ℕ) → x ≡ overlay a d → length a ≤ length x → y ≡ overlay b (take (length x - length a) (drop (length a) x))
    → take (length a) x ++ (y ++ drop (length x - length a) (drop (length a) x)) ≡ overlay (a ++ b) d
overlay-two a b d x y e h f =
    let n = length-drop (length a) x in
    let t : take (length x - length a) (drop (length a) x) ≡ drop (length a) x = take_all (length x - length a) (drop (length a) x) (omega arith) in
    let z : drop (length x - length a) (drop (length a) x) ≡ [] = drop_of_length-le (drop (length a) x) {i = length x - length a} (omega arith) in
    let k = rw e at h in
    rw (z, append-nil y, f, t, e) (behind a b d (simp length-overlay at k))

pub overlay_full : (a b d : List ℕ) → length d < length a → overlay a d ≡ overlay (a ++ b) d
unfolding overlay
overlay_full [] b d h = absurd (omega arith)
overlay_full (x ∷ a) b [] h = refl
overlay_full (x ∷ a) b (y ∷ d) h = ap (λ (l : List ℕ). x ∷ l) (overlay_full a b d (omega arith))

-- ---- the copy of as many octets as both have
copied : (m d : List ℕ) → take (min (length m) (length d)) m ++ drop (min (length m) (length d)) d ≡ overlay m d
unfolding overlay
copied [] d = let z : min 0 (length d) ≡ 0 = omega arith in rw z
copied (x ∷ m) [] = let z : min (suc (length m)) 0 ≡ 0 = omega arith in rw z
copied (x ∷ m) (y ∷ d) =
    let z : min (suc (length m)) (suc (length d)) ≡ suc (min (length m) (length d)) = omega arith in
    rw z (ap (λ (l : List ℕ). x ∷ l) (copied m d))

pub overlay_copied : (m d c : List ℕ) (n : ℕ) → n ≡ min (length m) (length d) → c ≡ take n m → c ++ drop n d ≡ overlay m d
overlay_copied m d c n e f = rw (f, e) (copied m d)

-- ---- the copying loop that has come to place i
pub overlay_none : (m d : List ℕ) → overlay (take 0 m) d ≡ d
unfolding overlay
overlay_none m d = refl

laid : (m d : List ℕ) (i : ℕ) → i < length m → set (overlay (take i m) d) i (get_or m i 0) ≡ overlay (take (suc i) m) d
unfolding overlay
laid [] d i h = absurd (omega arith)
laid (x ∷ m) [] zero h = refl
laid (x ∷ m) (y ∷ d) zero h = refl
laid (x ∷ m) [] (suc i) h = refl
laid (x ∷ m) (y ∷ d) (suc i) h = ap (λ (l : List ℕ). x ∷ l) (laid m d i (omega arith))

pub overlay-step : (m d : List ℕ) (i : ℕ) → i < length m → set (overlay (take i m) d) i (get_or m i 0) ≡ overlay (take (i + 1) m) d
overlay-step m d i h = rw add-one (laid m d i h)

-- done with the message, or with the buffer
pub overlay-done : (m d : List ℕ) (i : ℕ) → min (length m) (length d) ≤ i → overlay (take i m) d ≡ overlay m d
unfolding overlay
overlay-done [] d zero h = refl
overlay-done [] d (suc i) h = refl
overlay-done (x ∷ m) [] zero h = refl
overlay-done (x ∷ m) [] (suc i) h = refl
overlay-done (x ∷ m) (y ∷ d) zero h = absurd (omega arith)
overlay-done (x ∷ m) (y ∷ d) (suc i) h = ap (λ (l : List ℕ). x ∷ l) (overlay-done m d i (omega arith))
