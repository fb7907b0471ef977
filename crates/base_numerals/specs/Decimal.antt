-- Decimal text: a number with zeros in front up to a width, and the number of at most 255 that digits write. What is written reads
-- back, for every width and every number of digits.
-- Assumes nothing.
use Rattle.std.specs.Prelude.{ℕ, zero, suc, ◌+◌, ◌*◌, ◌-◌, ◌/◌, ◌%◌, ◌^◌, ◌<◌, ◌≤◌, Bool, true, false, ◌&&◌, ◌||◌, List, [], ◌∷◌, ◌++◌, ◌≡◌, refl, length, drop, get_or, eqb, ltb, leb, Option, Some, None}
use Rattle.std.proofs.Common.{sym, ◌∙◌, pow-suc, arith, drop_of_length-le, length-append}
use borrow.Author.Tests.{leb-false, le-ltb, le-leb, lt-leb}
use Rattle.base_octets.specs.Choice.{pick, split, impossible, and_no}
use Rattle.base_octets.specs.Every.{every, every_stop}
use Rattle.base_octets.specs.Places.{next_of}

-- the last digits of n, at most k of them and at least w
unfoldable pub digits : ℕ → ℕ → ℕ → List ℕ
digits zero w n = []
digits (suc k) w n = pick (leb 10 n || ltb 1 w) (digits k (w - 1) (n / 10) ++ ((48 + n % 10) ∷ [])) ((48 + n % 10) ∷ [])

-- 20 digits write every number of 64 bits
unfoldable pub decimal : ℕ → ℕ → List ℕ
decimal w n = digits 20 w n

-- ---- laws of the writer
pub digits_none : (w n : ℕ) → digits 0 w n ≡ []
unfolding digits
digits_none w n = refl

pub digits_more : (k w n : ℕ) → 0 < k → (leb 10 n || ltb 1 w) ≡ true → digits k w n ≡ digits (k - 1) (w - 1) (n / 10) ++ ((48 + n % 10) ∷ [])
unfolding digits
digits_more zero w n h e = absurd (omega arith)
digits_more (suc k) w n h e = let z : suc k - 1 ≡ k = omega arith in rw (z, e)

pub digits_last : (k w n : ℕ) → 0 < k → (leb 10 n || ltb 1 w) ≡ false → digits k w n ≡ (48 + n % 10) ∷ []
unfolding digits
digits_last zero w n h e = absurd (omega arith)
digits_last (suc k) w n h e = rw e

-- a number below 10 to the m takes m digits at most
pub digits_size : (k w n m : ℕ) → w ≤ suc m → n < 10 ^ suc m → length (digits k w n) ≤ suc m
unfolding digits
digits_size zero w n m h g = omega arith
digits_size (suc k) w n zero h g =
    let p = pow-suc 10 0 in
    rw (lt-leb 10 n (omega arith), le-ltb 1 w (omega arith)) (omega arith)
digits_size (suc k) w n (suc m) h g =
    let p = pow-suc 10 (suc m) in
    let r = digits_size k (w - 1) (n / 10) m (omega arith) (omega arith) in
    split (leb 10 n || ltb 1 w) (λ e. rw e (simp length-append (omega arith))) (λ e. rw e (omega arith))

pub decimal_size : (w n m : ℕ) → w ≤ suc m → n < 10 ^ suc m → length (decimal w n) ≤ suc m
unfolding decimal
decimal_size w n m h g = digits_size 20 w n m h g

-- ---- reading
unfoldable pub is_digit : ℕ → Bool
is_digit c = leb 48 c && leb c 57

-- the number that digits write, behind what was read before
unfoldable pub value_from : ℕ → List ℕ → ℕ
value_from n [] = n
value_from n (c ∷ l) = value_from (n * 10 + (c - 48)) l

unfoldable pub value_of : List ℕ → ℕ
value_of l = value_from 0 l

unfoldable pub read_from : ℕ → List ℕ → Option ℕ
read_from n l = pick (every is_digit l && leb (value_from n l) 255) (Some (value_from n l)) None

-- digits, one or more, and the number at most 255
unfoldable pub number_in : List ℕ → Option ℕ
number_in l = pick (eqb (length l) 0) None (read_from 0 l)

-- ---- laws of the reading loop, which has come to place i with n read
value_most : (n : ℕ) (l : List ℕ) → n ≤ value_from n l
unfolding value_from
value_most n [] = omega arith
value_most n (c ∷ l) = let r = value_most (n * 10 + (c - 48)) l in omega arith

over : (n : ℕ) (l : List ℕ) → 255 < n → read_from n l ≡ None
unfolding read_from
over n l h = let a = value_most n l in rw (lt-leb (value_from n l) 255 (omega arith), and_no (every is_digit l))

next_digit : (n c : ℕ) (l : List ℕ) → is_digit c ≡ true → read_from n (c ∷ l) ≡ read_from (n * 10 + (c - 48)) l
unfolding read_from every value_from
next_digit n c l e = rw e

module _ (l : List ℕ) (i n : ℕ) (d : ℕ) (h : i < length l) where
  pub read_stop : is_digit (get_or l i d) ≡ false → read_from n (drop i l) ≡ None
  unfolding read_from
  read_stop e = rw (every_stop l i is_digit d h e)

  module _ (e : is_digit (get_or l i d) ≡ true) where
    pub read_on : read_from n (drop i l) ≡ read_from (n * 10 + (get_or l i d - 48)) (drop (i + 1) l)
    read_on = rw (next_of l i d h) (next_digit n (get_or l i d) (drop (i + 1) l) e)

    pub read_over : 255 < n * 10 + (get_or l i d - 48) → read_from n (drop i l) ≡ None
    read_over g = read_on ∙ over (n * 10 + (get_or l i d - 48)) (drop (i + 1) l) g

pub read_end : (l : List ℕ) (i n : ℕ) → length l ≤ i → n ≤ 255 → read_from n (drop i l) ≡ Some n
unfolding read_from every value_from
read_end l i n h g = rw (drop_of_length-le l, le-leb n 255 g)

-- ---- the round trip
value_last : (n : ℕ) (l : List ℕ) (c : ℕ) → value_from n (l ++ (c ∷ [])) ≡ value_from n l * 10 + (c - 48)
unfolding value_from
value_last n [] c = refl
value_last n (x ∷ l) c = value_last (n * 10 + (x - 48)) l c

pub digits-back : (k w n : ℕ) → n < 10 ^ k → value_of (digits k w n) ≡ n
unfolding digits value_of value_from
digits-back zero w n h = omega arith
digits-back (suc k) w n h =
    let p = pow-suc 10 k in
    let r = digits-back k (w - 1) (n / 10) (omega arith) in
    let s = value_last 0 (digits k (w - 1) (n / 10)) (48 + n % 10) in
    split (leb 10 n || ltb 1 w) (λ e. rw e (omega arith))
    (λ e. rw e (split (leb 10 n) (λ f. impossible (sym (rw f at e))) (λ f. let b = leb-false 10 n f in omega arith)))

pub decimal-back : (w n : ℕ) → n < 10 ^ 20 → value_of (decimal w n) ≡ n
unfolding decimal
decimal-back w n h = digits-back 20 w n h
