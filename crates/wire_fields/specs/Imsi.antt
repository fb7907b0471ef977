-- An IMSI as a field's value: 8 octets are 16 halves, the low half of each octet first; 15 of them are digits, the sixteenth is F.
-- It is kept as one number, the first digit most significant.
-- Assumes nothing.
use Rattle.std.specs.Prelude.{ℕ, zero, suc, ◌+◌, ◌*◌, ◌/◌, ◌%◌, ◌^◌, ◌<◌, ◌≤◌, Bool, true, false, ◌&&◌, List, [], ◌∷◌, ◌≡◌, refl, take, drop, eqb, ltb, leb, Result, Ok, Err}
use Rattle.std.proofs.Common.{sym, ◌∙◌, mul_assoc, add-one, length-take, le-ltb, lt-ltb, ltb-false, leb-true}
use Rattle.std.proofs.Math.Nat.{pow-succ'}
use native.Mathlib.Omega.{arith}
use Rattle.std.proofs.Math.ListN.{length, get_or, drop_of_length-le}
use Rattle.base_octets.specs.Choice.{pick, split, and_left, and_right}
use Rattle.base_octets.specs.Every.{every}
use Rattle.base_octets.specs.Places.{next_of}
use Rattle.wire_fields.specs.declared.Flaw.{Flaw}
use Rattle.wire_fields.specs.declared.Flaw.TheVariants.{Short, Wrong}

unfoldable pub imsi_size : ℕ
imsi_size = 8

-- what an IMSI is below: 10 to the 15th
abbrev pub imsi_limit : ℕ
imsi_limit = 1000000000000000

unfoldable pub halves : List ℕ → List ℕ
halves [] = []
halves (x ∷ l) = x % 16 ∷ x / 16 ∷ halves l

-- all but the last, and the last
unfoldable pub front : List ℕ → List ℕ
front [] = []
front (x ∷ []) = []
front (x ∷ y ∷ l) = x ∷ front (y ∷ l)

unfoldable pub last_of : List ℕ → ℕ
last_of [] = 0
last_of (x ∷ []) = x
last_of (x ∷ y ∷ l) = last_of (y ∷ l)

unfoldable pub is_half : ℕ → Bool
is_half x = leb x 9

-- the number that digits write, behind what was read before
unfoldable pub decimal_from : ℕ → List ℕ → ℕ
decimal_from n [] = n
decimal_from n (x ∷ l) = decimal_from (n * 10 + x) l

-- halves that are left, behind what was read before: digits but for the last, and that is F
unfoldable pub digits_from : ℕ → List ℕ → Result ℕ Flaw
digits_from n h = pick (every is_half (front h) && eqb (last_of h) 15) (Ok (decimal_from n (front h))) (Err Wrong)

-- octets past the eighth are ignored
unfoldable pub imsi_of : List ℕ → Result ℕ Flaw
imsi_of v = pick (ltb (length v) imsi_size) (Err Short) (digits_from 0 (halves (take imsi_size v)))

-- ---- octet i, behind n that was read before
module _ (v : List ℕ) (i n : ℕ) where
  pub digits_on : i + 1 < length v → (is_half (get_or v i 0 % 16) && is_half (get_or v i 0 / 16)) ≡ true
      → digits_from n (halves (drop i v)) ≡ digits_from (n * 100 + (get_or v i 0 % 16 * 10 + get_or v i 0 / 16)) (halves (drop (i + 1) v))
  unfolding digits_from halves front last_of every decimal_from
  digits_on h e =
      let a = and_left (is_half (get_or v i 0 % 16)) (is_half (get_or v i 0 / 16)) e in
      let b = and_right (is_half (get_or v i 0 % 16)) (is_half (get_or v i 0 / 16)) e in
      let k : (n * 10 + get_or v i 0 % 16) * 10 + get_or v i 0 / 16 ≡ n * 100 + (get_or v i 0 % 16 * 10 + get_or v i 0 / 16) = omega arith in
      rw (next_of v i 0 (omega arith), next_of v (i + 1) 0 h, a, b, ← k)

  pub digits_off : i + 1 < length v → (is_half (get_or v i 0 % 16) && is_half (get_or v i 0 / 16)) ≡ false → digits_from n (halves (drop i v)) ≡ Err Wrong
  unfolding digits_from halves front last_of every
  digits_off h e =
      rw (next_of v i 0 (omega arith), next_of v (i + 1) 0 h)
      (split (is_half (get_or v i 0 % 16)) (λ a. let b = rw a at e in rw (a, b)) (λ a. rw a))

  pub digits_end : i + 1 ≡ length v → digits_from n (halves (drop i v))
      ≡ pick (is_half (get_or v i 0 % 16) && eqb (get_or v i 0 / 16) 15) (Ok (n * 10 + get_or v i 0 % 16)) (Err Wrong)
  unfolding digits_from halves front last_of every decimal_from
  digits_end h =
      let k : length v ≤ i + 1 = omega arith in
      rw (next_of v i 0 (omega arith), drop_of_length-le v k)
      (split (is_half (get_or v i 0 % 16)) (λ a. rw a) (λ a. rw a))

-- 100 to the i-th: what i pairs of digits are below
unfoldable pub hundreds : ℕ → ℕ
hundreds zero = 1
hundreds (suc i) = hundreds i * 100

pub hundreds_start : hundreds 0 ≡ 1
unfolding hundreds
hundreds_start = refl

pub hundreds_next : (i : ℕ) → hundreds (i + 1) ≡ hundreds i * 100
unfolding hundreds
hundreds_next i = rw add-one

pub hundreds_most : (i : ℕ) → i ≤ 7 → hundreds i ≤ 100000000000000
unfolding hundreds
hundreds_most zero h = omega arith
hundreds_most (suc zero) h = omega arith
hundreds_most (suc (suc zero)) h = omega arith
hundreds_most (suc (suc (suc zero))) h = omega arith
hundreds_most (suc (suc (suc (suc zero)))) h = omega arith
hundreds_most (suc (suc (suc (suc (suc zero))))) h = omega arith
hundreds_most (suc (suc (suc (suc (suc (suc zero)))))) h = omega arith
hundreds_most (suc (suc (suc (suc (suc (suc (suc zero))))))) h = omega arith
hundreds_most (suc (suc (suc (suc (suc (suc (suc (suc i)))))))) h = absurd (omega arith)

-- ---- the size test
module _ (v : List ℕ) where
  pub imsi-short : length v < 8 → imsi_of v ≡ Err Short
  unfolding imsi_of imsi_size
  imsi-short h = rw (lt-ltb _ _ h)

  pub imsi_long : 8 ≤ length v → imsi_of v ≡ digits_from 0 (halves (take 8 v))
  unfolding imsi_of imsi_size
  imsi_long h = rw (le-ltb _ _ h)

-- ---- what was read is below the limit
never : {A : Type 0} → ◌≡◌ {A = ℕ} 0 1 → A
never z = absurd (omega arith)

decimal_below : (l : List ℕ) (n b : ℕ) → every is_half l ≡ true → n < b → decimal_from n l < b * 10 ^ length l
unfolding decimal_from every is_half
decimal_below [] n b e h = omega arith
decimal_below (x ∷ l) n b e h =
    let d = leb-true x 9 (and_left (is_half x) (every is_half l) e) in
    let r = decimal_below l (n * 10 + x) (b * 10) (and_right (is_half x) (every is_half l) e) (omega arith) in
    let p : b * 10 ^ length (x ∷ l) ≡ b * 10 * 10 ^ length l = rw (pow-succ' 10 (length l)) (sym (mul_assoc b 10 (10 ^ length l))) in
    rw p r

halves-length : (l : List ℕ) → length (halves l) ≡ length l * 2
unfolding halves
halves-length [] = refl
halves-length (x ∷ l) = let r = halves-length l in omega arith

front_length : (x : ℕ) (l : List ℕ) → length (front (x ∷ l)) ≡ length l
unfolding front
front_length x [] = refl
front_length x (y ∷ l) = let r = front_length y l in omega arith

fifteen : (h : List ℕ) → length h ≡ 16 → length (front h) ≡ 15
fifteen [] e = absurd (omega arith)
fifteen (x ∷ h) e = let r = front_length x h in omega arith

-- fifteen digits write a number below 10 to the 15th
digits_below : (h : List ℕ) (x : ℕ) → length h ≡ 16 → digits_from 0 h ≡ Ok x → x < imsi_limit
unfolding digits_from
digits_below h x l e = split (every is_half (front h) && eqb (last_of h) 15) good bad
  where
    good : (every is_half (front h) && eqb (last_of h) 15) ≡ true → x < imsi_limit
    good t =
        let g : Ok (decimal_from 0 (front h)) ≡ Ok x = rw t at e in
        let k : decimal_from 0 (front h) ≡ x = cc in
        let b = rw (fifteen h l) at (decimal_below (front h) 0 1 (and_left (every is_half (front h)) (eqb (last_of h) 15) t) (omega arith)) in
        omega arith

    bad : (every is_half (front h) && eqb (last_of h) 15) ≡ false → x < imsi_limit
    bad t = let g : Err Wrong ≡ Ok x = rw t at e in never (cc)

pub imsi_below : (v : List ℕ) (x : ℕ) → imsi_of v ≡ Ok x → x < imsi_limit
unfolding imsi_of imsi_size
imsi_below v x e = split (ltb (length v) 8) short long
  where
    short : ltb (length v) 8 ≡ true → x < imsi_limit
    short t = let g : Err Short ≡ Ok x = rw t at e in never (cc)

    long : ltb (length v) 8 ≡ false → x < imsi_limit
    long t =
        let g : digits_from 0 (halves (take 8 v)) ≡ Ok x = rw t at e in
        let h = ltb-false (length v) 8 t in
        let l : length (halves (take 8 v)) ≡ 16 = halves-length (take 8 v) ∙ simp length-take (omega arith) in
        digits_below (halves (take 8 v)) x l g
