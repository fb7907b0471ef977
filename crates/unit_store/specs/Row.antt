-- One row of the store: a kept reply, or an unused place. Every definition answers for any octets and any length.
-- Assumes nothing.
use Rattle.std.specs.Prelude.{◌≡◌, ℕ, ◌+◌, ◌-◌, ◌*◌, ◌/◌, ◌%◌, ◌<◌, ◌≤◌, min, Bool, true, false, not, ◌&&◌, ◌||◌, leb, ◌≢◌, List, [], ◌∷◌, ◌++◌, length, take, drop, replicate, ◌==◌, nat_eq, nat_le, nat_lt, slice_index, slice_index_or, slice_set, refl}
use Rattle.std.proofs.Common.{append-nil, sym, ◌∙◌, ap, length-drop, length-take-le, take_all, take_at, drop_at}
use native.Mathlib.Omega.{arith}
use Rattle.std.proofs.Math.ListN.{get_or-eq_default}
use Rattle.std.proofs.Math.Seq.{set_out, get_or-set_same, get_or-set_other, drop-set-lt}
use mir.Val.{bool_byte}
use borrow.Author.Tests.{eqb-true, eq-eqb, ne_eqb, ltb-true, ltb-false, le-leb}
use Rattle.base_octets.specs.Choice.{pick, split, and_left, and_right, or_split, impossible, tests}
use Rattle.base_octets.specs.Number.{taken}
use Rattle.wire_messages.specs.Types.{modify_type, delete_type}
use Rattle.wire_fields.specs.Refusal.{not_live_cause, short_cause, wrong_cause, missing_cause}
use Rattle.base_octets.specs.BigEndian.{number_of, number_from, octets_of}
use Rattle.base_distinct.specs.Apart.{same_key}
use Rattle.base_octets.specs.Overlay.{overlay, overlay-fits}

-- ---- what a store and a row of it measure
-- how many replies are kept
abbrev pub store_rows : ℕ
store_rows = 32

-- the octets of a row, of which so many stand before the reply
abbrev pub row_octets : ℕ
row_octets = 139

abbrev pub before_reply : ℕ
before_reply = 11

-- the longest reply that is kept
abbrev pub longest_reply : ℕ
longest_reply = 128

-- the ticks that a reply is kept: the last of them drops it
abbrev pub full_life : ℕ
full_life = 10

-- ---- what stands where
unfoldable pub type_in : List ℕ → ℕ
type_in r = slice_index r 0

unfoldable pub life_in : List ℕ → ℕ
life_in r = slice_index r 8

unfoldable pub number_in : List ℕ → ℕ
number_in r = slice_index r 9

unfoldable pub size_in : List ℕ → ℕ
size_in r = slice_index r 10

-- the kept reply, octet for octet
unfoldable pub octets_in : List ℕ → List ℕ
octets_in r = take (size_in r) (drop before_reply r)

-- type (8 bits), sequence number (24) and header TEID (32) as one number: two requests are equal in the three exactly where these are
-- (`three_apart`)
unfoldable pub head_of : ℕ → ℕ → ℕ
head_of type sequence = type * 16777216 + sequence % 16777216

unfoldable pub three_of : ℕ → ℕ → ℕ
three_of head teid = head * 4294967296 + teid

unfoldable pub three_in : List ℕ → ℕ
three_in r =
    three_of (number_of (slice_index r 0 ∷ slice_index r 1 ∷ slice_index r 2 ∷ slice_index r 3 ∷ []))
    (number_of (slice_index r 4 ∷ slice_index r 5 ∷ slice_index r 6 ∷ slice_index r 7 ∷ []))

-- ---- a row is unused, or holds the reply to a request
unfoldable pub is_unused : List ℕ → Bool
is_unused r = life_in r == 0

unfoldable pub holds : ℕ → List ℕ → Bool
holds three r = not (is_unused r) && three == three_in r

-- ---- the rules of one row
-- the numbers that types 34 and 36 are answered with
unfoldable pub number_ok : ℕ → Bool
number_ok n = n == taken || n == not_live_cause || n == short_cause || n == wrong_cause || n == missing_cause

unfoldable pub type_ok : ℕ → Bool
type_ok n = n == modify_type || n == delete_type

unfoldable pub reply_ok : List ℕ → Bool
reply_ok r = nat_le (life_in r) full_life && nat_le (size_in r) longest_reply && type_ok (type_in r) && number_ok (number_in r)

unfoldable pub kept_ok : List ℕ → Bool
kept_ok r = is_unused r || reply_ok r

-- ---- a tick takes one from the life, a restart of the exchange all
unfoldable pub life_after : Bool → ℕ → ℕ
life_after all life = pick {A = ℕ} all 0 (life - 1)

unfoldable pub life_taken : Bool → List ℕ → List ℕ
life_taken all r = slice_set r 8 (life_after all (life_in r))

-- ---- a row of zeros, which is unused
unfoldable pub blank_row : List ℕ
blank_row = replicate row_octets 0

unfoldable pub blanked : List ℕ → List ℕ
blanked r = blank_row

-- ---- a row made: a life of 10
-- the first eleven octets
unfoldable pub front_of : ℕ → ℕ → ℕ → ℕ → List ℕ
front_of head teid number size = octets_of 4 head ++ octets_of 4 teid ++ (full_life ∷ number ∷ size ∷ [])

-- and behind them the reply, with zeros up to the row's end
unfoldable pub row_of : ℕ → ℕ → ℕ → ℕ → List ℕ → List ℕ
row_of head teid number size reply = front_of head teid number size ++ overlay (take size reply) (replicate longest_reply 0)

-- ---- a row in one number, by which the rules are checked
-- the three scattered: TEID and sequence number both move the lower half, by which keys have their slots
unfoldable pub scattered : ℕ → ℕ
scattered three = three + three / 4294967296

-- what the type counts in it
abbrev pub type_unit : ℕ
type_unit = 72057594054705152

unfoldable pub mark_in : List ℕ → ℕ
mark_in r = pick {A = ℕ} (is_unused r) 0 (pick {A = ℕ} (reply_ok r) (scattered (three_in r)) 1)

-- ---- laws: the three as one number
pub record Equal (k j s u t v : ℕ) : Type 0 where
  pub type : k ≡ j
  pub sequence : s ≡ u
  pub teid : t ≡ v

pub three_apart : (k j s u t v : ℕ) → s < 16777216 → u < 16777216 → t < 4294967296 → v < 4294967296
    → three_of (head_of k s) t ≡ three_of (head_of j u) v → Equal k j s u t v
unfolding three_of head_of
three_apart k j s u t v a b c d e =
    let x : s % 16777216 ≡ s = omega arith in
    let y : u % 16777216 ≡ u = omega arith in
    record { type = omega arith; sequence = omega arith; teid = omega arith }

-- ---- laws: a life taken, and all else as it was
module _ (all : Bool) where
  pub after_none : life_after all 0 ≡ 0
  unfolding life_after
  after_none = split all (λ e. rw e) (λ e. rw e)

  pub after_most : (n : ℕ) → life_after all n ≤ n - 1
  unfolding life_after
  after_most n = split all (λ e. rw e (omega arith)) (λ e. rw e (omega arith))

  module _ (r : List ℕ) where
    pub other_taken : (i : ℕ) → i ≢ 8 → slice_index (life_taken all r) i ≡ slice_index r i
    unfolding life_taken
    other_taken i h = get_or-set_other r 8 i (life_after all (life_in r)) 0 h

    pub life_taken_lem : life_in (life_taken all r) ≡ life_after all (life_in r)
    unfolding life_taken life_in
    life_taken_lem =
        split (nat_lt 8 (length r))
        (λ e. get_or-set_same r 8 (life_after all (slice_index r 8)) 0 (ltb-true 8 (length r) e))
        (λ e. let h = ltb-false 8 (length r) e in
        let z : slice_index_or r 8 0 ≡ 0 = get_or-eq_default r 0 h in
        rw (set_out r 8 (life_after all (slice_index r 8)) h, z, after_none))

    pub three_taken : three_in (life_taken all r) ≡ three_in r
    unfolding three_in
    three_taken =
        rw (
          other_taken 0 (λ e. omega arith),
          other_taken 1 (λ e. omega arith),
          other_taken 2 (λ e. omega arith),
          other_taken 3 (λ e. omega arith),
          other_taken 4 (λ e. omega arith),
          other_taken 5 (λ e. omega arith),
          other_taken 6 (λ e. omega arith),
          other_taken 7 (λ e. omega arith),
        )

    pub type_taken_lem : type_in (life_taken all r) ≡ type_in r
    unfolding type_in
    type_taken_lem = other_taken 0 (λ e. omega arith)

    pub number_taken : number_in (life_taken all r) ≡ number_in r
    unfolding number_in
    number_taken = other_taken 9 (λ e. omega arith)

    pub size_taken : size_in (life_taken all r) ≡ size_in r
    unfolding size_in
    size_taken = other_taken 10 (λ e. omega arith)

    rest_taken : drop 11 (life_taken all r) ≡ drop 11 r
    unfolding life_taken
    rest_taken = drop-set-lt 11 r 8 (life_after all (life_in r)) (omega arith)

    pub octets_taken : octets_in (life_taken all r) ≡ octets_in r
    unfolding octets_in
    octets_taken = rw size_taken (ap (take (size_in r)) rest_taken)

    -- who is unused stays so
    pub unused_taken : is_unused r ≡ true → is_unused (life_taken all r) ≡ true
    unfolding is_unused
    unused_taken e = let z = eqb-true (life_in r) 0 e in rw (life_taken_lem, z, after_none)

    -- none holds a reply that did not before
    pub holds-taken : (three : ℕ) → bool_byte (holds three (life_taken all r)) ≤ bool_byte (holds three r)
    unfolding holds
    holds-taken three =
        split (is_unused r)
        (λ e. rw (e, unused_taken e) (omega arith))
        (λ e. split (is_unused (life_taken all r))
        (λ f. rw (e, f) (omega arith))
        (λ f. rw (e, f, three_taken) (omega arith)))

    pub ok_taken : kept_ok r ≡ true → kept_ok (life_taken all r) ≡ true
    unfolding kept_ok reply_ok
    ok_taken h =
        split (is_unused (life_taken all r)) (λ f. rw f)
        (λ f. split (is_unused r) (λ e. impossible (sym f ∙ unused_taken e))
        (λ e. let g = rw e at h in
        let a : leb (life_in r) 10 ≡ true = search (and_left, and_right) in
        let b : leb (size_in r) 128 ≡ true = search (and_left, and_right) in
        let c : type_ok (type_in r) ≡ true = search (and_left, and_right) in
        let d : number_ok (number_in r) ≡ true = search (and_left, and_right) in
        let m = after_most (life_in r) in
        let l : leb (life_after all (life_in r)) 10 ≡ true = le-leb (life_after all (life_in r)) 10 (omega (arith, tests)) in
        rw (f, life_taken_lem, size_taken, type_taken_lem, number_taken, l, b, c, d)))

-- ---- laws: marks
-- scattered threes are equal where the threes are
scattered_apart : (a b : ℕ) → scattered a ≡ scattered b → a ≡ b
unfolding scattered
scattered_apart a b e = omega arith

scattered_same : (a b : ℕ) → (scattered a == scattered b) ≡ (a == b)
scattered_same a b =
    split (a == b)
    (λ e. eq-eqb (scattered a) (scattered b) (ap scattered (eqb-true a b e)) ∙ sym e)
    (λ e. ne_eqb (scattered a) (scattered b) (λ q. impossible (sym e ∙ eq-eqb a b (scattered_apart a b q))) ∙ sym e)

-- a kept reply's three is over 1: its type stands in it
three_big : (r : List ℕ) → reply_ok r ≡ true → 2 ≤ scattered (three_in r)
unfolding reply_ok type_ok type_in three_in three_of number_of number_from scattered
three_big r e =
    let c : (slice_index r 0 == 34 || slice_index r 0 == 36) ≡ true = search (and_left, and_right) in
    or_split (slice_index r 0 == 34) (slice_index r 0 == 36) c
    (λ f. let g = eqb-true (slice_index r 0) 34 f in omega arith)
    (λ f. let g = eqb-true (slice_index r 0) 36 f in omega arith)

pub mark_bad : (r : List ℕ) → mark_in r ≡ 1 → kept_ok r ≡ false
unfolding mark_in kept_ok
mark_bad r h =
    split (is_unused r) (λ e. let z = rw e at h in absurd (omega arith))
    (λ e. split (reply_ok r) (λ f. let z = rw (e, f) at h in let b = three_big r f in absurd (omega arith)) (λ f. rw (e, f)))

pub mark_good : (r : List ℕ) → mark_in r ≢ 1 → kept_ok r ≡ true
unfolding mark_in kept_ok
mark_good r h =
    split (is_unused r) (λ e. rw e)
    (λ e. split (reply_ok r) (λ f. rw (e, f)) (λ f. absurd (h (rw (e, f)))))

-- of rows that keep the rules, equal marks are equal threes
pub mark_same : (x y : List ℕ) → kept_ok x ≡ true → kept_ok y ≡ true → same_key (mark_in x) (mark_in y) ≡ (not (is_unused x) && holds (three_in x) y)
unfolding same_key mark_in kept_ok holds
mark_same x y p q =
    split (is_unused x) (λ e. rw e)
    (λ e. let a = rw e at p in
    let big = three_big x a in
    let n : nat_eq (scattered (three_in x)) 0 ≡ false = ne_eqb (scattered (three_in x)) 0 (λ z. omega arith) in
    split (is_unused y) (λ f. rw (e, a, f, n))
    (λ f. let b = rw f at q in rw (e, a, f, b, n, scattered_same (three_in x) (three_in y))))

-- four octets, by their types
pub record Four (a b c d : ℕ) : Type 0 where
  pub first : a < 256
  pub second : b < 256
  pub third : c < 256
  pub fourth : d < 256

-- those that the three of a row is made of
pub record EightIn (r : List ℕ) : Type 0 where
  pub head : Four (slice_index r 0) (slice_index r 1) (slice_index r 2) (slice_index r 3)
  pub teid : Four (slice_index r 4) (slice_index r 5) (slice_index r 6) (slice_index r 7)

-- in the words of the code
pub scattered_by : (head teid : ℕ) → teid < 4294967296 → head * 4294967297 + teid ≡ scattered (three_of head teid)
unfolding scattered three_of
scattered_by head teid h = omega arith

-- the rules of a reply, one after another
module _ (r : List ℕ) where
  pub type_breaks : type_ok (type_in r) ≡ false → reply_ok r ≡ false
  unfolding reply_ok
  type_breaks e =
      split (nat_le (life_in r) full_life) (λ a. split (nat_le (size_in r) longest_reply) (λ b. rw (a, b, e)) (λ b. rw (a, b))) (λ a. rw a)

  pub number_breaks : number_ok (number_in r) ≡ false → reply_ok r ≡ false
  unfolding reply_ok
  number_breaks e =
      split (nat_le (life_in r) full_life)
      (λ a. split (nat_le (size_in r) longest_reply) (λ b. split (type_ok (type_in r)) (λ c. rw (a, b, c, e)) (λ c. rw (a, b, c))) (λ b. rw (a, b)))
      (λ a. rw a)

  pub life_breaks : leb (life_in r) full_life ≡ false → reply_ok r ≡ false
  unfolding reply_ok
  life_breaks e = rw e

  pub size_left : leb (life_in r) full_life ≡ true → type_ok (type_in r) ≡ true → number_ok (number_in r) ≡ true → nat_le (size_in r) longest_reply ≡ reply_ok r
  unfolding reply_ok
  size_left a c d = rw (a, c, d) (split (nat_le (size_in r) longest_reply) (λ b. rw b) (λ b. rw b))

-- the type of a row, from its scattered three; a sum that is too large for 64 bits comes of a type that no reply has
module _ (r : List ℕ) (o : EightIn r) where
  head_of_lem : number_of (slice_index r 0 ∷ slice_index r 1 ∷ slice_index r 2 ∷ slice_index r 3 ∷ []) ≡ slice_index r 0 * 16777216 + (slice_index r 1 * 65536 + slice_index r 2 * 256 + slice_index r 3)
  unfolding number_of number_from
  head_of_lem = omega arith

  teid_less : number_of (slice_index r 4 ∷ slice_index r 5 ∷ slice_index r 6 ∷ slice_index r 7 ∷ []) < 4294967296
  unfolding number_of number_from
  teid_less = let p = o.teid.first in let q = o.teid.second in let u = o.teid.third in let v = o.teid.fourth in omega arith

  scattered_is : scattered (three_in r) ≡ number_of (slice_index r 0 ∷ slice_index r 1 ∷ slice_index r 2 ∷ slice_index r 3 ∷ []) * 4294967297 + number_of (slice_index r 4 ∷ slice_index r 5 ∷ slice_index r 6 ∷ slice_index r 7 ∷ [])
  unfolding scattered three_in three_of
  scattered_is = let t = teid_less in omega arith

  -- what stands behind the type
  abbrev rest : ℕ
  rest = (slice_index r 1 * 65536 + slice_index r 2 * 256 + slice_index r 3) * 4294967297 + number_of (slice_index r 4 ∷ slice_index r 5 ∷ slice_index r 6 ∷ slice_index r 7 ∷ [])

  rest_less : rest < type_unit
  rest_less = let t = teid_less in let p = o.head.second in let q = o.head.third in let u = o.head.fourth in omega arith

  pub type_scattered : type_ok (scattered (three_in r) % 18446744073709551616 / type_unit) ≡ type_ok (type_in r)
  unfolding type_ok type_in
  type_scattered =
      let e = scattered_is in
      let f = head_of_lem in
      let t = teid_less in
      let p = o.head.first in
      split (nat_lt (slice_index r 0) 255)
      (λ b. let l = ltb-true (slice_index r 0) 255 b in
      let m : scattered (three_in r) ≡ slice_index r 0 * type_unit + rest = omega arith in
      let w : scattered (three_in r) % 18446744073709551616 ≡ slice_index r 0 * type_unit + rest = let n = rest_less in omega arith in
      let q : scattered (three_in r) % 18446744073709551616 / type_unit ≡ slice_index_or r 0 0 = rw w (let n = rest_less in omega arith) in rw q)
      (λ b. let l = ltb-false (slice_index r 0) 255 b in
      let v : slice_index_or r 0 0 ≡ 255 = omega arith in
      let m : scattered (three_in r) ≡ 255 * type_unit + rest = omega arith in
      let n = rest_less in
      split (nat_lt (scattered (three_in r)) 18446744073709551616)
      (λ g. let x = ltb-true (scattered (three_in r)) 18446744073709551616 g in
      let w : scattered (three_in r) % 18446744073709551616 ≡ 255 * type_unit + rest = omega arith in
      let q : scattered (three_in r) % 18446744073709551616 / type_unit ≡ 255 = rw w (omega arith) in
      rw (q, v))
      (λ g. let x = ltb-false (scattered (three_in r)) 18446744073709551616 g in
      let w : scattered (three_in r) % 18446744073709551616 < type_unit = omega arith in
      let q : scattered (three_in r) % 18446744073709551616 / type_unit ≡ 0 = omega arith in
      rw (q, v)))

  -- what a kept reply is marked by fits
  pub scattered-fits : reply_ok r ≡ true → scattered (three_in r) % 18446744073709551616 ≡ scattered (three_in r)
  unfolding reply_ok type_ok type_in
  scattered-fits k =
      let e = scattered_is in
      let f = head_of_lem in
      let t = teid_less in
      let n = rest_less in
      let c : (slice_index r 0 == 34 || slice_index r 0 == 36) ≡ true = search (and_left, and_right) in
      or_split (slice_index r 0 == 34) (slice_index r 0 == 36) c
      (λ g. let z = eqb-true (slice_index r 0) 34 g in omega arith)
      (λ g. let z = eqb-true (slice_index r 0) 36 g in omega arith)

-- ---- laws: in the words of the code
-- no more than there are
pub take_least : (n m : ℕ) (l : List ℕ) → length l ≤ m → take (min n m) l ≡ take n l
take_least n m l h =
    split (nat_lt n m)
    (λ e. let k = ltb-true n m e in let z : min n m ≡ n = omega arith in rw z)
    (λ e. let k = ltb-false n m e in let z : min n m ≡ m = omega arith in rw (z, take_all m l h, take_all n l (omega arith)))

pub laid-part : (r : List ℕ) (n : ℕ) → length r ≡ 139 → n ≡ min (size_in r) 128 → take (11 + n - 11) (drop 11 r) ≡ octets_in r
unfolding octets_in
laid-part r n h e =
    let z : 11 + n - 11 ≡ n = omega arith in
    rw (z, e) (take_least (size_in r) 128 (drop 11 r) (simp length-drop (omega arith)))

pub laid_long : (r : List ℕ) (n : ℕ) → length r ≡ row_octets → n ≡ min (size_in r) longest_reply → n ≡ length (octets_in r)
laid_long r n h e =
    let z : 11 + n - 11 ≡ n = omega arith in
    let d : length (drop 11 r) ≡ 128 = simp length-drop (omega arith) in
    let k : length (take (11 + n - 11) (drop 11 r)) ≡ n = rw z (length-take-le n (drop 11 r) (omega arith)) in
    sym (ap length (sym (laid-part r n h e)) ∙ k)

-- a row made in two steps: the front laid over zeros, and the reply over what is behind it
length_front : (head teid number size : ℕ) → length (front_of head teid number size) ≡ 11
unfolding front_of octets_of
length_front head teid number size = refl

behind : drop 11 blank_row ≡ replicate 128 0
unfolding blank_row
behind = refl

length-blank : length blank_row ≡ 139
unfolding blank_row
length-blank = refl

pub front_made : (head teid number size : ℕ) (a b : List ℕ) → a ≡ octets_of 4 head → b ≡ octets_of 4 teid
    → slice_index a 0 ∷ slice_index a 1 ∷ slice_index a 2 ∷ slice_index a 3 ∷ slice_index b 0 ∷ slice_index b 1 ∷ slice_index b 2 ∷ slice_index b 3 ∷ 10 ∷ number ∷ size ∷ [] ≡ front_of head teid number size
unfolding front_of octets_of
front_made head teid number size a b e f = rw (e, f)

pub part_made : (n size : ℕ) (reply : List ℕ) → n ≡ min size (length reply) → take n reply ≡ take size reply
part_made n size reply e = rw e (take_least size (length reply) reply (omega arith))

pub row_made : (head teid number size : ℕ) (reply front part blank xs ys : List ℕ) → front ≡ front_of head teid number size → part ≡ take size reply → blank ≡ blank_row
    → xs ≡ overlay front blank → ys ≡ overlay part (take 128 (drop 11 xs)) → take 11 xs ++ (ys ++ drop 128 (drop 11 xs)) ≡ row_of head teid number size reply
unfolding row_of
row_made head teid number size reply front part blank xs ys e-f e-p e-b e-x e-y =
    let f = length_front head teid number size in
    let b = length-blank in
    let n : length front ≡ 11 = rw e-f f in
    let w : length front ≤ length blank_row = omega arith in
    let o : xs ≡ overlay front blank_row = rw e-b at e-x in
    let q : front ++ drop (length front) blank_row ≡ front ++ replicate 128 0 = rw n (ap (λ (l : List ℕ). front ++ l) behind) in
    let x : xs ≡ front ++ replicate 128 0 = o ∙ overlay-fits front blank_row w ∙ q in
    let t : take 11 xs ≡ front = rw x (take_at front (replicate 128 0) 11 n) in
    let d : drop 11 xs ≡ replicate 128 0 = rw x (drop_at front (replicate 128 0) 11 n) in
    let y : ys ≡ overlay (take size reply) (replicate 128 0) = e-y ∙ rw (d, e-p) in
    rw (t, d, y, e-f, append-nil)
