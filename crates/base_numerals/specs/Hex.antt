-- Hex text, capitals only: octets as pairs of characters, and back; the number that eight digits write. What is written reads back,
-- for every number of octets.
-- Assumes nothing.
use Rattle.std.specs.Prelude.{ℕ, suc, ◌+◌, ◌*◌, ◌-◌, ◌/◌, ◌%◌, ◌<◌, Bool, true, not, Option, Some, None, is_some, unwrap_or, map, ◌&&◌, ◌||◌, List, [], ◌∷◌, ◌++◌, ◌≡◌, refl, length, take, drop, get_or, eqb, ltb, leb}
use Rattle.std.specs.Simd.{first_chunks}
use Rattle.std.specs.Int.{w32, from_be_bytes}
use Rattle.std.proofs.Common.{◌∙◌, ap, arith, add-one, append-nil, drop_of_length-le, leb-true, ltb-true, ltb-false, le-leb}
use Rattle.std.proofs.Math.Seq.{take-suc}
use Rattle.std.proofs.lemmas.Bool.{lt-leb}
use Rattle.base_octets.specs.Choice.{pick, split, and_left, and_right}
use Rattle.base_octets.specs.Every.{every}
use Rattle.base_octets.specs.Overlay.{overlay, overlay-fits}
use Rattle.base_octets.specs.BigEndian.{number_of, is_octet, number_four}
use Rattle.base_octets.specs.Places.{map_at}

-- ---- writing
-- the character of a half octet: 0 to 9, A to F
unfoldable pub glyph : ℕ → ℕ
glyph d = pick {A = ℕ} (ltb (d % 16) 10) (48 + d % 16) (55 + d % 16)

unfoldable pub hex_of : List ℕ → List ℕ
hex_of [] = []
hex_of (x ∷ l) = glyph (x / 16) ∷ glyph x ∷ hex_of l

-- ---- reading
-- the half octet that a character writes
unfoldable pub half_of : ℕ → Option ℕ
half_of c = pick (leb 48 c && leb c 57) (Some (c - 48)) (pick (leb 65 c && leb c 70) (Some (c - 55)) None)

unfoldable pub is_hex : ℕ → Bool
is_hex c = is_some (half_of c)

-- a character that writes none counts as 0
unfoldable pub octet_from : ℕ → ℕ → ℕ
octet_from a b = unwrap_or (half_of a) 0 * 16 + unwrap_or (half_of b) 0

pub half_small : (c : ℕ) → unwrap_or (half_of c) 0 < 16
unfolding half_of
half_small c =
    split (leb 48 c && leb c 57) (λ e. let h = leb-true c 57 (and_right (leb 48 c) (leb c 57) e) in rw e (omega arith))
    (λ e. rw e (split (leb 65 c && leb c 70) (λ f. let h = leb-true c 70 (and_right (leb 65 c) (leb c 70) f) in rw f (omega arith)) (λ f. rw f (omega arith))))

-- pairs of characters as octets; an odd one at the end is left out
unfoldable pub octets_in : List ℕ → List ℕ
octets_in [] = []
octets_in (a ∷ []) = []
octets_in (a ∷ b ∷ l) = octet_from a b ∷ octets_in l

-- how many octets were read, and the buffer that holds them
pub record Filled : Type 0 where
  pub size : Option ℕ
  pub out : List ℕ

abbrev pub filled : Option ℕ → List ℕ → Filled
filled size out = record { size = size; out = out }

-- odd, more octets than the buffer has, or no hex: the buffer as lent
unfoldable pub octets_read : List ℕ → List ℕ → Filled
octets_read l out =
    pick (not (eqb (length l % 2) 0) || ltb (length out) (length l / 2)) (filled None out)
    (pick (every is_hex l) (filled (Some (length l / 2)) (overlay (octets_in l) out)) (filled None out))

-- eight hex digits
unfoldable pub word_in : List ℕ → Option ℕ
word_in l = pick (eqb (length l) 8 && every is_hex l) (Some (number_of (octets_in l))) None

-- ---- the round trip
half_glyph : (d : ℕ) → half_of (glyph d) ≡ Some (d % 16)
unfolding half_of glyph
half_glyph d =
    split (ltb (d % 16) 10)
    (λ e. let h = ltb-true (d % 16) 10 e in
    let n : 48 + d % 16 - 48 ≡ d % 16 = omega arith in
    rw (e, le-leb 48 (48 + d % 16) (omega arith), le-leb (48 + d % 16) 57 (omega arith), n))
    (λ e. let h = ltb-false (d % 16) 10 e in
    let n : 55 + d % 16 - 55 ≡ d % 16 = omega arith in
    rw (e, lt-leb (55 + d % 16) 57 (omega arith), le-leb 48 (55 + d % 16) (omega arith), le-leb 65 (55 + d % 16) (omega arith), le-leb (55 + d % 16) 70 (omega arith), n))

pub hex_back : (l : List ℕ) → every is_octet l ≡ true → octets_in (hex_of l) ≡ l
unfolding octets_in hex_of octet_from every is_octet
hex_back [] e = refl
hex_back (x ∷ l) e =
    let h = ltb-true x 256 (and_left (is_octet x) (every is_octet l) e) in
    let r = hex_back l (and_right (is_octet x) (every is_octet l) e) in
    let n : x / 16 % 16 * 16 + x % 16 ≡ x = omega arith in
    rw (half_glyph (x / 16), half_glyph x, n, r)

pub length_hex : (l : List ℕ) → length (hex_of l) ≡ 2 * length l
unfolding hex_of
length_hex [] = refl
length_hex (x ∷ l) = let r = length_hex l in omega arith

-- ---- laws of the loops
hex_of-append : (l k : List ℕ) → hex_of (l ++ k) ≡ hex_of l ++ hex_of k
unfolding hex_of
hex_of-append [] k = refl
hex_of-append (x ∷ l) k = rw (hex_of-append l k)

pub hex_more : (l : List ℕ) (i d : ℕ) → i < length l → hex_of (take (i + 1) l) ≡ hex_of (take i l) ++ (glyph (get_or l i d / 16) ∷ glyph (get_or l i d) ∷ [])
unfolding hex_of
hex_more l i d h = rw (add-one, take-suc l i d h, hex_of-append (take i l) (get_or l i d ∷ []))

pub length_in : (l : List ℕ) → length (octets_in l) ≡ length l / 2
unfolding octets_in
length_in [] = refl
length_in (a ∷ []) = refl
length_in (a ∷ b ∷ l) = let r = length_in l in omega arith

-- the pairs of characters are what the octets are read from
pub octets_pairs : (l : List ℕ) → octets_in l ≡ map (λ p. octet_from (get_or p 0 0) (get_or p 1 0)) (first_chunks 2 (length l / 2) l)
unfolding octets_in
octets_pairs [] = refl
octets_pairs (a ∷ []) = refl
octets_pairs (a ∷ b ∷ l) =
    let p : suc (suc (length l)) / 2 ≡ suc (length l / 2) = omega arith in
    rw (p, octets_pairs l)

pub pair_at : (l : List ℕ) (pairs : List (List ℕ)) (i : ℕ) (d : List ℕ) → pairs ≡ first_chunks 2 (length l / 2) l → i < length pairs
    → get_or (octets_in l) i 0 ≡ octet_from (get_or (get_or pairs i d) 0 0) (get_or (get_or pairs i d) 1 0)
pair_at l pairs i d e h = rw (octets_pairs l, ← e, map_at (λ p. octet_from (get_or p 0 0) (get_or p 1 0)) pairs i d 0 h)

-- ---- a word is four octets: what is read of eight characters into four places
module _ (l d o : List ℕ) (h : length l ≡ 8) (g : length d ≡ 4) where
  pub word_none : filled None o ≡ octets_read l d → None ≡ word_in l
  unfolding octets_read word_in
  word_none e = split (every is_hex l) (λ t. let f = ap (λ (x : Filled). x.size) (rw (h, g, t) at e) in cc) (λ t. rw (h, t))

  pub word_read : (n : ℕ) → filled (Some n) o ≡ octets_read l d → Some (from_be_bytes w32 o) ≡ word_in l
  unfolding octets_read word_in
  word_read n e =
      split (every is_hex l)
      (λ t. let f : o ≡ overlay (octets_in l) d = ap (λ (x : Filled). x.out) (rw (h, g, t) at e) in
      let s = length_in l in
      let z : drop (length (octets_in l)) d ≡ [] = drop_of_length-le d {i = length (octets_in l)} (omega arith) in
      let w : o ≡ octets_in l = f ∙ overlay-fits (octets_in l) d (omega arith) ∙ rw (z, append-nil (octets_in l)) in
      rw (h, t, w, number_four (octets_in l) (omega arith)))
      (λ t. let f = ap (λ (x : Filled). x.size) (rw (h, g, t) at e) in cc)
