-- Numbers as octets, the most significant first, for every width; the round trips are proved once, over the width.
-- Assumes nothing.
use Rattle.std.specs.Prelude.{ℕ, zero, suc, ◌+◌, ◌*◌, ◌/◌, ◌%◌, ◌^◌, ◌<◌, Bool, List, [], ◌∷◌, ◌++◌, ◌≡◌, refl, length, ltb}
use Rattle.std.specs.Int.{w32, from_be_bytes}
use Rattle.std.proofs.Common.{pow-suc, arith, length-append}

-- the number that the octets write, behind what was read before
unfoldable pub number_from : ℕ → List ℕ → ℕ
number_from n [] = n
number_from n (x ∷ l) = number_from (n * 256 + x) l

unfoldable pub number_of : List ℕ → ℕ
number_of l = number_from 0 l

-- the last w octets of n
unfoldable pub octets_of : ℕ → ℕ → List ℕ
octets_of zero n = []
octets_of (suc w) n = octets_of w (n / 256) ++ (n % 256 ∷ [])

unfoldable pub is_octet : ℕ → Bool
is_octet x = ltb x 256

pub length_octets : (w n : ℕ) → length (octets_of w n) ≡ w
unfolding octets_of
length_octets zero n = refl
length_octets (suc w) n = let r = length_octets w (n / 256) in simp length-append (omega arith)

-- ---- it is what `from_be_bytes` reads
pub number_four : (l : List ℕ) → length l ≡ 4 → from_be_bytes w32 l ≡ number_of l
unfolding number_of number_from
number_four [] h = absurd (omega arith)
number_four (a ∷ []) h = absurd (omega arith)
number_four (a ∷ b ∷ []) h = absurd (omega arith)
number_four (a ∷ b ∷ c ∷ []) h = absurd (omega arith)
number_four (a ∷ b ∷ c ∷ d ∷ []) h = omega arith
number_four (a ∷ b ∷ c ∷ d ∷ e ∷ l) h = absurd (omega arith)

number_last : (n : ℕ) (l : List ℕ) (x : ℕ) → number_from n (l ++ (x ∷ [])) ≡ number_from n l * 256 + x
unfolding number_from
number_last n [] x = refl
number_last n (y ∷ l) x = number_last (n * 256 + y) l x

-- a number that fits comes back
pub number_back : (w n : ℕ) → n < 256 ^ w → number_of (octets_of w n) ≡ n
unfolding number_of octets_of number_from
number_back zero n h = omega arith
number_back (suc w) n h =
    let p = pow-suc 256 w in
    let r = number_back w (n / 256) (omega arith) in
    let s = number_last 0 (octets_of w (n / 256)) (n % 256) in
    omega arith
