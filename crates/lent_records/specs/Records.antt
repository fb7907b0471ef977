-- How many of the caller's records a call changes that changes all: as many as there are places, and none where another count is lent. And that the
-- place of an element of a lent slice fits a word.
-- Assumes nothing.
use Rattle.std.specs.Prelude.{ℕ, ◌*◌, ◌<◌, ◌≤◌, ◌^◌, true, false, ◌≡◌, eqb}
use Rattle.std.proofs.Common.{le_of_lt, mul-le-mul_right, arith}
use Rattle.base_octets.specs.Choice.{pick}
use Rattle.unit_tunnel.specs.Numbering.{places}

-- how many of a count of lent records are changed by a call that changes all
unfoldable pub whole_of : ℕ → ℕ
whole_of n = pick {A = ℕ} (eqb n places) n 0

-- ---- laws
pub whole_none : (n : ℕ) → eqb n places ≡ false → whole_of n ≡ 0
unfolding whole_of
whole_none n e = rw e

pub whole_all : (n : ℕ) → eqb n places ≡ true → whole_of n ≡ n
unfolding whole_of
whole_all n e = rw e

-- where n elements of a size fit the memory, the place of each of them fits a word
pub place-fits : (size n i : ℕ) → n * size < 2 ^ 63 → i < n → i * size < 2 ^ 64
place-fits size n i g l = let m : i * size ≤ n * size = mul-le-mul_right size (le_of_lt l) in omega (arith, g, m)
