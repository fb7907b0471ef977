-- The address of a session: pool base + 1 + place, in the 32 bits that an address has. The addresses of places differ, so an address has
-- at most one place; that it is found by arithmetic is a law.
-- Assumes nothing.
use Rattle.std.specs.Prelude.{ℕ, ◌+◌, ◌-◌, ◌%◌, ◌<◌, min, true, false, ◌&&◌, ◌≡◌, ltb}
use Rattle.std.proofs.Common.{arith, lt-ltb, ltb-true}
use Rattle.base_octets.specs.Choice.{pick, split, and_left, tests}
use Rattle.unit_tunnel.specs.Numbering.{places}
use Rattle.unit_plan.specs.Limits.{pool_step}

-- an address has 32 bits
unfoldable pub addresses : ℕ
addresses = 4294967296

unfoldable pub address_of : ℕ → ℕ → ℕ
address_of pool place = (pool + 1 + place) % addresses

-- ---- a way to find the place of an address
-- how far it lies behind the first address of the pool
unfoldable pub away : ℕ → ℕ → ℕ
away pool a = (a + (addresses - (pool + 1) % addresses)) % addresses

-- one that there is not, where no place has the address
unfoldable pub place_of : ℕ → ℕ → ℕ
place_of pool a = pick {A = ℕ} (ltb a addresses && ltb (away pool a) places) (away pool a) places

-- ---- laws
-- a pool base as a plan may have it: none of its addresses goes round
pub address_is : (pool place : ℕ) → pool < addresses → pool % pool_step ≡ 0 → place < places → address_of pool place ≡ pool + 1 + place
unfolding address_of addresses pool_step places
address_is pool place fits whole h = omega arith

-- the addresses of places differ
pub address_same : (pool i j : ℕ) → i < places → j < places → address_of pool i ≡ address_of pool j → i ≡ j
unfolding address_of addresses places
address_same pool i j h k e = omega arith

address_small : (pool place : ℕ) → address_of pool place < addresses
unfolding address_of addresses
address_small pool place = omega arith

address_away : (pool place : ℕ) → place < places → away pool (address_of pool place) ≡ place
unfolding away address_of addresses places
address_away pool place h = omega arith

away_address : (pool a : ℕ) → a < addresses → address_of pool (away pool a) ≡ a
unfolding away address_of addresses
away_address pool a h = omega arith

-- the place that has an address is the one that is found, and no other is
pub place_of_address : (pool place : ℕ) → place < places → place_of pool (address_of pool place) ≡ place
unfolding place_of
place_of_address pool place h =
    rw (lt-ltb (address_of pool place) addresses (address_small pool place), address_away pool place h, lt-ltb place places h)

pub address_of_place : (pool a : ℕ) → place_of pool a < places → address_of pool (place_of pool a) ≡ a
unfolding place_of
address_of_place pool a h = split (ltb a addresses && ltb (away pool a) places) found none
  where
    found : (ltb a addresses && ltb (away pool a) places) ≡ true → address_of pool (place_of pool a) ≡ a
    found e = rw e (away_address pool a (ltb-true a addresses (and_left (ltb a addresses) (ltb (away pool a) places) e)))

    none : (ltb a addresses && ltb (away pool a) places) ≡ false → address_of pool (place_of pool a) ≡ a
    none e = let z : places < places = rw e at h in absurd (omega arith)

-- in the words of the code: the lesser of how far it lies and of the places
pub place_least : (pool a n : ℕ) → a < addresses → n ≡ min (away pool a) places → n ≡ place_of pool a
unfolding place_of
place_least pool a n s e =
    rw (lt-ltb a addresses s) (split (ltb (away pool a) places) (λ t. rw t (omega (arith, tests))) (λ t. rw t (omega (arith, tests))))
