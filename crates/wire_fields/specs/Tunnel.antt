-- An F-TEID as a field's value: the V4 flag is the top bit, the interface the low 6 bits of the first octet; then TEID and address. The V6
-- bit is not looked at, the address may be anything.
-- Assumes nothing.
use Rattle.std.specs.Prelude.{ℕ, ◌+◌, ◌%◌, ◌<◌, ◌≤◌, Bool, true, false, ◌&&◌, List, [], ◌∷◌, ◌≡◌, refl, length, get_or, eqb, ltb, leb, Result, Ok, Err}
use Rattle.std.proofs.Common.{arith, le-ltb, lt-ltb, ltb-true}
use Rattle.base_octets.specs.Choice.{pick, split, and_left, and_right}
use Rattle.base_octets.specs.BigEndian.{number_of}
use Rattle.wire_fields.specs.declared.Tunnel.{Tunnel}
use Rattle.wire_fields.specs.declared.Flaw.{Flaw}
use Rattle.wire_fields.specs.declared.Flaw.TheVariants.{Short, Wrong}

-- a tunnel end: its TEID and its address
abbrev pub tunnel : ℕ → ℕ → Tunnel
tunnel teid address = record { teid = teid; address = address }

unfoldable pub tunnel_size : ℕ
tunnel_size = 9

-- the top bit of the first octet is the V4 flag
abbrev pub v4_flag : ℕ
v4_flag = 128

-- its low 6 bits are the interface
abbrev pub interfaces : ℕ
interfaces = 64

-- the number in the four octets from k on
unfoldable pub word_at : List ℕ → ℕ → ℕ
word_at v k = number_of (get_or v k 0 ∷ get_or v (k + 1) 0 ∷ get_or v (k + 2) 0 ∷ get_or v (k + 3) 0 ∷ [])

-- V4 flag set, the interface that is asked for, TEID not 0
unfoldable pub tunnel_good : List ℕ → ℕ → Bool
tunnel_good v interface = leb v4_flag (get_or v 0 0) && eqb (get_or v 0 0 % interfaces) interface && ltb 0 (word_at v 1)

unfoldable pub tunnel_of : List ℕ → ℕ → Result Tunnel Flaw
tunnel_of v interface = pick (ltb (length v) tunnel_size) (Err Short) (pick (tunnel_good v interface) (Ok (tunnel (word_at v 1) (word_at v 5))) (Err Wrong))

-- ---- laws
pub word_is : (v : List ℕ) (k : ℕ) → word_at v k ≡ number_of (get_or v k 0 ∷ get_or v (k + 1) 0 ∷ get_or v (k + 2) 0 ∷ get_or v (k + 3) 0 ∷ [])
unfolding word_at
word_is v k = refl

module _ (v : List ℕ) (interface : ℕ) where
  pub tunnel-short : length v < 9 → tunnel_of v interface ≡ Err Short
  unfolding tunnel_of tunnel_size
  tunnel-short h = rw (lt-ltb _ _ h)

  pub tunnel_good_lem : 9 ≤ length v → tunnel_good v interface ≡ true → tunnel_of v interface ≡ Ok (tunnel (word_at v 1) (word_at v 5))
  unfolding tunnel_of tunnel_size
  tunnel_good_lem h e = rw (le-ltb _ _ h, e)

  pub tunnel-wrong : 9 ≤ length v → tunnel_good v interface ≡ false → tunnel_of v interface ≡ Err Wrong
  unfolding tunnel_of tunnel_size
  tunnel-wrong h e = rw (le-ltb _ _ h, e)

-- ---- what was read is live
never : {A : Type 0} → ◌≡◌ {A = ℕ} 0 1 → A
never z = absurd (omega arith)

pub tunnel-live : (v : List ℕ) (interface : ℕ) (t : Tunnel) → tunnel_of v interface ≡ Ok t → 0 < t.teid
unfolding tunnel_of tunnel_good
tunnel-live v interface t e = split (ltb (length v) tunnel_size) short long
  where
    good : (leb v4_flag (get_or v 0 0) && eqb (get_or v 0 0 % interfaces) interface && ltb 0 (word_at v 1)) ≡ true → ltb (length v) tunnel_size ≡ false → 0 < t.teid
    good q h =
        let g : Ok (tunnel (word_at v 1) (word_at v 5)) ≡ Ok t = rw (h, q) at e in
        let k : word_at v 1 ≡ t.teid = cc in
        let z : ltb 0 (word_at v 1) ≡ true = search (and_left, and_right) depth 5 in
        rw (← k) (ltb-true 0 (word_at v 1) z)

    bad : (leb v4_flag (get_or v 0 0) && eqb (get_or v 0 0 % interfaces) interface && ltb 0 (word_at v 1)) ≡ false → ltb (length v) tunnel_size ≡ false → 0 < t.teid
    bad q h = let g : Err Wrong ≡ Ok t = rw (h, q) at e in never (cc)

    short : ltb (length v) tunnel_size ≡ true → 0 < t.teid
    short h = let g : Err Short ≡ Ok t = rw h at e in never (cc)

    long : ltb (length v) tunnel_size ≡ false → 0 < t.teid
    long h = split (leb v4_flag (get_or v 0 0) && eqb (get_or v 0 0 % interfaces) interface && ltb 0 (word_at v 1)) (λ q. good q h) (λ q. bad q h)
