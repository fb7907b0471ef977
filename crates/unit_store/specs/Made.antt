-- A row that is made of a request and its reply: what stands in it, and that it keeps the rules.
-- Assumes nothing.
use Rattle.std.specs.Prelude.{◌≡◌, ℕ, ◌/◌, ◌%◌, ◌<◌, ◌≤◌, true, false, ◌||◌, List, length, take, drop, replicate, ◌==◌}
use Rattle.std.proofs.Math.Path.{refl, ap}
use Rattle.std.proofs.Common.{◌∙◌, take_at, eqb-true, le-leb}
use native.Mathlib.Omega.{arith}
use Rattle.std.proofs.Math.Seq.{length-take-le}
use Rattle.base_octets.specs.Choice.{or_split}
use Rattle.base_octets.specs.BigEndian.{number_of, octets_of, number_back}
use Rattle.base_octets.specs.Overlay.{overlay, overlay-fits}
use Rattle.unit_store.specs.Row.{type_in, life_in, number_in, size_in, octets_in, head_of, three_of, three_in, is_unused, type_ok, number_ok, reply_ok, kept_ok, front_of, row_of}

module _ (head teid number size : ℕ) (reply : List ℕ) where
  abbrev row : List ℕ
  row = row_of head teid number size reply

  pub made_life : life_in row ≡ 10
  unfolding life_in row_of front_of octets_of
  made_life = refl

  pub made_number : number_in row ≡ number
  unfolding number_in row_of front_of octets_of
  made_number = refl

  pub made_size : size_in row ≡ size
  unfolding size_in row_of front_of octets_of
  made_size = refl

  pub made_three : head < 4294967296 → teid < 4294967296 → three_in row ≡ three_of head teid
  unfolding three_in row_of front_of octets_of
  made_three h t = ap (λ (x : ℕ). three_of x (number_of (octets_of 4 teid))) (number_back 4 head h) ∙ ap (λ (x : ℕ). three_of head x) (number_back 4 teid t)

  behind-front : drop 11 row ≡ overlay (take size reply) (replicate 128 0)
  unfolding row_of front_of octets_of
  behind-front = refl

  -- the reply, octet for octet
  pub made_octets : size ≤ 128 → size ≤ length reply → octets_in row ≡ take size reply
  unfolding octets_in
  made_octets h k =
      let n : length (take size reply) ≡ size = length-take-le size reply k in
      let w : length (take size reply) ≤ length (replicate {A = ℕ} 128 0) = omega arith in
      rw (made_size, behind-front, overlay-fits (take size reply) (replicate 128 0) w)
      (take_at (take size reply) (drop (length (take size reply)) (replicate 128 0)) size n)

  first-octet : type_in row ≡ head / 256 / 256 / 256 % 256
  unfolding type_in row_of front_of octets_of
  first-octet = refl

  pub made_used : is_unused row ≡ false
  unfolding is_unused
  made_used = rw made_life

-- the reply to a request of type 34 or 36 keeps the rules
pub made_ok : (type sequence teid number size : ℕ) (reply : List ℕ) → (type == 34 || type == 36) ≡ true → number_ok number ≡ true → size ≤ 128
    → kept_ok (row_of (head_of type sequence) teid number size reply) ≡ true
unfolding kept_ok reply_ok head_of type_ok
made_ok type sequence teid number size reply e n h =
    let l = made_life (head_of type sequence) teid number size reply in
    let k : type_in (row_of (head_of type sequence) teid number size reply) ≡ type = first-octet (head_of type sequence) teid number size reply ∙ own in
    rw (made_used (head_of type sequence) teid number size reply, l, made_size (head_of type sequence) teid number size reply, le-leb size 128 h, k, e, made_number (head_of type sequence) teid number size reply, n)
  where
    small : type < 256
    small = or_split (type == 34) (type == 36) e (λ f. let z = eqb-true type 34 f in omega arith) (λ f. let z = eqb-true type 36 f in omega arith)

    own : head_of type sequence / 256 / 256 / 256 % 256 ≡ type
    own = let s = small in omega arith
