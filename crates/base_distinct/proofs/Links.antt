-- Links as numbers: what a place of their list holds, and that they fit in memory.
-- Assumes nothing.
use Rattle.std.proofs.Common.{ℕ, zero, suc, ◌*◌, ◌^◌, ◌<◌, ◌≤◌, ◌≡◌, List, length, get_or, map, replicate, refl, sym, ◌∙◌, ap, arith}
use Rattle.std.proofs.lemmas.Nat.{mul-le}
use Rattle.base_octets.specs.Places.{map_at}

pub number_at : {A : Type 0} (number : A → ℕ) (l : List A) (i n : ℕ) (x : A) → i < length l → x ≡ get_or l i x → n ≡ number x → n ≡ get_or (map number l) i 0
number_at number l i n x h e f = f ∙ ap number e ∙ sym (map_at number l i x 0 h)

pub links_fit : (i n s : ℕ) → i ≤ n → n ≤ 2 ^ 32 → s ≤ 8 → i * s < 2 ^ 63
links_fit i n s h k b = let m = mul-le i s n 8 h b in omega arith

pub all_none : {A : Type 0} (number : A → ℕ) (n k : ℕ) (x : A) → number x ≡ k → map number (replicate n x) ≡ replicate n k
all_none number zero k x e = refl
all_none number (suc n) k x e = rw (e, all_none number n k x e)
