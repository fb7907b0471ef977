-- A part of a lent slice that is handed back: where it lies, and what it holds.
-- Assumes nothing.
use Rattle.std.specs.Prelude.{ℕ, ◌+◌, ◌-◌, List, ◌≡◌, length, drop, Result, Ok, Err}
use Rattle.std.proofs.Common.{◌∙◌, ap, arith, length-drop, drop-drop}
use Rattle.std.specs.Borrow.{Bor}
use Rattle.base_octets.specs.declared.refused.Refused.{Refused}
use Rattle.base_octets.specs.Number.{taken}
use Rattle.base_octets.specs.Refused.{refused_number}
use Rattle.wire_user.specs.Extensions.{Walk, beyond, extensions_of}

-- r is what lies past the first n octets of d: in d's memory, n octets further on, and with the octets that are there
pub record IsRest (r d : Bor (List ℕ)) (n : ℕ) : Type 0 where
  pub memory : r.ref_ptr.0 ≡ d.ref_ptr.0
  pub place : r.ref_ptr.1 ≡ d.ref_ptr.1 + n
  pub octets : r.now ≡ drop n d.now

-- what a reader hands back of d, where a walk over it comes to w: what lies past the size, or the number why there is nothing
abbrev pub Reads : Result (Bor (List ℕ)) Refused → Bor (List ℕ) → Walk → Type 0
Reads (Ok r) d w = (w.number ≡ taken) × IsRest r d w.size
Reads (Err why) d w = w.number ≡ refused_number why

-- ---- laws
-- a rest of a rest
pub rest_further : (r m d : Bor (List ℕ)) (n k : ℕ) → IsRest m d n → IsRest r m k → IsRest r d (n + k)
rest_further r m d n k a b =
    record {
      memory = b.memory ∙ a.memory;
      place = omega (arith, a.place, b.place);
      octets = b.octets ∙ ap (drop k) a.octets ∙ drop-drop k n d.now;
    }

-- a walk over what lies past the first n octets of d is a walk past them
pub rest_walked : (got : Result (Bor (List ℕ)) Refused) (m d : Bor (List ℕ)) (n type : ℕ) → IsRest m d n
    → Reads got m (extensions_of m.now type) → Reads got d (beyond n (extensions_of (drop n d.now) type))
rest_walked (Ok r) m d n type a e = rw (← a.octets) (e.0, rest_further r m d n (extensions_of m.now type).size a e.1)
rest_walked (Err why) m d n type a e = rw (← a.octets) e

pub rest_length : (r d : Bor (List ℕ)) (n : ℕ) → IsRest r d n → length r.now ≡ length d.now - n
rest_length r d n a = ap length a.octets ∙ length-drop n d.now
