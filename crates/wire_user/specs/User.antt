-- How a user datagram is read, without the table: document 01's number, and where its payload begins.
-- Assumes nothing.
use Rattle.std.specs.Prelude.{ℕ, ◌+◌, ◌≤◌, true, false, List, ◌++◌, ◌≡◌, length, drop, take, eqb}
use Rattle.std.proofs.Math.Path.{refl}
use Rattle.std.proofs.Math.Nat.{add-zero}
use Rattle.std.proofs.Common.{arith, length-take, length-drop, take-append-drop, eq-eqb, ne_eqb, eqb-true}
use Rattle.base_octets.specs.Number.{taken}
use Rattle.base_octets.specs.Choice.{pick, split}
use Rattle.wire_user.specs.Header.{refusal_of, size_of, extended, user_octet, header_passed}
use Rattle.wire_user.specs.Extensions.{Walk, refused, beyond, extensions_of, ext_end, ext_within, ext_refused}

-- the type of the first extension header; with E unset the octet says nothing
unfoldable pub first_type : List ℕ → ℕ
first_type d = pick {A = ℕ} (extended (user_octet d 0)) (user_octet d 11) 0

-- document 01's number, and the size of the header with its extension headers: the payload lies past it. The header's own refusals
-- come first, then those of its extension headers. A datagram that is refused has no payload: the size is that of the whole datagram.
unfoldable pub user_of : List ℕ → Walk
user_of d =
    pick (eqb (refusal_of d) taken)
    (beyond (size_of (user_octet d 0)) (extensions_of (drop (size_of (user_octet d 0)) d) (first_type d)))
    (refused (refusal_of d) d)

-- ---- laws
-- the ways to the answer: what a reader that goes that way hands back
module _ (d : List ℕ) where
  pub user_refused : (refusal_of d ≡ taken → ⊥) → user_of d ≡ refused (refusal_of d) d
  unfolding user_of
  user_refused h = rw (ne_eqb (refusal_of d) taken h)

  pub user_plain : (n : ℕ) → n ≡ size_of (user_octet d 0) → refusal_of d ≡ taken → extended (user_octet d 0) ≡ false
      → ((user_of d).number ≡ taken) × ((user_of d).size ≡ n)
  unfolding user_of first_type
  user_plain n s h e = rw (eq-eqb (refusal_of d) taken h, e, ext_end (drop (size_of (user_octet d 0)) d) 0 refl, add-zero, s) (refl, refl)

  module _ (n : ℕ) (s : n ≡ size_of (user_octet d 0)) (h : refusal_of d ≡ taken) (e : extended (user_octet d 0) ≡ true) where
    pub user_past : user_of d ≡ beyond n (extensions_of (drop n d) (user_octet d 11))
    unfolding user_of first_type
    user_past = rw (eq-eqb (refusal_of d) taken h, e, s)

    pub user_extended : ((user_of d).number ≡ (extensions_of (drop n d) (user_octet d 11)).number)
        × ((user_of d).size ≡ n + (extensions_of (drop n d) (user_octet d 11)).size)
    user_extended = rw user_past (refl, refl)

-- a datagram that is taken has a header that is
pub user_passed : (d : List ℕ) → (user_of d).number ≡ taken → refusal_of d ≡ taken
unfolding user_of
user_passed d e =
    split (eqb (refusal_of d) taken) (λ a. eqb-true _ _ a) (λ a. rw a at e)

pub user_within : (d : List ℕ) → (user_of d).size ≤ length d
unfolding user_of
user_within d =
    split (eqb (refusal_of d) taken)
    (λ a.
    let p = header_passed d (eqb-true _ _ a) in
    let w = ext_within (drop (size_of (user_octet d 0)) d) (first_type d) in
    let s = length-drop (size_of (user_octet d 0)) d in
    rw a (omega (arith, p.whole)))
    (λ a. rw a (omega arith))

pub user_none : (d : List ℕ) → ((user_of d).number ≡ taken → ⊥) → (user_of d).size ≡ length d
unfolding user_of
user_none d n =
    split (eqb (refusal_of d) taken)
    (λ a.
    let p = header_passed d (eqb-true _ _ a) in
    let m : (extensions_of (drop (size_of (user_octet d 0)) d) (first_type d)).number ≡ taken → ⊥ = rw a at n in
    let w = ext_refused (drop (size_of (user_octet d 0)) d) (first_type d) m in
    let s = length-drop (size_of (user_octet d 0)) d in
    rw a (omega (arith, p.whole)))
    (λ a. rw a)

-- the header has just the octets that its size says, and header and payload are the whole datagram
pub user_whole : (d : List ℕ)
    → (length (take (user_of d).size d) ≡ (user_of d).size) × (take (user_of d).size d ++ drop (user_of d).size d ≡ d)
user_whole d = let w = user_within d in (simp length-take (omega arith), take-append-drop (user_of d).size d)
