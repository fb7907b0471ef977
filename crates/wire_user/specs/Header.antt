-- The header of a user datagram (document 01, "User header"): its first octet, its 8 octets and the optional 4, what the
-- datagram is, and the refusals 3, 12, 6, 7 and 13 in document 01's order.
-- Assumes nothing.
use Rattle.std.specs.Prelude.{ℕ, ◌-◌, ◌/◌, ◌%◌, ◌≤◌, Bool, true, false, not, ◌&&◌, ◌||◌, List, [], ◌∷◌, ◌≡◌, length, get_or, eqb, ltb}
use Rattle.std.proofs.Common.{sym, arith, eq-eqb, ne_eqb, eqb-true, le-ltb, ltb-false}
use Rattle.base_octets.specs.Number.{taken, under_eight, length_unfit, type_not_taken, not_user, part_cut}
use Rattle.base_octets.specs.BigEndian.{number_of}
use Rattle.base_octets.specs.Choice.{pick, split, impossible}
use Rattle.wire_user.specs.declared.Header.{Header}
use Rattle.wire_user.specs.declared.Header.TheVariants.{Echo, Packet}

-- the octets of every header, and of one with the optional part
abbrev pub fixed_size : ℕ
fixed_size = 8

abbrev pub whole_size : ℕ
whole_size = 12

-- the message types taken
abbrev pub user_echo_type : ℕ
user_echo_type = 1

abbrev pub packet_type : ℕ
packet_type = 255

-- ---- the first octet: version (3 bits), PT, an ignored bit, E, S, PN
unfoldable pub ours : ℕ → Bool
ours first = eqb (first / 32) 1 && eqb (first / 16 % 2) 1

abbrev pub extended : ℕ → Bool
extended first = eqb (first / 4 % 2) 1

abbrev pub sequenced : ℕ → Bool
sequenced first = eqb (first / 2 % 2) 1

abbrev pub numbered : ℕ → Bool
numbered first = eqb (first % 2) 1

-- any of E, S, PN: the 4 optional octets are there
unfoldable pub optional : ℕ → Bool
optional first = extended first || sequenced first || numbered first

unfoldable pub size_of : ℕ → ℕ
size_of first = pick (optional first) whole_size fixed_size

unfoldable pub type_taken : ℕ → Bool
type_taken type = eqb type user_echo_type || eqb type packet_type

-- ---- the octets in their places
abbrev pub user_octet : List ℕ → ℕ → ℕ
user_octet d i = get_or d i 0

abbrev pub user_length_of : List ℕ → ℕ
user_length_of d = number_of (user_octet d 2 ∷ user_octet d 3 ∷ [])

abbrev pub type_of : List ℕ → ℕ
type_of d = user_octet d 1

-- 0 where the header is cut
unfoldable pub user_teid_of : List ℕ → ℕ
user_teid_of d = pick {A = ℕ} (ltb (length d) fixed_size) 0 (number_of (user_octet d 4 ∷ user_octet d 5 ∷ user_octet d 6 ∷ user_octet d 7 ∷ []))

-- 0 if S is unset, or the optional part is cut
unfoldable pub user_sequence_of : List ℕ → ℕ
user_sequence_of d = pick {A = ℕ} (ltb (length d) whole_size) 0 (pick (sequenced (user_octet d 0)) (number_of (user_octet d 8 ∷ user_octet d 9 ∷ [])) 0)

-- the number of the first refusal that the header meets, or 0
unfoldable pub refusal_of : List ℕ → ℕ
refusal_of d =
    pick {A = ℕ} (ltb (length d) fixed_size) under_eight
    (pick (not (ours (user_octet d 0))) not_user
    (pick (not (eqb (user_length_of d) (length d - fixed_size))) length_unfit
    (pick (not (type_taken (type_of d))) type_not_taken
    (pick (optional (user_octet d 0) && ltb (length d) whole_size) part_cut taken))))

-- what a datagram is that is not refused, as its first 12 octets say
unfoldable pub user_header_of : List ℕ → Header
user_header_of d = pick (eqb (type_of d) user_echo_type) (Echo (user_sequence_of d)) (Packet (record { 0 = user_teid_of d }))

-- ---- laws
pub optional_plain : (first : ℕ) → optional first ≡ false → extended first ≡ false
unfolding optional
optional_plain first e = split (extended first) (λ a. impossible (sym (rw a at e))) (λ a. a)

pub size_optional : (first : ℕ) → optional first ≡ true → size_of first ≡ whole_size
unfolding size_of
size_optional first e = rw e

pub size_plain : (first : ℕ) → optional first ≡ false → size_of first ≡ fixed_size
unfolding size_of
size_plain first e = rw e

-- what a header that is not refused has
pub record UserPassed (d : List ℕ) : Type 0 where
  pub is_ours : ours (user_octet d 0) ≡ true
  pub exact : user_length_of d ≡ length d - fixed_size
  pub is_taken : type_taken (type_of d) ≡ true
  pub fixed : fixed_size ≤ length d
  pub whole : size_of (user_octet d 0) ≤ length d

whole_size_lem : (first n : ℕ) → fixed_size ≤ n → (optional first && ltb n whole_size) ≡ false → size_of first ≤ n
whole_size_lem first n f e =
    split (optional first)
    (λ a. let b : ltb n whole_size ≡ false = rw a at e in rw (size_optional first a) (ltb-false n whole_size b))
    (λ a. rw (size_plain first a) f)

pub header_passed : (d : List ℕ) → refusal_of d ≡ taken → UserPassed d
unfolding refusal_of
header_passed d e =
    split (ltb (length d) fixed_size) (λ a. let z = rw a at e in absurd (omega arith))
    (λ a. let e₁ = rw a at e in
    split (ours (user_octet d 0))
    (λ b. let e₂ = rw b at e₁ in
    split (eqb (user_length_of d) (length d - fixed_size))
    (λ f. let e₃ = rw f at e₂ in
    split (type_taken (type_of d))
    (λ g. let e₄ = rw g at e₃ in
    split (optional (user_octet d 0) && ltb (length d) whole_size) (λ h. let z = rw h at e₄ in absurd (omega arith))
    (λ h. let k = ltb-false (length d) fixed_size a in
    record { is_ours = b; exact = eqb-true _ _ f; is_taken = g; fixed = k; whole = whole_size_lem (user_octet d 0) (length d) k h }))
    (λ g. let z = rw g at e₃ in absurd (omega arith)))
    (λ f. let z = rw f at e₂ in absurd (omega arith)))
    (λ b. let z = rw b at e₁ in absurd (omega arith)))

-- what is said in a header that has its octets
module _ (d : List ℕ) where
  pub teid_there : fixed_size ≤ length d → user_teid_of d ≡ number_of (user_octet d 4 ∷ user_octet d 5 ∷ user_octet d 6 ∷ user_octet d 7 ∷ [])
  unfolding user_teid_of
  teid_there h = rw (le-ltb (length d) fixed_size h)

  pub header_packet : (type_of d ≡ user_echo_type → ⊥) → user_header_of d ≡ Packet (record { 0 = user_teid_of d })
  unfolding user_header_of
  header_packet h = rw (ne_eqb _ _ h)

  pub header_echo : type_of d ≡ user_echo_type → user_header_of d ≡ Echo (user_sequence_of d)
  unfolding user_header_of
  header_echo h = rw (eq-eqb _ _ h)
