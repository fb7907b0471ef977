-- The digit check goes from the last octet back to the first. A half that fails there decides alone; the octets that passed are read behind
-- whatever number the octets before them will write.
-- Assumes nothing.
use Prim.Native.Nat.{ℕ, zero, suc, ◌+◌, ◌*◌, ◌/◌, ◌%◌, ◌<◌, ◌≤◌}
use mathlib.Core.Bool.{◌&&◌}
use mathlib.Core.List.{List}
use mathlib.Core.Path.{◌≡◌, refl, ◌∙◌}
use native.Mathlib.Nat.{mul_assoc, mul_comm, mul_left_comm, add-mul, add_assoc, add_comm, add_left_comm, mul-le-mul_right}
use native.Mathlib.Numerals.{add-one}
use native.Mathlib.Omega.{arith}
use Rattle.std.specs.Prelude.{[], ◌∷◌, ◌++◌, length, take, drop, get_or}
use Rattle.std.proofs.Common.{ap, sym, append_assoc, length-append}
use Rattle.std.proofs.lemmas.List.{take-append-drop}
use Rattle.std.proofs.Math.Seq.{take-append_seam}
use borrow.Author.Tests.{ne_eqb, eq-eqb, lt-leb, le-leb}
use Rattle.base_octets.specs.Choice.{split, and_no}
use Rattle.wire_fields.specs.Imsi.{halves, is_half, digits_from, digits_on, digits_off, digits_end}
use Rattle.wire_fields.specs.declared.Flaw.TheVariants.{Wrong}
use Rattle.std.specs.Prelude.{Ok, Err}

-- what is wrong from octet i on, behind any number, is wrong
wrong-back : (v : List ℕ) (i : ℕ) → i < length v → ((n : ℕ) → digits_from n (halves (drop i v)) ≡ Err Wrong) → digits_from 0 (halves v) ≡ Err Wrong
wrong-back v zero h w = w 0
wrong-back v (suc i) h w = wrong-back v i (omega arith) before
  where
    before : (n : ℕ) → digits_from n (halves (drop i v)) ≡ Err Wrong
    before n =
        split (is_half (get_or v i 0 % 16) && is_half (get_or v i 0 / 16))
        (λ e. digits_on v i n (omega arith) e ∙ rw add-one (w _))
        (λ e. digits_off v i n (omega arith) e)

-- the last of the octets that are left, and those before it
last_at : (before : List ℕ) (x : ℕ) (behind : List ℕ) → get_or (before ++ x ∷ behind) (length before) 0 ≡ x
last_at [] x behind = refl
last_at (b ∷ before) x behind = last_at before x behind

pub last_left : (v left before : List ℕ) (x : ℕ) → left ≡ take (length left) v → left ≡ before ++ x ∷ []
    → (length left ≡ length before + 1) × (before ≡ take (length before) v) × (get_or v (length before) 0 ≡ x)
last_left v left before x e f =
    let b = drop (length left) v in
    let j : take (length left) v ++ b ≡ v = take-append-drop (length left) v in
    let k : before ++ x ∷ b ≡ v = sym (append_assoc before (x ∷ []) b) ∙ ap (λ (l : List ℕ). l ++ b) (sym f ∙ e) ∙ j in
    (ap length f ∙ simp length-append refl, sym (rw k at (take-append_seam before (x ∷ b))), rw k at (last_at before x b))

-- the octets from the i-th on are digits and F: behind n, which is worth `worth` there, they write m
abbrev pub read : List ℕ → ℕ → ℕ → ℕ → Type 0
read v i worth m = (n : ℕ) → digits_from n (halves (drop i v)) ≡ Ok (n * worth + m)

pub all_read : (v : List ℕ) (worth m : ℕ) → read v 0 worth m → digits_from 0 (halves v) ≡ Ok m
all_read v worth m r = let z : 0 * worth + m ≡ m = omega arith in r 0 ∙ rw z

two_more : (n two worth m : ℕ) → (n * 100 + two) * worth + m ≡ n * (worth * 100) + (m + two * worth)
two_more n two worth m = simp (add-mul, mul_assoc, mul_comm, mul_left_comm, add_assoc, add_comm, add_left_comm) refl

pub two_below : (two worth m : ℕ) → two ≤ 99 → m < worth → m + two * worth < worth * 100
two_below two worth m h k = let t = mul-le-mul_right worth h in omega arith

module _ (v : List ℕ) (i : ℕ) where
  -- the last octet: the sixteenth half, then the fifteenth
  pub filler_wrong : i + 1 ≡ length v → (get_or v i 0 / 16 ≡ 15 → ⊥) → digits_from 0 (halves v) ≡ Err Wrong
  filler_wrong h e = wrong-back v i (omega arith) (λ n. digits_end v i n h ∙ rw (ne_eqb _ _ e, and_no (is_half (get_or v i 0 % 16))))

  pub fifteenth_wrong : i + 1 ≡ length v → 9 < get_or v i 0 % 16 → digits_from 0 (halves v) ≡ Err Wrong
  unfolding is_half
  fifteenth_wrong h e = wrong-back v i (omega arith) (λ n. digits_end v i n h ∙ rw (lt-leb _ _ e))

  pub last_read : i + 1 ≡ length v → get_or v i 0 / 16 ≡ 15 → get_or v i 0 % 16 ≤ 9 → read v i 10 (get_or v i 0 % 16)
  unfolding is_half
  last_read h f d n = digits_end v i n h ∙ rw (eq-eqb _ _ f, le-leb _ _ d)

  -- an octet before it: its high half, then its low half
  pub high_wrong : i + 1 < length v → 9 < get_or v i 0 / 16 → digits_from 0 (halves v) ≡ Err Wrong
  unfolding is_half
  high_wrong h e = wrong-back v i (omega arith) (λ n. digits_off v i n h (rw (lt-leb _ _ e) (and_no (is_half (get_or v i 0 % 16)))))

  pub low_wrong : i + 1 < length v → 9 < get_or v i 0 % 16 → digits_from 0 (halves v) ≡ Err Wrong
  unfolding is_half
  low_wrong h e = wrong-back v i (omega arith) (λ n. digits_off v i n h (rw (lt-leb _ _ e) refl))

  pub octet-read : (worth m : ℕ) → i + 1 < length v → get_or v i 0 / 16 ≤ 9 → get_or v i 0 % 16 ≤ 9
      → read v (i + 1) worth m → read v i (worth * 100) (m + (get_or v i 0 % 16 * 10 + get_or v i 0 / 16) * worth)
  unfolding is_half
  octet-read worth m h a b r n =
      let two = get_or v i 0 % 16 * 10 + get_or v i 0 / 16 in
      digits_on v i n h (rw (le-leb _ _ a, le-leb _ _ b) refl) ∙ r (n * 100 + two) ∙ rw (two_more n two worth m)
