-- The first refusals of a control datagram, in document 01's order: 3, 5, 4, 7, 8 (T), 6, 8 (TEID).
-- Assumes nothing.
use Rattle.std.specs.Prelude.{ℕ, ◌+◌, ◌<◌, ◌≤◌, Bool, true, false, not, ◌&&◌, List, ◌≡◌, refl, length, get_or, eqb, ltb}
use Rattle.std.proofs.Common.{arith, eq-eqb, eqb-true, ltb-true, ltb-false}
use Rattle.base_octets.specs.Number.{taken, under_eight, flag_p_set, other_version, length_unfit, type_not_taken, teid_unfit}
use Rattle.base_octets.specs.Choice.{differs}
use Rattle.base_octets.specs.Every.{every, every-at}
use Rattle.base_octets.specs.BigEndian.{is_octet, number_of, number_from}
use Rattle.wire_header.specs.Types.{flag_of, not_taken}
use Rattle.wire_messages.specs.Types.{create_type}
use Rattle.wire_header.specs.Header.{version_of, flag_p, flag_t, kind_of, length_of, teid_of, header_size}

-- the version that control datagrams have
unfoldable pub control_version : ℕ
control_version = 2

-- a number where the test holds, else what comes next
abbrev pub refused_with : ℕ → Bool → ℕ → ℕ
refused_with n true rest = n
refused_with n false rest = rest

unfoldable pub gate_of : List ℕ → ℕ
gate_of d =
    refused_with under_eight (ltb (length d) 8) (
    refused_with other_version (not (eqb (version_of d) control_version)) (
    refused_with flag_p_set (eqb (flag_p d) 1) (
    refused_with type_not_taken (eqb (flag_of (kind_of d)) not_taken) (
    refused_with teid_unfit (not (eqb (flag_of (kind_of d)) (flag_t d))) (
    refused_with length_unfit (not (eqb (length_of d + 4) (length d))) (
    refused_with length_unfit (ltb (length d) (header_size d)) (
    refused_with teid_unfit (eqb (kind_of d) create_type && ltb 0 (teid_of d))
    taken)))))))

-- ---- what passing tells
pub record Passed (d : List ℕ) : Type 0 where
  pub size : 8 ≤ length d
  pub version : version_of d ≡ control_version
  pub plain : flag_p d ≡ 1 → ⊥
  pub taken : flag_of (kind_of d) ≡ not_taken → ⊥
  pub flag : flag_of (kind_of d) ≡ flag_t d
  pub stated : length_of d + 4 ≡ length d
  pub whole : header_size d ≤ length d
  pub create : kind_of d ≡ create_type → teid_of d ≡ 0

-- a chain that answered 0 passed its test
refused-not : {P : Type 0} (n : ℕ) (t : Bool) (rest : ℕ) → 0 < n → refused_with n t rest ≡ 0 → (t ≡ false → rest ≡ 0 → P) → P
refused-not n true rest h e k = absurd (omega arith)
refused-not n false rest h e k = k refl e

not_false_true : (t : Bool) → not t ≡ false → t ≡ true
not_false_true true e = refl
not_false_true false e = let z : ◌≡◌ {A = ℕ} 0 1 = cc in absurd (omega arith)

no_teid : (a b n : ℕ) → (eqb a b && ltb 0 n) ≡ false → a ≡ b → n ≡ 0
no_teid a b n e f = let g = rw (eq-eqb a b f) at e in omega (arith, ltb-false 0 n g)

pub gate_passed : (d : List ℕ) → gate_of d ≡ taken → Passed d
unfolding gate_of
gate_passed d e =
    refused-not under_eight _ _ (omega arith) e λ t1 e1.
    refused-not other_version _ _ (omega arith) e1 λ t2 e2.
    refused-not flag_p_set _ _ (omega arith) e2 λ t3 e3.
    refused-not type_not_taken _ _ (omega arith) e3 λ t4 e4.
    refused-not teid_unfit _ _ (omega arith) e4 λ t5 e5.
    refused-not length_unfit _ _ (omega arith) e5 λ t6 e6.
    refused-not length_unfit _ _ (omega arith) e6 λ t7 e7.
    refused-not teid_unfit _ _ (omega arith) e7 λ t8 e8.
    record {
      size = ltb-false (length d) 8 t1;
      version = eqb-true (version_of d) control_version (not_false_true _ t2);
      plain = differs (flag_p d) 1 t3;
      taken = differs (flag_of (kind_of d)) not_taken t4;
      flag = eqb-true (flag_of (kind_of d)) (flag_t d) (not_false_true _ t5);
      stated = eqb-true (length_of d + 4) (length d) (not_false_true _ t6);
      whole = ltb-false (length d) (header_size d) t7;
      create = no_teid (kind_of d) create_type (teid_of d) t8;
    }

-- a datagram that no 16-bit length can state never passes
pub gate_longest : (d : List ℕ) → every is_octet d ≡ true → gate_of d ≡ taken → length d < 65540
unfolding length_of number_of number_from is_octet
gate_longest d o e =
    let p = gate_passed d e in
    let s = p.stated in
    let a = ltb-true (get_or d 2 0) 256 (every-at is_octet d 2 0 o refl) in
    let b = ltb-true (get_or d 3 0) 256 (every-at is_octet d 3 0 o refl) in
    omega arith
