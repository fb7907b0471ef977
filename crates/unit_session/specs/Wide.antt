-- Several fields tested at once: the bits of all of them together are 0 where each of them is.
-- Assumes nothing.
use Rattle.std.specs.Prelude.{◌≡◌, ℕ, ◌+◌, ◌*◌, ◌<◌, ◌≤◌, Bool, true, false, ◌&&◌, leb, ◌==◌, ◌≢◌, bit_or, nat_eq, nat_le, refl}
use Rattle.std.proofs.Common.{sym, ◌∙◌, arith}
use Rattle.std.proofs.lemmas.Nat.{and_le_r, or_lt}
use Rattle.std.specs.Int.Bits.{or_add_and, or_zero_l}
use borrow.Author.Tests.{eqb-true, eqb-false, eq-eqb, ne_eqb, leb-true, le-leb, lt-leb}
use Rattle.base_octets.specs.Choice.{split, and_left, and_right, and_no}
use Rattle.unit_tunnel.specs.Numbering.{last_use}
use Rattle.unit_session.specs.declared.Session.{Session}
use Rattle.unit_session.specs.Session.{blank, free_ok}

-- a word has 32 bits
abbrev pub words : ℕ
words = 4294967296

-- a number in the machine has 64 bits
abbrev pub long_words : ℕ
long_words = 18446744073709551616

pub or_none : (a b : ℕ) → (bit_or a b == 0) ≡ (a == 0 && b == 0)
or_none a b = split (a == 0)
    (λ e. rw (eqb-true a 0 e, or_zero_l b))
    (λ e. let h = or_add_and a b in let m = and_le_r a b in rw (e, ne_eqb (bit_or a b) 0 (λ z. eqb-false a 0 e (omega arith))))

-- two tests that hold together
pub both_ways : (a b : Bool) → (a ≡ true → b ≡ true) → (b ≡ true → a ≡ true) → a ≡ b
both_ways true b f g = sym (f refl)
both_ways false true f g = g refl
both_ways false false f g = refl

-- eleven tests in two orders
shuffled : (a b c d f g h i j k l : Bool) → (a && (b && c && d && f && g && h) && (i && j && k && l)) ≡ (i && a && j && b && c && d && f && g && k && l && h)
shuffled a b c d f g h i j k l = both_ways _ _ there back
  where
    there : (a && (b && c && d && f && g && h) && (i && j && k && l)) ≡ true → (i && a && j && b && c && d && f && g && k && l && h) ≡ true
    there e =
        let a' : a ≡ true = search (and_left, and_right) depth 12 in
        let b' : b ≡ true = search (and_left, and_right) depth 12 in
        let c' : c ≡ true = search (and_left, and_right) depth 12 in
        let d' : d ≡ true = search (and_left, and_right) depth 12 in
        let f' : f ≡ true = search (and_left, and_right) depth 12 in
        let g' : g ≡ true = search (and_left, and_right) depth 12 in
        let h' : h ≡ true = search (and_left, and_right) depth 12 in
        let i' : i ≡ true = search (and_left, and_right) depth 12 in
        let j' : j ≡ true = search (and_left, and_right) depth 12 in
        let k' : k ≡ true = search (and_left, and_right) depth 12 in
        let l' : l ≡ true = search (and_left, and_right) depth 12 in
        rw (a', b', c', d', f', g', h', i', j', k', l')

    back : (i && a && j && b && c && d && f && g && k && l && h) ≡ true → (a && (b && c && d && f && g && h) && (i && j && k && l)) ≡ true
    back e =
        let a' : a ≡ true = search (and_left, and_right) depth 12 in
        let b' : b ≡ true = search (and_left, and_right) depth 12 in
        let c' : c ≡ true = search (and_left, and_right) depth 12 in
        let d' : d ≡ true = search (and_left, and_right) depth 12 in
        let f' : f ≡ true = search (and_left, and_right) depth 12 in
        let g' : g ≡ true = search (and_left, and_right) depth 12 in
        let h' : h ≡ true = search (and_left, and_right) depth 12 in
        let i' : i ≡ true = search (and_left, and_right) depth 12 in
        let j' : j ≡ true = search (and_left, and_right) depth 12 in
        let k' : k ≡ true = search (and_left, and_right) depth 12 in
        let l' : l ≡ true = search (and_left, and_right) depth 12 in
        rw (a', b', c', d', f', g', h', i', j', k', l')

-- a record's fields but for its use and its state, as the test of one number
pub blank_bits : (s : Session)
    → nat_eq (bit_or (bit_or s.imsi (bit_or (bit_or (bit_or (bit_or (bit_or s.control s.controladdr) s.user) s.useraddr) s.created) s.own.number))
    (bit_or (bit_or (bit_or s.point s.ebi) s.own.timer) s.own.sends)) 0
    ≡ blank s
unfolding blank
blank_bits s = simp or_none (shuffled (s.imsi == 0) (s.control == 0) (s.controladdr == 0) (s.user == 0) (s.useraddr == 0) (s.created == 0) (s.own.number == 0) (s.point == 0) (s.ebi == 0) (s.own.timer == 0) (s.own.sends == 0))

-- a record's fields of 8 bits, together
pub octets_fit : (s : Session) → s.point < 256 → s.ebi < 256 → s.own.timer < 256 → s.own.sends < 256
    → bit_or (bit_or (bit_or s.point s.ebi) s.own.timer) s.own.sends < long_words
octets_fit s a b c d =
    let w = or_lt 8 (bit_or (bit_or s.point s.ebi) s.own.timer) s.own.sends
    (or_lt 8 (bit_or s.point s.ebi) s.own.timer (or_lt 8 s.point s.ebi a b) c) d in
    omega arith

-- ---- a free record: the use and the control TEID as one number, the other fields by their bits
first_fits : (u c : ℕ) → u < words → nat_le (u + c * words) last_use ≡ (nat_le u last_use && c == 0)
unfolding last_use
first_fits u c h = both_ways (nat_le (u + c * words) last_use) (nat_le u last_use && c == 0) there back
  where
    there : leb (u + c * words) last_use ≡ true → (nat_le u last_use && c == 0) ≡ true
    there e = let l = leb-true (u + c * words) last_use e in rw (le-leb u last_use (omega arith), eq-eqb c 0 (omega arith))

    back : (nat_le u last_use && c == 0) ≡ true → nat_le (u + c * words) last_use ≡ true
    back e =
        let l = leb-true u last_use (and_left (nat_le u last_use) (c == 0) e) in
        let z = eqb-true c 0 (and_right (nat_le u last_use) (c == 0) e) in
        le-leb (u + c * words) last_use (omega arith)

-- all fields but the use, the control TEID and the state, by their bits
abbrev pub rest_bits : Session → ℕ
rest_bits s =
    bit_or (bit_or s.imsi (bit_or (bit_or (bit_or (bit_or s.controladdr s.user) s.useraddr) s.created) s.own.number))
    (bit_or (bit_or (bit_or s.point s.ebi) s.own.timer) s.own.sends)

control_first : (c i a u x r n o : Bool) → (c && (i && (a && u && x && r && n) && o)) ≡ (i && (c && a && u && x && r && n) && o)
control_first true i a u x r n o = refl
control_first false true a u x r n o = refl
control_first false false a u x r n o = refl

rest_bits_lem : (s : Session) → (s.control == 0 && rest_bits s == 0) ≡ blank s
rest_bits_lem s = simp or_none (control_first (s.control == 0) (s.imsi == 0) (s.controladdr == 0) (s.user == 0) (s.useraddr == 0) (s.created == 0) (s.own.number == 0)
    (s.point == 0 && s.ebi == 0 && s.own.timer == 0 && s.own.sends == 0))
    ∙ (simp or_none at (blank_bits s))

pub words_fit : (s : Session) → s.controladdr < words → s.user < words → s.useraddr < words → s.created < words → s.own.number < words
    → bit_or (bit_or (bit_or (bit_or s.controladdr s.user) s.useraddr) s.created) s.own.number < long_words
words_fit s a b c d e =
    let w = or_lt 32 (bit_or (bit_or (bit_or s.controladdr s.user) s.useraddr) s.created) s.own.number
    (or_lt 32 (bit_or (bit_or s.controladdr s.user) s.useraddr) s.created
    (or_lt 32 (bit_or s.controladdr s.user) s.useraddr (or_lt 32 s.controladdr s.user a b) c) d) e in
    omega arith

-- the three ways of the two tests
module _ (s : Session) (word : s.usage < words) where
  vacant_is : (nat_le s.usage last_use && blank s) ≡ (nat_le (s.usage + s.control * words) last_use && rest_bits s == 0)
  vacant_is = rw (← rest_bits_lem s, first_fits s.usage s.control word) (three (nat_le s.usage last_use) (s.control == 0) (rest_bits s == 0))
    where
      three : (a b c : Bool) → (a && (b && c)) ≡ (a && b && c)
      three true b c = refl
      three false b c = refl

  pub free_blank : s.usage + s.control * words ≤ last_use → rest_bits s ≡ 0 → true ≡ free_ok s
  unfolding free_ok
  free_blank l e = rw (vacant_is, le-leb (s.usage + s.control * words) last_use l, eq-eqb (rest_bits s) 0 e)

  pub free_filled : (rest_bits s ≢ 0) → false ≡ free_ok s
  unfolding free_ok
  free_filled e = rw (vacant_is, ne_eqb (rest_bits s) 0 e, and_no (nat_le (s.usage + s.control * words) last_use))

  pub free_used : last_use < s.usage + s.control * words → false ≡ free_ok s
  unfolding free_ok
  free_used l = rw (vacant_is, lt-leb (s.usage + s.control * words) last_use l)
