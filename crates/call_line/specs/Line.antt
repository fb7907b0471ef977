-- The line of a place: place, use, state (F, L or X for closing), access point, IMSI (15 digits), EBI, peer control TEID, its address
-- (hex), peer user TEID, its address (hex), creating sequence; fields parted by tabs; a free place has a dash in each field from the
-- fourth on.
-- Assumes nothing.
use Rattle.std.specs.Prelude.{ℕ, suc, ◌+◌, ◌<◌, ◌≤◌, ◌^◌, Bool, List, [], ◌∷◌, ◌++◌, ◌≡◌, length, get_or, ltb}
use Rattle.std.proofs.Common.{arith}
use Rattle.std.proofs.Math.ListN.{length-append}
use Rattle.base_octets.specs.Number.{taken, reply_short, rules_broken, no_place}
use Rattle.base_octets.specs.Choice.{pick, split}
use Rattle.base_octets.specs.BigEndian.{octets_of, length_octets}
use Rattle.base_octets.specs.Overlay.{overlay}
use Rattle.base_numerals.specs.Laid.{laid, written, laid-front}
use Rattle.base_numerals.specs.Decimal.{decimal, decimal_size}
use Rattle.base_numerals.specs.Hex.{hex_of, length_hex}
use Rattle.unit_tunnel.specs.Numbering.{places}
use Rattle.unit_session.specs.declared.Session.{Session}
use Rattle.unit_session.specs.Session.{is_free, is_closing}
use Rattle.unit_table.specs.declared.Node.{Node}
use Rattle.unit_table.specs.Rules.{keeps_rules}
use Rattle.unit_table.specs.Change.{nobody}
use Rattle.call_own.specs.Outcome.{Outcome, least_reply, no_places, bare, Back, back, back_with}

-- a tab, then the field
unfoldable pub number_text : ℕ → List ℕ
number_text n = 9 ∷ decimal 1 n

unfoldable pub imsi_text : ℕ → List ℕ
imsi_text n = 9 ∷ decimal 15 n

unfoldable pub address_text : ℕ → List ℕ
address_text n = 9 ∷ hex_of (octets_of 4 n)

unfoldable pub state_letter : Session → ℕ
state_letter s = pick {A = ℕ} (is_free s) 70 (pick {A = ℕ} (is_closing s) 88 76)

unfoldable pub held_text : Session → List ℕ
held_text s =
    number_text s.point ++ imsi_text s.imsi ++ number_text s.ebi
    ++ (number_text s.control ++ address_text s.controladdr)
    ++ (number_text s.user ++ address_text s.useraddr)
    ++ number_text s.created

-- eight fields of a dash each
unfoldable pub dashes : List ℕ
dashes = 9 ∷ 45 ∷ 9 ∷ 45 ∷ 9 ∷ 45 ∷ 9 ∷ 45 ∷ 9 ∷ 45 ∷ 9 ∷ 45 ∷ 9 ∷ 45 ∷ 9 ∷ 45 ∷ []

unfoldable pub rest_text : Session → List ℕ
rest_text s = pick (is_free s) dashes (held_text s)

unfoldable pub line_text : ℕ → Session → List ℕ
line_text place s = decimal 1 place ++ number_text s.usage ++ (9 ∷ []) ++ (state_letter s ∷ []) ++ rest_text s

-- ---- the call: 1, 2, 10; a line that is longer than the buffer would be cut, and none is (`line_fits`)
-- of the record of a place, where it is known whether the rules are kept and whether there is such a place
unfoldable pub line_by : Bool → Bool → Node → ℕ → Session → List ℕ → Back
line_by kept there node place s reply =
    pick (ltb (length reply) least_reply) (back (bare reply_short node) reply)
    (pick kept
    (pick there
    (back (record { number = taken; size = (laid 0 (line_text place s) reply).at; node = node; span = no_places }) (laid 0 (line_text place s) reply).out)
    (back (bare no_place node) reply))
    (back (bare rules_broken node) reply))

-- the table stays
unfoldable pub line_of : Node → List Session → ℕ → List ℕ → Outcome
line_of node t place reply = back_with t (line_by (keeps_rules node t) (ltb place (length t)) node place (get_or t place nobody) reply)

-- ---- the line that is written
-- ---- no line is longer than the place's digits and 81 characters, so that none is cut: numbers of 32 bits, a use and a creating number of 24
-- the digits of a place, at most
unfoldable pub place_digits : ℕ
place_digits = 3

pub digits_hold : places ≤ 10 ^ place_digits
unfolding places place_digits
digits_hold = omega arith

number_size : (n m : ℕ) → n < 10 ^ suc m → length (number_text n) ≤ suc (suc m)
unfolding number_text
number_size n m h = let r = decimal_size 1 n m (omega arith) h in omega arith

address_size_lem : (n : ℕ) → length (address_text n) ≡ 9
unfolding address_text
address_size_lem n =
    let h = length_hex (octets_of 4 n) in
    let l = length_octets 4 n in
    omega arith

imsi_size_lem : (n : ℕ) → n < 10 ^ 15 → length (imsi_text n) ≤ 16
unfolding imsi_text
imsi_size_lem n h = let r = decimal_size 15 n 14 (omega arith) h in omega arith

module _ (s : Session)
    (imsi : s.imsi < 10 ^ 15) (point : s.point < 10 ^ 1) (ebi : s.ebi < 10 ^ 2)
    (control : s.control < 10 ^ 10) (user : s.user < 10 ^ 10) (created : s.created < 10 ^ 8) (usage : s.usage < 10 ^ 8) where
  rest_size : length (rest_text s) ≤ 70
  unfolding rest_text held_text dashes
  rest_size =
      let a = number_size s.point 0 point in
      let b = imsi_size_lem s.imsi imsi in
      let c = number_size s.ebi 1 ebi in
      let d = number_size s.control 9 control in
      let e = address_size_lem s.controladdr in
      let f = number_size s.user 9 user in
      let g = address_size_lem s.useraddr in
      let h = number_size s.created 7 created in
      split (is_free s) (λ z. rw z (omega arith)) (λ z. rw z (simp length-append (omega arith)))

  pub line_size : (place : ℕ) → place < places → length (line_text place s) ≤ place_digits + 81
  unfolding line_text place_digits
  line_size place h =
      let d = digits_hold in
      let a = decimal_size 1 place 2 (omega arith) (omega arith) in
      let b = number_size s.usage 7 usage in
      let r = rest_size in
      simp length-append (omega arith)

  pub line_fits : (place : ℕ) (reply : List ℕ) → place < places → least_reply ≤ length reply
      → laid 0 (line_text place s) reply ≡ written (length (line_text place s)) (overlay (line_text place s) reply)
  unfolding least_reply place_digits
  line_fits place reply h g = let r = line_size place h in laid-front (line_text place s) reply (omega arith)
