-- How long the lines are that the bench prints, whatever the numbers: a decimal has at most 20 digits.
-- Assumes nothing.
use Rattle.std.specs.Prelude.{ℕ, zero, suc, ◌+◌, ◌*◌, ◌-◌, ◌/◌, ◌%◌, ◌≤◌, not, ◌&&◌, ◌||◌, List, Option, Some, None, ◌≡◌, refl, length, eqb, leb, ltb}
use Rattle.std.proofs.Common.{arith, length-append}
use Rattle.base_octets.specs.Choice.{split}
use Rattle.base_octets.specs.Every.{every}
use Rattle.base_octets.specs.Overlay.{length-overlay}
use Rattle.base_numerals.specs.Decimal.{digits, decimal}
use Rattle.base_numerals.specs.Hex.{length_hex, octets_in, octets_read, is_hex}
use Rattle.bench_text.specs.Fields.{tabs_in}
use Rattle.bench_text.specs.declared.Line.{Line}
use Rattle.bench_text.specs.Lines.{octets_up_to, datagram_read, named, point_read, lettered, begun, good_read, letter_of, longest, line_read}
use Rattle.unit_plan.specs.Limits.{longest_name}
use Rattle.bench_text.specs.Prints.{octets_text, reply_text, answer_text, packet_text, due_text, counted_text, bad_text, live_text}

digits_most : (k w n : ℕ) → length (digits k w n) ≤ k
unfolding digits
digits_most zero w n = omega arith
digits_most (suc k) w n =
    let r = digits_most k (w - 1) (n / 10) in
    split (leb 10 n || ltb 1 w) (λ e. rw e (simp length-append (omega arith))) (λ e. rw e (omega arith))

decimal_most : (w n : ℕ) → length (decimal w n) ≤ 20
unfolding decimal
decimal_most w n = digits_most 20 w n

-- octets in hex, or a dash
pub octets_most : (l : List ℕ) → length (octets_text l) ≤ 2 * length l + 1
unfolding octets_text
octets_most l = let h = length_hex l in split (eqb (length l) 0) (λ e. rw e (omega arith)) (λ e. rw e (omega arith))

reply_most : (number : ℕ) (reply : List ℕ) → length (reply_text number reply) ≤ 2 * length reply + 22
unfolding reply_text
reply_most number reply =
    let a = decimal_most 1 number in
    let b = octets_most reply in
    simp length-append (omega arith)

pub answer_most : (number : ℕ) (reply : List ℕ) → length (answer_text number reply) ≤ 2 * length reply + 23
unfolding answer_text
answer_most number reply = let a = reply_most number reply in simp length-append (omega arith)

pub packet_most : (number : ℕ) (reply payload : List ℕ) → length (packet_text number reply payload) ≤ 2 * length reply + 2 * length payload + 25
unfolding packet_text
packet_most number reply payload =
    let a = reply_most number reply in
    let b = octets_most payload in
    simp length-append (omega arith)

pub due_most : (datagram : List ℕ) → length (due_text datagram) ≤ 2 * length datagram + 4
unfolding due_text
due_most datagram = let a = octets_most datagram in simp length-append (omega arith)

counted_most : (letter n : ℕ) → length (counted_text letter n) ≤ 23
unfolding counted_text
counted_most letter n = let a = decimal_most 1 n in simp length-append (omega arith)

pub bad_most : (n : ℕ) → length (bad_text n) ≤ 23
unfolding bad_text
bad_most n = counted_most 69 n

pub live_most : (n : ℕ) → length (live_text n) ≤ 23
unfolding live_text
live_most n = counted_most 76 n

-- ---- the octets that a line brings stand in the buffer that was lent
read_length : (l out : List ℕ) → length (octets_read l out).out ≡ length out
unfolding octets_read
read_length l out =
    split (not (eqb (length l % 2) 0) || ltb (length out) (length l / 2)) (λ e. rw e)
    (λ e. rw e (split (every is_hex l) (λ f. rw f (length-overlay (octets_in l) out)) (λ f. rw f)))

up_to_length : (most : ℕ) (l out : List ℕ) → length (octets_up_to most l out).out ≡ length out
unfolding octets_up_to
up_to_length most l out = split (ltb most (length l / 2)) (λ e. rw e) (λ e. rw e (read_length l out))

named-length : (f : Option (ℕ → Line)) (text out : List ℕ) → length (named f text out).octets ≡ length out
named-length (Some f) text out = up_to_length longest_name text out
named-length None text out = refl

lettered-length : (letter tabs : ℕ) (l out : List ℕ) → length (lettered letter tabs l out).octets ≡ length out
unfolding datagram_read point_read
lettered-length letter tabs l out =
    split (eqb letter 78 && eqb tabs 7) (λ e. rw e)
    (λ e. rw e (split (eqb letter 65 && eqb tabs 3) (λ f. rw f (named-length _ _ out))
    (λ f. rw f (split (eqb letter 67 && eqb tabs 1) (λ g. rw g (up_to_length _ _ out))
    (λ g. rw g (split (eqb letter 85 && eqb tabs 1) (λ h. rw h (up_to_length _ _ out))
    (λ h. rw h (split (eqb letter 68 && eqb tabs 1) (λ i. rw i (up_to_length _ _ out))
    (λ i. rw i (split (eqb letter 84 && eqb tabs 0) (λ j. rw j)
    (λ j. rw j (split (eqb letter 88 && eqb tabs 1) (λ k. rw k) (λ k. rw k)))))))))))))

begun-length : (letter : Option ℕ) (l out : List ℕ) → length (begun letter l out).octets ≡ length out
begun-length (Some letter) l out = lettered-length letter (tabs_in l) l out
begun-length None l out = refl

pub line_read_length : (l out : List ℕ) → length (line_read l out).octets ≡ length out
unfolding line_read good_read
line_read_length l out = split (ltb longest (length l)) (λ e. rw e) (λ e. rw e (begun-length (letter_of l) l out))
