-- What a line of the bench's input says. N: control address, user address, pool base (8 hex digits each), Recovery, T, N, E. A: name in
-- hex, g, c. C or U with a datagram in hex, D with a packet in hex. T. X and a place. Any other line is a bad one; one whose first field is A is a bad line
-- of an access point.
-- Assumes nothing.
use Rattle.std.specs.Prelude.{ℕ, ◌/◌, ◌&&◌, List, [], ◌∷◌, Option, Some, None, unwrap_or, length, eqb, ltb}
use Rattle.std.specs.Option.{option_map}
use Rattle.base_octets.specs.Choice.{pick}
use Rattle.base_numerals.specs.Decimal.{number_in}
use Rattle.base_numerals.specs.Hex.{word_in, octets_read, Filled, filled}
use Rattle.bench_text.specs.declared.Line.{Line}
use Rattle.bench_text.specs.declared.Line.TheVariants.{Node, Point, Control, User, Down, Tick, Close, BadPoint, Bad}
use Rattle.bench_text.specs.Fields.{tabs_in, field_at}
use Rattle.unit_plan.specs.Limits.{longest_name}

-- a packet too
unfoldable pub datagram_most : ℕ
datagram_most = 2048

-- decimal numbers may have any number of zeros in front, so that only this bounds a line
unfoldable pub longest : ℕ
longest = 65535

-- what the line says, and the buffer with the octets that it brings
pub record Told : Type 0 where
  pub line : Line
  pub octets : List ℕ

abbrev pub told : Line → List ℕ → Told
told line octets = record { line = line; octets = octets }

-- what a good line says, or nothing, and the buffer
pub record Heard : Type 0 where
  pub line : Option Line
  pub octets : List ℕ

abbrev pub heard : Option Line → List ℕ → Heard
heard line octets = record { line = line; octets = octets }

-- the value of a field, or nothing where one before it is none
abbrev pub given : {A B : Type 0} → Option A → (A → Option B) → Option B
given (Some a) f = f a
given None f = None

abbrev pub sole : List ℕ → Option ℕ
sole [] = None
sole (c ∷ []) = Some c
sole (c ∷ d ∷ l) = None

-- the letter that is the first field
unfoldable pub letter_of : List ℕ → Option ℕ
letter_of l = sole (field_at 0 l)

-- ---- octets in hex, at most so many
unfoldable pub octets_up_to : ℕ → List ℕ → List ℕ → Filled
octets_up_to most l out = pick (ltb most (length l / 2)) (filled None out) (octets_read l out)

unfoldable pub datagram_read : List ℕ → List ℕ → Filled
datagram_read l out = octets_up_to datagram_most (field_at 1 l) out

-- a line that brings them
abbrev pub with_octets : (ℕ → Line) → Filled → Heard
with_octets f x = heard (option_map f x.size) x.out

-- ---- line by line
unfoldable pub node_read : List ℕ → Option Line
node_read l =
    given (word_in (field_at 1 l)) λ control.
    given (word_in (field_at 2 l)) λ user.
    given (word_in (field_at 3 l)) λ pool.
    given (number_in (field_at 4 l)) λ recovery.
    given (number_in (field_at 5 l)) λ resend.
    given (number_in (field_at 6 l)) λ sends.
    given (number_in (field_at 7 l)) λ interval.
    Some (Node control user pool recovery resend sends interval)

-- the numbers first: where one is none, the name is not read
abbrev pub named : Option (ℕ → Line) → List ℕ → List ℕ → Heard
named (Some f) text out = with_octets f (octets_up_to longest_name text out)
named None text out = heard None out

unfoldable pub point_read : List ℕ → List ℕ → Heard
point_read l out =
    named (given (number_in (field_at 2 l)) λ guarantee. given (number_in (field_at 3 l)) λ ceiling. Some (Point guarantee ceiling)) (field_at 1 l) out

abbrev pub close_read : List ℕ → Option Line
close_read l = option_map Close (number_in (field_at 1 l))

-- a good line, by its letter and its number of tabs
abbrev pub lettered : ℕ → ℕ → List ℕ → List ℕ → Heard
lettered letter tabs l out =
    pick (eqb letter 78 && eqb tabs 7) (heard (node_read l) out)
    (pick (eqb letter 65 && eqb tabs 3) (point_read l out)
    (pick (eqb letter 67 && eqb tabs 1) (with_octets Control (datagram_read l out))
    (pick (eqb letter 85 && eqb tabs 1) (with_octets User (datagram_read l out))
    (pick (eqb letter 68 && eqb tabs 1) (with_octets Down (datagram_read l out))
    (pick (eqb letter 84 && eqb tabs 0) (heard (Some Tick) out)
    (pick (eqb letter 88 && eqb tabs 1) (heard (close_read l) out) (heard None out)))))))

abbrev pub begun : Option ℕ → List ℕ → List ℕ → Heard
begun (Some letter) l out = lettered letter (tabs_in l) l out
begun None l out = heard None out

unfoldable pub good_read : List ℕ → List ℕ → Heard
good_read l out = pick (ltb longest (length l)) (heard None out) (begun (letter_of l) l out)

abbrev pub bad_read : Option ℕ → Line
bad_read (Some letter) = pick (eqb letter 65) BadPoint Bad
bad_read None = Bad

unfoldable pub line_read : List ℕ → List ℕ → Told
line_read l out = told (unwrap_or (good_read l out).line (bad_read (letter_of l))) (good_read l out).octets
