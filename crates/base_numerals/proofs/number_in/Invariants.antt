use Rattle.std.proofs.Common.{◌≡◌, ◌<◌, drop}
use Rattle.base_numerals.specs.Decimal.{number_in, read_from}
use Rattle.base_numerals.proofs.number_in.Given as goal

abbrev pub invariant-loop-c : goal.invariant-loop-c
invariant-loop-c l = (l.n < 256) × (number_in l.text ≡ read_from l.n (drop l.c-index l.text))
