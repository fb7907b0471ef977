use Rattle.std.proofs.Common.{◌≡◌, take}
use Rattle.base_numerals.specs.Laid.{laid, written}
use Rattle.base_numerals.specs.Hex.{hex_of}
use Rattle.base_numerals.proofs.put_hex.Given as goal

abbrev pub invariant-loop-x : goal.invariant-loop-x
invariant-loop-x l = written l.p l.out ≡ laid l.at (hex_of (take l.x-index l.octets)) l.fn.out
