use Rattle.std.proofs.Common.{◌≡◌, take}
use Rattle.base_octets.specs.Overlay.{overlay}
use Rattle.base_numerals.specs.Hex.{octets_in}
use Rattle.base_numerals.proofs.read_octets.Given as goal

abbrev pub invariant-loop-i : goal.invariant-loop-i
invariant-loop-i l = l.out ≡ overlay (take l.i (octets_in l.text)) l.initial.out
