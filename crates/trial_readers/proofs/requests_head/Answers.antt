use mathlib.Core.Path.{◌≡◌}
use Rattle.wire_header.specs.Gate.{gate_of}
use Rattle.trial_readers.specs.Decoding.{head_numbers, fields_octet}
use Rattle.trial_readers.proofs.requests_head.Goals as goal
use Rattle.trial_readers.proofs.requests_head.Goals.{in-Ok, in-Err}

pub returns : goal.returns
unfolding head_numbers
returns c = let n : c.match-gate.number ≡ gate_of c.args.d.now = elim c.match-gate.branch [ in-Ok w ↦ cc w.in-Ok.ensures.number | in-Err w ↦ cc w.in-Err.ensures.number ] in
    rw (c.from-2.ensures, c.from.ensures, c.of-h.ensures, n, fields_octet _)
