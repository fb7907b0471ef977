use Rattle.std.proofs.Common.{◌≡◌, ◌/◌, arith}
use Rattle.step_keys.specs.Check.{unpacked_of}
use Rattle.step_keys.proofs.unpacked.Goals as goal

pub returns : goal.returns
unfolding unpacked_of
returns c = let n = c.args.counts in
    let t : n / 65536 / 65536 ≡ n / 4294967296 = omega arith in
    let f : n / 65536 / 65536 / 65536 ≡ n / 281474976710656 = omega arith in
    rw (f, t)
