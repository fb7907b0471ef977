use Rattle.std.proofs.Common.{◌≡◌, min, length, rules}
use Rattle.unit_store.specs.Row.{size_in, laid-part, laid_long}
use Rattle.unit_store.proofs.lay_row.Goals as goal

pub returns : goal.returns
unfolding size_in
returns c = let a = c.args in
    let l : length a.r.now ≡ 139 = search rules in
    let n : c.min-n.result ≡ min (size_in a.r.now) 128 = rw (c.min-n.ensures, c.from.ensures) in
    record {
      length = laid_long a.r.now c.min-n.result l n;
      octets = rw (laid-part a.r.now c.min-n.result l n) at c.copy_front.ensures;
    }
