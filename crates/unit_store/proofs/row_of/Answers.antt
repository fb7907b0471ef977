use Rattle.std.proofs.Common.{◌≡◌, min, length}
use Rattle.unit_store.specs.Row.{row_made, front_made, part_made}
use Rattle.unit_store.proofs.row_of.Goals as goal

pub returns : goal.returns
returns c = let a = c.args in
    let n : c.min-n.result ≡ min a.size (length a.reply.now) = rw c.from.ensures at c.min-n.ensures in
    row_made a.head a.teid a.number a.size a.reply.now _ _ _ _ _ (front_made a.head a.teid a.number a.size _ _ c.octets32-a.ensures c.octets32-b.ensures) (part_made c.min-n.result a.size a.reply.now n) c.blank_row-r.ensures c.copy_front.ensures c.copy_front-2.ensures
