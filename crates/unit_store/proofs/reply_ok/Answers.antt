use Rattle.std.proofs.Common.{◌≡◌, ◌∙◌, rules}
use Rattle.unit_store.specs.Row.{type_ok, type_in, size_in, number_in, reply_ok, type_scattered}
use Rattle.unit_store.proofs.reply_ok.Goals as goal

pub returns : goal.returns
unfolding reply_ok size_in number_in
returns c =
    let t : c.type_ok.result ≡ type_ok (type_in c.args.r.now) = c.type_ok.ensures ∙ rw c.requires (type_scattered c.args.r.now (record { head = search rules; teid = search rules })) in
    rw (c.life_in.ensures, t, c.number_ok.ensures)
