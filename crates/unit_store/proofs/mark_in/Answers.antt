use Rattle.std.proofs.Common.{◌≡◌, true, sym, ◌∙◌, rules}
use Rattle.unit_store.specs.Row.{mark_in, reply_ok, scattered, three_in, EightIn, scattered-fits}
use Rattle.unit_store.proofs.mark_in.Goals as goal

pub returns-then-is_unused : goal.returns-then-is_unused
unfolding mark_in
returns-then-is_unused c = rw (sym c.is_unused.ensures ∙ c.if-is_unused.true)

pub reply_ok-requires : goal.reply_ok-requires
unfolding three_in
reply_ok-requires c = c.scattered-key.ensures ∙ rw (c.be32-head.ensures, c.be32-teid.ensures)

pub returns-then-not-reply_ok : goal.returns-then-not-reply_ok
unfolding mark_in
returns-then-not-reply_ok c = rw (sym c.is_unused.ensures ∙ c.if-is_unused.false, sym c.reply_ok.ensures ∙ c.if-not-reply_ok.true)

pub returns : goal.returns
unfolding mark_in three_in
returns c = let o : EightIn c.args.r.now = record { head = search rules; teid = search rules } in
    let k : reply_ok c.args.r.now ≡ true = sym c.reply_ok.ensures ∙ c.if-not-reply_ok.false in
    let m : c.scattered-key.result ≡ scattered (three_in c.args.r.now) = c.scattered-key.ensures ∙ rw (c.be32-head.ensures, c.be32-teid.ensures) (scattered-fits c.args.r.now o k) in
    rw (sym c.is_unused.ensures ∙ c.if-is_unused.false, k, m)
