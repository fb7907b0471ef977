use Rattle.std.proofs.Common.{sym, ◌∙◌}
use Rattle.step_check.specs.Digest.{digest_free, digest_taken}
use Rattle.lent_check.proofs.digest.Goals as goal

pub returns-then-is_free : goal.returns-then-is_free
returns-then-is_free c = c.free_digest.ensures ∙ digest_free c.args.b c.args.s.now c.free_ok.result c.free_ok.ensures (sym c.is_free.ensures ∙ c.if-is_free.true)

pub returns : goal.returns
returns c = c.taken_digest.ensures ∙ digest_taken c.args.b c.args.s.now (sym c.is_free.ensures ∙ c.if-is_free.false)
