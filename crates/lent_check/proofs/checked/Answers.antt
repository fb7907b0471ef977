-- Nothing of what is read is looked at here: it goes from one call to the next.
use Rattle.std.proofs.Common.{Bool, ◌&&◌, ◌∙◌, ap, refl}
use Rattle.base_octets.specs.Choice.{pick}
use Rattle.step_keys.specs.Survey.{wait_of}
use Rattle.step_check.specs.declared.Standing.{Standing}
use Rattle.step_check.specs.declared.Standing.TheVariants.{Broken, Quiet, Awaiting}
use Rattle.step_check.specs.Summary.{checked_as, waits_apart}
use Rattle.lent_check.specs.Read.{read_of}
use Rattle.lent_check.specs.Kept.{checked_apart, checked_calm}
use Rattle.lent_check.proofs.checked.Goals as goal

pub returns-then-wanted : goal.returns-then-wanted
returns-then-wanted c = let a = c.args in
    c.checked_awaiting.ensures
    ∙ ap (λ (z : Bool). checked_as (pick {A = Standing} (z && waits_apart a.node c.awaited-waits.result) Awaiting Broken) c.findings_lent-findings.result) c.kept_but-kept.ensures
    ∙ checked_apart a.node a.key a.recs.now c.bounds-b.result c.findings_lent-findings.result c.waiting-wanted.result c.awaited-waits.result
    c.bounds-b.ensures c.findings_lent-findings.ensures c.waiting-wanted.ensures c.awaited-waits.ensures c.if-wanted.true

pub returns : goal.returns
returns c = let a = c.args in
    c.checked_quiet.ensures
    ∙ ap (λ (z : Bool). checked_as (pick {A = Standing} z Quiet Broken) c.findings_lent-findings.result) c.kept_but-kept.ensures
    ∙ checked_calm a.node a.key a.recs.now c.bounds-b.result c.findings_lent-findings.result c.waiting-wanted.result
    (read_of (λ z. wait_of z.own) c.waiting-wanted.result a.recs.now) c.bounds-b.ensures c.findings_lent-findings.ensures c.waiting-wanted.ensures refl c.if-wanted.false
