use mathlib.Core.Path.{sym, ◌∙◌}
use native.Mathlib.Omega.{arith}
use Rattle.base_octets.specs.Places.{tail_part}
use Rattle.wire_user.specs.Stretch.{stretch_end, stretch_must, stretch-unfit, stretch_pause, stretch_on}
use Rattle.wire_user.proofs.+walk.Goals as goal

pub returns-then-next-eq0 : goal.returns-then-next-eq0
returns-then-next-eq0 t c = let a = c.args in sym (stretch_end a.more a.rest.now a.next c.if-next-eq0.true)

pub returns-then-next-ge-FIRST_MUST : goal.returns-then-next-ge-FIRST_MUST
returns-then-next-ge-FIRST_MUST t c = let a = c.args in sym (stretch_must a.rest.now a.next c.if-next-eq0.false a.more (omega arith))

pub returns-then-n-rest : goal.returns-then-n-rest
returns-then-n-rest t c =
    let a = c.args in
    let x = c.extent-n in
    sym (stretch-unfit a.rest.now a.next c.if-next-eq0.false x.result (omega arith) x.ensures a.more c.if-n-rest.true)

pub returns-then-more-eq0 : goal.returns-then-more-eq0
returns-then-more-eq0 t c =
    let a = c.args in
    let x = c.extent-n in
    sym (stretch_pause a.rest.now a.next c.if-next-eq0.false x.result (omega arith) x.ensures a.more c.if-more-eq0.true c.if-n-rest.false)

pub returns : goal.returns
returns t c =
    let a = c.args in
    let x = c.extent-n in
    let e = simp tail_part at c.walk.ensures in
    e ∙ sym (stretch_on a.rest.now a.next c.if-next-eq0.false x.result (omega arith) x.ensures a.more c.if-more-eq0.false c.if-n-rest.false)
