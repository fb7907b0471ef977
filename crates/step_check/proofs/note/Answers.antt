use Rattle.std.proofs.Common.{◌≡◌, false, eqb, sym, ◌∙◌, ne_eqb}
use Rattle.step_check.specs.Digest.{key_in}
use Rattle.step_check.specs.Over.{enters_none, marks_none, flags_none, tallied_none, flags_in, tallied_in}
use Rattle.step_check.proofs.note.Goals as goal

pub returns-then-key-eq0 : goal.returns-then-key-eq0
returns-then-key-eq0 c = let d = c.args.d in let z : key_in d ≡ 0 = sym c.key_in-key.ensures ∙ c.if-key-eq0.true in
    (sym (enters_none d z _ _), (sym (marks_none d z _), (sym (flags_none d z _), sym (tallied_none d z _))))

pub returns : goal.returns
unfolding flags_in tallied_in
returns c = let z : eqb (key_in c.args.d) 0 ≡ false = rw (← c.key_in-key.ensures) (ne_eqb _ _ c.if-key-eq0.false) in
    (c.enters.ensures.0, (c.enters.ensures.1, (rw z, rw z)))
