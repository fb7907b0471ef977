use Rattle.std.proofs.Common.{refl, ◌∙◌, arith, eq-eqb, ne_eqb}
use Rattle.step_check.specs.Digest.{mark_small, mark_key}
use Rattle.step_check.specs.Over.{enters_of, marks_of}
use Rattle.step_check.proofs.enters.Goals as goal

pub bounds-marks-h : goal.bounds-marks-h
bounds-marks-h c = let m = mark_small c.args.d in omega arith

pub bounds-marks-h-then-marks-h-eq0 : goal.bounds-marks-h-then-marks-h-eq0
bounds-marks-h-then-marks-h-eq0 c = let m = mark_small c.args.d in omega arith

pub returns-then-marks-h-eq0 : goal.returns-then-marks-h-eq0
unfolding enters_of marks_of
returns-then-marks-h-eq0 c = rw (c.requires, mark_key c.args.d, ← c.mark-h.ensures, eq-eqb _ _ c.if-marks-h-eq0.true) (refl, refl)

pub returns : goal.returns
unfolding enters_of marks_of
returns c = rw (c.requires, mark_key c.args.d, ← c.mark-h.ensures, ne_eqb _ _ c.if-marks-h-eq0.false) (c.lacks.ensures ∙ rw c.key_in-key.ensures, refl)
