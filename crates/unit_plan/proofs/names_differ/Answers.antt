use Rattle.std.proofs.Common.{sym, ◌∙◌}
use Rattle.unit_plan.specs.Names.{none_differ, first_clashes, first_differs}
use Rattle.unit_plan.proofs.names_differ.Goals as goal

pub returns-then-not-all_unlike : goal.returns-then-not-all_unlike
returns-then-not-all_unlike c = sym (c.loop-first.invariant ∙ first_clashes _ _ _ c.in-Some.ensures.cases.0 (sym c.all_unlike.ensures ∙ c.if-not-all_unlike.true))

pub loop-first-preserved : goal.loop-first-preserved
loop-first-preserved c = c.loop-first.invariant ∙ first_differs _ _ _ c.in-Some.ensures.cases.0 (sym c.all_unlike.ensures ∙ c.if-not-all_unlike.false)

pub returns : goal.returns
returns c = sym (c.loop-first.invariant ∙ none_differ _ c.in_default.ensures.cases)
