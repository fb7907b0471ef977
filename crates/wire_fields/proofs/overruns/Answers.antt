use Rattle.std.proofs.Common.{rules, ◌≤◌, ◌+◌, sym, ◌∙◌, None, Some, length}
use Rattle.wire_fields.specs.Walk.{fields_at}
use Rattle.wire_fields.proofs.Ahead.{last_left_of, last_within, last_over, none_over, some_left}
use Rattle.wire_fields.proofs.overruns.Goals as goal

pub overflow_add-result : goal.overflow_add-result
overflow_add-result c =
    let e = last_left_of (λ f. fields_at f.s.now f.at) _ (Some c.in-Some.f) c.in-Some.ensures.ran in
    let h : c.in-Some.f.found.start + c.in-Some.f.found.size ≤ length c.args.s.now = last_within _ _ e in
    search (rules, h)

pub returns-in-Some : goal.returns-in-Some
returns-in-Some c =
    let e = last_left_of (λ f. fields_at f.s.now f.at) _ (Some c.in-Some.f) c.in-Some.ensures.ran in
    sym (last_over _ _ e)

pub returns-in-None : goal.returns-in-None
returns-in-None c =
    let e = last_left_of (λ f. fields_at f.s.now f.at) _ None c.in-None.ensures.ran in
    rw c.is_empty.ensures (some_left (length c.args.s.now)) ∙ sym (none_over c.args.s.now e)
