use Rattle.std.proofs.Common.{rules, None, Some, ◌≡◌, refl, sym, ◌∙◌, true, false}
use Rattle.std.proofs.lemmas.Iterator.{first_from_find}
use Rattle.std.proofs.lemmas.Iterator.Consumers.{YieldsList-from_first}
use Rattle.wire_fields.specs.declared.Fields.{Fields}
use Rattle.wire_fields.specs.Walk.{fields_at}
use Rattle.wire_fields.specs.Search.{named, find_start}
use Rattle.wire_fields.proofs.Ahead.{none_is, some_is}
use Rattle.wire_fields.proofs.find.Goals as goal

pub returns-in_err-field : goal.returns-in_err-field
returns-in_err-field c =
    let h = first_from_find c.find.new.self _ None (λ f. named f c.args.kind c.args.instance ≡ true) (λ f. named f c.args.kind c.args.instance ≡ false) c.in_err-field.ensures.ran
    (YieldsList-from_first (λ f. f) (λ (f : Fields). fields_at f.s.now f.at) _ refl) (λ x q k. search rules) (λ x q k. search rules) in
    c.from_residual.ensures ∙ sym (find_start _ _ _ ∙ none_is _ _ _ h)

pub returns : goal.returns
returns c =
    let h = first_from_find c.find.new.self _ (Some c.in_ok-field.field) (λ f. named f c.args.kind c.args.instance ≡ true) (λ f. named f c.args.kind c.args.instance ≡ false) c.in_ok-field.ensures.ran
    (YieldsList-from_first (λ f. f) (λ (f : Fields). fields_at f.s.now f.at) _ refl) (λ x q k. search rules) (λ x q k. search rules) in
    sym (find_start _ _ _ ∙ some_is _ _ _ c.in_ok-field.field h.1 h.0 h.2 h.3 h.4)
