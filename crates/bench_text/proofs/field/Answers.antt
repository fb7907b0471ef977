use Rattle.std.proofs.Common.{◌≡◌, ◌∙◌, refl, ℕ, List, Bor, rules}
use Rattle.std.specs.Prelude.{Option, Some, None, unwrap_or}
use Rattle.std.specs.Option.{option_map}
use Rattle.std.specs.List.{slice_get, slice_split}
use Rattle.std.proofs.lemmas.Iterator.Splits.{YieldsList-from_slice_split}
use Rattle.std.proofs.lemmas.Iterator.Consumers.{nth_from_yields_List}
use Rattle.bench_text.specs.Fields.{is_tab, field_at}
use Rattle.bench_text.proofs.field.Goals as goal

now_or : (o : Option (Bor (List ℕ))) (d : Bor (List ℕ)) → (unwrap_or o d).now ≡ unwrap_or (option_map (λ x. x.now) o) d.now
now_or (Some x) d = refl
now_or None d = refl

pub returns : goal.returns
unfolding field_at is_tab
returns c =
    let h : option_map (λ x. x.now) c.nth.result ≡ slice_get (slice_split is_tab c.args.line.now) c.args.k
    = nth_from_yields_List _ _ _ c.nth.ensures.ran (YieldsList-from_slice_split _ is_tab c.args.line.now c.split.ensures.rest c.split.ensures.done c.split.ensures.closure (λ x b q k. search rules)) in
    rw c.unwrap_or.ensures (now_or c.nth.result _ ∙ rw h)
