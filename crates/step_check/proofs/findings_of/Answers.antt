use Rattle.std.proofs.Common.{◌≡◌, ◌==◌, ℕ, length, rules, eq-eqb, ne_eqb}
use Rattle.base_octets.specs.Choice.{pick}
use Rattle.base_octets.specs.Search.{first_of}
use Rattle.step_check.specs.Digest.{key_in}
use Rattle.step_check.specs.Summary.{summary_of}
use Rattle.step_check.specs.Findings.{key_place, free_in, due_in, findings_of, first_found}
use Rattle.unit_tunnel.specs.Numbering.{places}
use Rattle.step_check.proofs.findings_of.Goals as goal
use Rattle.step_check.proofs.findings_of.Goals.{then-summary, else-summary}

pub summary_of-summary-requires : goal.summary_of-summary-requires
unfolding places
summary_of-summary-requires c = search rules

-- the place that is due, by whether one is
pub returns-then-key-eq0 : goal.returns-then-key-eq0
unfolding findings_of places
returns-then-key-eq0 c = let ds = c.args.ds in let n : length ds ≡ 64 = search rules in
    let due : c.unwrap_or-due.result ≡ pick {A = ℕ} (summary_of ds).idle 64 (first_of due_in ds) = elim c.if-summary.branch [
      | then-summary w ↦ rw (c.unwrap_or-due.ensures, w.due-is, ← c.summary_of-summary.ensures, w.if-summary.true)
      | else-summary w ↦ rw (c.unwrap_or-due.ensures, w.due-is, w.due_place-due.ensures, ← c.summary_of-summary.ensures, w.if-summary.false) (first_found due_in ds 64 n)
    ] in
    rw (due, c.summary_of-summary.ensures, eq-eqb c.args.key 0 c.if-key-eq0.true)

pub returns : goal.returns
unfolding findings_of key_place free_in places
returns c = let ds = c.args.ds in let n : length ds ≡ 64 = search rules in
    let due : c.unwrap_or-due.result ≡ pick {A = ℕ} (summary_of ds).idle 64 (first_of due_in ds) = elim c.if-summary.branch [
      | then-summary w ↦ rw (c.unwrap_or-due.ensures, w.due-is, ← c.summary_of-summary.ensures, w.if-summary.true)
      | else-summary w ↦ rw (c.unwrap_or-due.ensures, w.due-is, w.due_place-due.ensures, ← c.summary_of-summary.ensures, w.if-summary.false) (first_found due_in ds 64 n)
    ] in
    let old : c.unwrap_or-old.result ≡ first_of (λ d. key_in d == c.args.key) ds = rw (c.unwrap_or-old.ensures, c.key_place.ensures) (first_found (λ d. key_in d == c.args.key) ds 64 n) in
    let free : c.unwrap_or-free.result ≡ first_of (λ d. d == 0) ds = rw (c.unwrap_or-free.ensures, c.free_in.ensures) (first_found (λ d. d == 0) ds 64 n) in
    rw (due, old, free, c.summary_of-summary.ensures, ne_eqb c.args.key 0 c.if-key-eq0.false)
