-- What the bench prints at the end: the live count, and the lines of the places ever used. A plan that is not taken yet is taken first.
-- Assumes nothing.
use Prim.Native.Nat.{ℕ, zero, suc, ◌+◌}
use Rattle.std.specs.Prelude.{Bool, List, [], ◌∷◌, ◌++◌, ◌≡◌, true, false, not, cond, refl, take, get_or, eqb, count_by}
use Rattle.std.proofs.Common.{ap, sym, ◌∙◌, arith}
use Rattle.std.proofs.lemmas.List.Recursion.{is_count_by}
use mir.Val.{bool_byte}
use Rattle.base_octets.specs.Choice.{pick}
use Rattle.base_octets.specs.Sums.{sum_of, count_of}
use Rattle.unit_tunnel.specs.Numbering.{places}
use Rattle.unit_session.specs.declared.Session.{Session}
use Rattle.unit_session.specs.Session.{is_free}
use Rattle.unit_table.specs.Change.{nobody}
use Rattle.unit_table.specs.Room.{sessions}
use Rattle.call_own.specs.Outcome.{Back, back}
use Rattle.call_store.specs.Stored.{line_stored}
use Rattle.bench_text.specs.Prints.{live_text}
use Rattle.bench_unit.specs.declared.Phase.{Phase}
use Rattle.bench_unit.specs.declared.Phase.TheVariants as P
use Rattle.bench_unit.specs.declared.Bench.{Bench}
use Rattle.bench_unit.specs.State.{Shown, shown, Ran, ran, beside, is_over, lent_reply, with_line, with_made, printed, end_bad}
use Rattle.bench_unit.specs.Plans.{plan_taken}

-- ---- the lines at the end
unfoldable pub live_shown : ℕ → Bench → List ℕ → Shown
live_shown n b out = printed (live_text n) (λ made. with_made made b) b.made out

unfoldable pub line_shown : Back → Bench → List ℕ → Shown
line_shown x b out = printed (take x.answer.size x.reply ++ (10 ∷ [])) (λ made. with_made made b) b.made out

unfoldable pub line_printed : List Session → List (List ℕ) → ℕ → Bench → List ℕ → Shown
line_printed t w place b out = line_shown (back (line_stored b.node t w place lent_reply).answer (line_stored b.node t w place lent_reply).reply) b out

unfoldable pub place_printed : List Session → List (List ℕ) → ℕ → Bench → List ℕ → Shown
place_printed t w place b out = pick (eqb (get_or t place nobody).usage 0) (shown b out) (line_printed t w place b out)

-- the first so many places
unfoldable pub places_to : List Session → List (List ℕ) → ℕ → Shown → Shown
places_to t w zero x = x
places_to t w (suc k) x = place_printed t w k (places_to t w k x).bench (places_to t w k x).out

unfoldable pub places_printed : List Session → List (List ℕ) → Bench → List ℕ → Shown
places_printed t w b out = places_to t w places (live_shown (sessions (take places t)) b out)

-- ---- the end of the input, by where the run stands: without any line it is a bad first line
-- what follows where the plan was taken
unfoldable pub end_taken : Ran → Ran
end_taken x = pick (is_over x.bench.phase) x (beside x.table x.store (places_printed x.table x.store x.bench x.out))

unfoldable pub end_plan : Bench → List Session → List (List ℕ) → List ℕ → Ran
end_plan b t w out = end_taken (plan_taken b t w out)

unfoldable pub end_first : Bench → List ℕ → Shown
end_first b out = end_bad (with_line b) out

unfoldable pub end_by : Phase → Bench → List Session → List (List ℕ) → List ℕ → Ran
end_by P.First b t w out = beside t w (end_first b out)
end_by P.Plan b t w out = end_plan b t w out
end_by P.Runs b t w out = beside t w (places_printed t w b out)
end_by P.Over b t w out = ran b t w out

unfoldable pub end_of_input : Bench → List Session → List (List ℕ) → List ℕ → Ran
end_of_input b t w out = end_by b.phase b t w out

-- ---- laws of the lines at the end: a place more, all of them
module _ (t : List Session) (w : List (List ℕ)) (y : Ran) (i : ℕ) where
  pub places_next : (x : Shown) (z : Ran) → y ≡ beside t w (places_to t w i x) → z ≡ beside y.table y.store (place_printed y.table y.store i y.bench y.out)
      → z ≡ beside t w (places_to t w (i + 1) x)
  unfolding places_to
  places_next x z e f = let k : i + 1 ≡ suc i = omega arith in f ∙ rw (k, e)

  pub places_end : (b : Bench) (out : List ℕ) → y ≡ beside t w (places_to t w i (live_shown (sessions (take places t)) b out)) → i ≡ places
      → y ≡ beside t w (places_printed t w b out)
  unfolding places_printed
  places_end b out e f = e ∙ ap (λ (k : ℕ). beside t w (places_to t w k (live_shown (sessions (take places t)) b out))) f

-- ---- the end where the run stands so
pub ended : (p : Phase) (b : Bench) (t : List Session) (w : List (List ℕ)) (out : List ℕ) → b.phase ≡ p → end_by p b t w out ≡ end_of_input b t w out
unfolding end_of_input
ended p b t w out e = ap (λ (q : Phase). end_by q b t w out) (sym e)

-- ---- the sessions counted in std's words
bit_more : (b : Bool) (n : ℕ) → bool_byte b + n ≡ cond b (1 + n) n
bit_more true n = refl
bit_more false n = omega arith

pub sessions_are : (l : List Session) → count_by (λ s. not (is_free s)) l ≡ sessions l
unfolding sessions sum_of
sessions_are l =
    sym (is_count_by (count_of (λ (s : Session). not (is_free s))) (λ s. not (is_free s)) refl (λ s m. bit_more (not (is_free s)) _) l)
