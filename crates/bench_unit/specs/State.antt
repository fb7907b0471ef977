-- Where the bench's run stands, and what is printed for what the unit answers: number and reply in hex, or -. A bad line prints E and ends.
-- The unit's records and its store of kept replies stand beside the run.
-- Assumes nothing.
use Rattle.std.specs.Prelude.{ℕ, ◌+◌, Bool, true, false, List, ◌≡◌, length, min, take, replicate}
use Rattle.std.proofs.Common.{ap, ◌∙◌}
use Rattle.base_numerals.specs.Laid.{laid, written, Written}
use Rattle.unit_plan.specs.Limits.{no_plan}
use Rattle.unit_session.specs.declared.Session.{Session}
use Rattle.unit_table.specs.declared.Node.{Node}
use Rattle.unit_table.specs.Own.{fresh_node}
use Rattle.call_own.specs.Outcome.{Back, back, least_reply}
use Rattle.call_store.specs.Stored.{Stored}
use Rattle.bench_text.specs.Prints.{answer_text, bad_text}
use Rattle.bench_unit.specs.declared.Phase.{Phase}
use Rattle.bench_unit.specs.declared.Phase.TheVariants as P
use Rattle.bench_unit.specs.declared.Bench.{Bench}
use Rattle.bench_unit.specs.declared.Run.{Run}

-- the run, and the output buffer
pub record Shown : Type 0 where
  pub bench : Bench
  pub out : List ℕ

abbrev pub shown : Bench → List ℕ → Shown
shown b out = record { bench = b; out = out }

-- with the unit's records and the store
pub record Ran : Type 0 where
  pub bench : Bench
  pub table : List Session
  pub store : List (List ℕ)
  pub out : List ℕ

abbrev pub ran : Bench → List Session → List (List ℕ) → List ℕ → Ran
ran b t w out = record { bench = b; table = t; store = w; out = out }

abbrev pub beside : List Session → List (List ℕ) → Shown → Ran
beside t w x = ran x.bench t w x.out

-- ---- of a run: where it stands and what is behind its references
abbrev pub ran_of : Run → Ran
ran_of r = ran r.bench r.recs.now r.store.now r.out.now

-- what a definition makes of it
abbrev pub on : (Bench → List Session → List (List ℕ) → List ℕ → Ran) → Run → Ran
on f r = f r.bench r.recs.now r.store.now r.out.now

-- the same of one that prints: the records and the store stay
abbrev pub printing : (Bench → List ℕ → Shown) → Run → Ran
printing f r = beside r.recs.now r.store.now (f r.bench r.out.now)

-- the records, the store and the buffer are those that were lent, each with its length
abbrev pub SameLent : Run → Run → Type 0
SameLent a b =
    (b.recs.ghost_name ≡ a.recs.ghost_name) × (b.store.ghost_name ≡ a.store.ghost_name) × (b.out.ghost_name ≡ a.out.ghost_name)
    × (length b.recs.now ≡ length a.recs.now) × (length b.store.now ≡ length a.store.now) × (length b.out.now ≡ length a.out.now)

pub lent_on : (a b c : Run) → SameLent a b → SameLent b c → SameLent a c
lent_on a b c p q = (q.0 ∙ p.0, q.1 ∙ p.1, q.2 ∙ p.2, q.3 ∙ p.3, q.4 ∙ p.4, q.5 ∙ p.5)

-- ---- phases
abbrev pub is_over : Phase → Bool
is_over P.First = false
is_over P.Plan = false
is_over P.Runs = false
is_over P.Over = true

unfoldable pub bench_start : Bench
bench_start = record { phase = P.First; lines = 0; made = 0; node = fresh_node no_plan }

-- what a call gets as its reply buffer
unfoldable pub lent_reply : List ℕ
lent_reply = replicate least_reply 0

-- ---- parts of it changed
unfoldable pub counted : ℕ → ℕ
counted n = min (n + 1) 18446744073709551615

unfoldable pub with_line : Bench → Bench
with_line b = record { phase = b.phase; lines = counted b.lines; made = b.made; node = b.node }

unfoldable pub with_made : ℕ → Bench → Bench
with_made made b = record { phase = b.phase; lines = b.lines; made = made; node = b.node }

unfoldable pub kept_in : Node → ℕ → Bench → Bench
kept_in node made b = record { phase = b.phase; lines = b.lines; made = made; node = node }

unfoldable pub phased : Phase → Bench → Bench
phased phase b = record { phase = phase; lines = b.lines; made = b.made; node = b.node }

-- ---- printing
-- text behind what was printed before, and the run that is the outcome, by the place behind the text
unfoldable pub printed : List ℕ → (ℕ → Bench) → ℕ → List ℕ → Shown
printed text next made out = shown (next (laid made text out).at) (laid made text out).out

-- a bad line prints E and its number, and ends
unfoldable pub bad_at : Bench → ℕ → Bench
bad_at b made = record { phase = P.Over; lines = b.lines; made = made; node = b.node }

unfoldable pub end_bad : Bench → List ℕ → Shown
end_bad b out = printed (bad_text b.lines) (bad_at b) b.made out

-- number and reply
unfoldable pub answered_shown : Back → Bench → List ℕ → Shown
answered_shown x b out =
    printed (answer_text x.answer.number (take x.answer.size x.reply)) (λ made. kept_in x.answer.node made b) b.made out

-- what a call came to: that printed, the records and the store as it left them
unfoldable pub unit_shown : Stored → Bench → List ℕ → Ran
unit_shown x b out = beside x.call.table x.store (answered_shown (back x.call.answer x.call.reply) b out)

-- ---- laws of the printing
pub printed_by : (text : List ℕ) (next : ℕ → Bench) (made r : ℕ) (out o : List ℕ) → written r o ≡ laid made text out → shown (next r) o ≡ printed text next made out
unfolding printed
printed_by text next made r out o e = ap (λ (w : Written). shown (next w.at) w.out) e
