-- The lines of the plan: N, up to four A, and the plan taken; what is no N line is no first line.
-- Assumes nothing.
use Rattle.std.specs.Prelude.{ℕ, ◌+◌, ◌%◌, List, [], length, set, replicate, eqb, ltb, leb}
use Rattle.base_octets.specs.Choice.{pick}
use Rattle.base_octets.specs.Overlay.{overlay}
use Rattle.unit_plan.specs.declared.AccessPoint.{AccessPoint}
use Rattle.unit_plan.specs.declared.Plan.{Plan}
use Rattle.unit_plan.specs.Limits.{longest_name, no_point}
use Rattle.unit_session.specs.declared.Session.{Session}
use Rattle.unit_table.specs.declared.Node.{Node}
use Rattle.unit_table.specs.Own.{fresh_node}
use Rattle.call_own.specs.declared.Answer.{Answer}
use Rattle.call_own.specs.Outcome.{back}
use Rattle.call_store.specs.Stored.{fresh_stored}
use Rattle.bench_text.specs.declared.Line.{Line}
use Rattle.bench_text.specs.declared.Line.TheVariants as L
use Rattle.bench_unit.specs.declared.Phase.TheVariants as P
use Rattle.bench_unit.specs.declared.Bench.{Bench}
use Rattle.bench_unit.specs.State.{Shown, shown, Ran, beside, kept_in, phased, end_bad, answered_shown}

-- N: the plan without access points
unfoldable pub first_line : Bench → ℕ → ℕ → ℕ → ℕ → ℕ → ℕ → ℕ → Bench
first_line b control user pool recovery resend sends interval = record {
  phase = P.Plan;
  lines = b.lines;
  made = b.made;
  node = fresh_node (record {
    control = control;
    user = user;
    pool = pool;
    recovery = recovery;
    resend = resend;
    sends = sends;
    interval = interval;
    count = 0;
    points = replicate 4 no_point;
  });
}

-- A: a name of at most `longest_name` octets, the rest of its octets zero
unfoldable pub point_from : ℕ → ℕ → List ℕ → AccessPoint
point_from guarantee ceiling octets =
    record { name = overlay octets (replicate longest_name 0); size = length octets % 256; guarantee = guarantee; ceiling = ceiling }

-- put into the next slot; there are four
unfoldable pub with_point : Plan → AccessPoint → Plan
with_point p point =
    pick (ltb p.count 4)
    (record {
      control = p.control;
      user = p.user;
      pool = p.pool;
      recovery = p.recovery;
      resend = p.resend;
      sends = p.sends;
      interval = p.interval;
      count = p.count + 1;
      points = set p.points p.count point;
    })
    p

unfoldable pub with_plan : Plan → Node → Node
with_plan p node = record { plan = p; echo = node.echo; next = node.next; heard = node.heard; recovery = node.recovery }

-- a fifth is a bad line
unfoldable pub one_more : ℕ → ℕ → List ℕ → Bench → List ℕ → Shown
one_more guarantee ceiling octets b out =
    pick (leb 4 b.node.plan.count) (end_bad b out)
    (shown
    (record {
      phase = b.phase;
      lines = b.lines;
      made = b.made;
      node = with_plan (with_point b.node.plan (point_from guarantee ceiling octets)) b.node;
    })
    out)

-- the plan taken; a refused one prints its number and -, and ends
unfoldable pub plan_shown : Answer → Bench → List ℕ → Shown
plan_shown a b out =
    pick (eqb a.number 0) (shown (kept_in a.node b.made (phased P.Runs b)) out) (answered_shown (back a []) (phased P.Over b) out)

unfoldable pub plan_taken : Bench → List Session → List (List ℕ) → List ℕ → Ran
plan_taken b t w out =
    beside (fresh_stored b.node.plan t w).call.table (fresh_stored b.node.plan t w).store
    (plan_shown (fresh_stored b.node.plan t w).call.answer b out)

-- the first line has to be N
unfoldable pub start_line : Line → Bench → List ℕ → Shown
start_line (L.Node control user pool recovery resend sends interval) b out = shown (first_line b control user pool recovery resend sends interval) out
start_line (L.Point guarantee ceiling size) b out = end_bad b out
start_line (L.Control size) b out = end_bad b out
start_line (L.User size) b out = end_bad b out
start_line (L.Down size) b out = end_bad b out
start_line L.Tick b out = end_bad b out
start_line (L.Close place) b out = end_bad b out
start_line L.BadPoint b out = end_bad b out
start_line L.Bad b out = end_bad b out
