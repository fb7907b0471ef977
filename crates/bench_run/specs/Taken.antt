-- One line of input by where the run stands. The plan is taken at the first line that is not one of an access point, or at the end: a refused
-- plan wins over a bad such line, a bad line of an access point over a refused plan.
-- Assumes nothing.
use Rattle.std.specs.Prelude.{ℕ, Bool, true, false, List, ◌≡◌, take, replicate}
use Rattle.std.proofs.Common.{ap, sym}
use Rattle.base_octets.specs.Choice.{pick}
use Rattle.unit_session.specs.declared.Session.{Session}
use Rattle.bench_text.specs.declared.Line.{Line}
use Rattle.bench_text.specs.declared.Line.TheVariants.{Node, Point, Control, User, Down, Tick, Close, BadPoint, Bad}
use Rattle.bench_text.specs.Lines.{Told, line_read}
use Rattle.bench_unit.specs.declared.Phase.{Phase}
use Rattle.bench_unit.specs.declared.Phase.TheVariants as P
use Rattle.bench_unit.specs.declared.Bench.{Bench}
use Rattle.bench_unit.specs.State.{Shown, Ran, ran, beside, is_over, with_line, end_bad}
use Rattle.bench_unit.specs.Plans.{one_more, plan_taken, start_line}
use Rattle.bench_run.specs.Run.{control_run, user_run, down_run, tick_run, close_run}

-- ---- once the plan is taken: C, U, D, T, X, and any other line is a bad one
unfoldable pub run_line : Line → List ℕ → Bench → List Session → List (List ℕ) → List ℕ → Ran
run_line (Control size) octets b t w out = control_run (take size octets) b t w out
run_line (User size) octets b t w out = user_run (take size octets) b t w out
run_line (Down size) octets b t w out = down_run (take size octets) b t w out
run_line Tick octets b t w out = tick_run b t w out
run_line (Close place) octets b t w out = close_run place b t w out
run_line (Node control user pool recovery resend sends interval) octets b t w out = beside t w (end_bad b out)
run_line (Point guarantee ceiling size) octets b t w out = beside t w (end_bad b out)
run_line BadPoint octets b t w out = beside t w (end_bad b out)
run_line Bad octets b t w out = beside t w (end_bad b out)

-- ---- where the lines of the plan stand
-- a line of an access point, a good one or a bad one
unfoldable pub is_point : Line → Bool
is_point (Point guarantee ceiling size) = true
is_point BadPoint = true
is_point (Node control user pool recovery resend sends interval) = false
is_point (Control size) = false
is_point (User size) = false
is_point (Down size) = false
is_point Tick = false
is_point (Close place) = false
is_point Bad = false

-- is taken into the plan
unfoldable pub point_line : Line → List ℕ → Bench → List ℕ → Shown
point_line (Point guarantee ceiling size) octets b out = one_more guarantee ceiling (take size octets) b out
point_line BadPoint octets b out = end_bad b out
point_line (Node control user pool recovery resend sends interval) octets b out = end_bad b out
point_line (Control size) octets b out = end_bad b out
point_line (User size) octets b out = end_bad b out
point_line (Down size) octets b out = end_bad b out
point_line Tick octets b out = end_bad b out
point_line (Close place) octets b out = end_bad b out
point_line Bad octets b out = end_bad b out

-- any other takes the plan first
unfoldable pub left : Line → List ℕ → Ran → Ran
left line octets x = pick (is_over x.bench.phase) x (run_line line octets x.bench x.table x.store x.out)

unfoldable pub leave_plan : Line → List ℕ → Bench → List Session → List (List ℕ) → List ℕ → Ran
leave_plan line octets b t w out = left line octets (plan_taken b t w out)

unfoldable pub plan_line : Line → List ℕ → Bench → List Session → List (List ℕ) → List ℕ → Ran
plan_line line octets b t w out = pick (is_point line) (beside t w (point_line line octets b out)) (leave_plan line octets b t w out)

-- ---- by where the run stands: once it has ended, a line does nothing
unfoldable pub lent_octets : List ℕ
lent_octets = replicate 2048 0

unfoldable pub taken_by : Phase → Told → Bench → List Session → List (List ℕ) → List ℕ → Ran
taken_by P.First x b t w out = beside t w (start_line x.line (with_line b) out)
taken_by P.Plan x b t w out = plan_line x.line x.octets (with_line b) t w out
taken_by P.Runs x b t w out = run_line x.line x.octets (with_line b) t w out
taken_by P.Over x b t w out = ran b t w out

unfoldable pub told_taken : Told → Bench → List Session → List (List ℕ) → List ℕ → Ran
told_taken x b t w out = taken_by b.phase x b t w out

unfoldable pub line_taken : List ℕ → Bench → List Session → List (List ℕ) → List ℕ → Ran
line_taken text b t w out = told_taken (line_read text lent_octets) b t w out

-- ---- a line where the run stands so
pub taken : (p : Phase) (text : List ℕ) (b : Bench) (t : List Session) (w : List (List ℕ)) (out : List ℕ) → b.phase ≡ p
    → taken_by p (line_read text (replicate 2048 0)) b t w out ≡ line_taken text b t w out
unfolding line_taken told_taken lent_octets
taken p text b t w out e = ap (λ (q : Phase). taken_by q (line_read text (replicate 2048 0)) b t w out) (sym e)
