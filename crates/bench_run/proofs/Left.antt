-- The last arm of a `match` knows that the value is none of those named before; each of the others is taken alike.
-- Assumes nothing.
use Prim.Native.Nat.{ℕ}
use mathlib.Core.Bool.{true, false}
use mathlib.Core.Path.{◌≡◌, refl}
use mathlib.Core.List.{List}
use Rattle.unit_session.specs.declared.Session.{Session}
use Rattle.bench_text.specs.declared.Line.{Line}
use Rattle.bench_text.specs.declared.Line.TheVariants.{Node, Point, Control, User, Down, Tick, Close, BadPoint, Bad}
use Rattle.bench_unit.specs.declared.Phase.{Phase}
use Rattle.bench_unit.specs.declared.Phase.TheVariants as P
use Rattle.bench_unit.specs.declared.Bench.{Bench}
use Rattle.bench_unit.specs.State.{beside, is_over, end_bad}
use Rattle.bench_run.specs.Taken.{run_line, is_point}

-- no line of a run
pub no_run : (line : Line) (octets : List ℕ) (b : Bench) (t : List Session) (w : List (List ℕ)) (out : List ℕ)
    → ((size : ℕ) → line ≡ Control size → ⊥)
    → ((size : ℕ) → line ≡ User size → ⊥)
    → ((size : ℕ) → line ≡ Down size → ⊥)
    → (line ≡ Tick → ⊥)
    → ((place : ℕ) → line ≡ Close place → ⊥)
    → beside t w (end_bad b out) ≡ run_line line octets b t w out
unfolding run_line
no_run (Node control user pool recovery resend sends interval) octets k t w out a b c d e = refl
no_run (Point guarantee ceiling size) octets k t w out a b c d e = refl
no_run (Control size) octets k t w out a b c d e = absurd (a size refl)
no_run (User size) octets k t w out a b c d e = absurd (b size refl)
no_run (Down size) octets k t w out a b c d e = absurd (c size refl)
no_run Tick octets k t w out a b c d e = absurd (d refl)
no_run (Close place) octets k t w out a b c d e = absurd (e place refl)
no_run BadPoint octets k t w out a b c d e = refl
no_run Bad octets k t w out a b c d e = refl

-- no line of an access point
pub no_point : (line : Line)
    → ((guarantee ceiling size : ℕ) → line ≡ Point guarantee ceiling size → ⊥)
    → (line ≡ BadPoint → ⊥)
    → is_point line ≡ false
unfolding is_point
no_point (Node control user pool recovery resend sends interval) a b = refl
no_point (Point guarantee ceiling size) a b = absurd (a guarantee ceiling size refl)
no_point (Control size) a b = refl
no_point (User size) a b = refl
no_point (Down size) a b = refl
no_point Tick a b = refl
no_point (Close place) a b = refl
no_point BadPoint a b = absurd (b refl)
no_point Bad a b = refl

-- neither before the plan is taken nor at the end
pub runs_only : (p : Phase) → is_over p ≡ false → (p ≡ P.First → ⊥) → (p ≡ P.Plan → ⊥) → p ≡ P.Runs
runs_only P.First e a b = absurd (a refl)
runs_only P.Plan e a b = absurd (b refl)
runs_only P.Runs e a b = refl
runs_only P.Over e a b = cc

pub over_only : (p : Phase) → is_over p ≡ true → p ≡ P.Over
over_only P.First e = cc
over_only P.Plan e = cc
over_only P.Runs e = cc
over_only P.Over e = refl
