-- The last arm of a `match` knows that the line is none of those named before; each of the others is taken alike.
-- Assumes nothing.
use Prim.Native.Nat.{ℕ}
use mathlib.Core.Path.{◌≡◌, refl}
use mathlib.Core.List.{List}
use Rattle.bench_text.specs.declared.Line.{Line}
use Rattle.bench_text.specs.declared.Line.TheVariants.{Node, Point, Control, User, Down, Tick, Close, BadPoint, Bad}
use Rattle.bench_unit.specs.declared.Bench.{Bench}
use Rattle.bench_unit.specs.State.{end_bad}
use Rattle.bench_unit.specs.Plans.{start_line}

-- no N line
pub not_node : (line : Line) (b : Bench) (out : List ℕ)
    → ((control user pool recovery resend sends interval : ℕ) → line ≡ Node control user pool recovery resend sends interval → ⊥)
    → end_bad b out ≡ start_line line b out
unfolding start_line
not_node (Node control user pool recovery resend sends interval) b out h = absurd (h control user pool recovery resend sends interval refl)
not_node (Point guarantee ceiling size) b out h = refl
not_node (Control size) b out h = refl
not_node (User size) b out h = refl
not_node (Down size) b out h = refl
not_node Tick b out h = refl
not_node (Close place) b out h = refl
not_node BadPoint b out h = refl
not_node Bad b out h = refl
