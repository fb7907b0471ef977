-- The program's output buffer of 65,536 octets is emptied wherever there is no room for a line, so that no line's output is ever cut (`run_whole`).
-- Assumes nothing.
use Rattle.std.specs.Prelude.{ℕ, ◌+◌, ◌-◌, ◌≤◌, Bool, true, false, not, ◌||◌, List, [], ◌++◌, ◌≡◌, refl, length, take, drop, get_or, eqb}
use Rattle.std.proofs.Common.{ap, ◌∙◌, arith, length-append, length-take, length-drop}
use Rattle.base_octets.specs.Choice.{pick, split}
use Rattle.unit_tunnel.specs.Numbering.{places}
use Rattle.unit_session.specs.declared.Session.{Session}
use Rattle.call_own.specs.Outcome.{least_reply}
use Rattle.bench_unit.specs.declared.Phase.{Phase}
use Rattle.bench_unit.specs.declared.Phase.TheVariants as P
use Rattle.bench_unit.specs.declared.Bench.{Bench}
use Rattle.bench_unit.specs.declared.Run.{Run}
use Rattle.bench_unit.specs.State.{Ran, ran, bench_start, with_line, with_made}
use Rattle.bench_unit.specs.Ended.{end_of_input}
use Rattle.bench_unit.specs.Whole.{Adds, adds_on, adds_within, adds_whole, end_prints, place_room, end_adds, end_most}
use Rattle.bench_run.specs.Taken.{line_taken}
use Rattle.bench_run.specs.Whole.{line_prints, told_prints, told_prints_by, line_adds, line_most, first_most, line_room}

-- the octets of the buffer
abbrev pub buffer_octets : ℕ
buffer_octets = 65536

-- what may stand in the buffer where a line is taken
unfoldable pub most_made : ℕ
most_made = buffer_octets - line_room

room-left : most_made + line_room ≤ buffer_octets
unfolding most_made line_room place_room least_reply places
room-left = omega arith

-- an output buffer with room for a line
abbrev pub HasRoom : Run → Type 0
HasRoom r = (r.bench.made ≤ most_made) × (buffer_octets ≤ length r.out.now)

abbrev pub is_first : Phase → Bool
is_first P.First = true
is_first P.Plan = false
is_first P.Runs = false
is_first P.Over = false

pub not_first : (p : Phase) → (p ≡ P.First → ⊥) → is_first p ≡ false
not_first P.First h = absurd (h refl)
not_first P.Plan h = refl
not_first P.Runs h = refl
not_first P.Over h = refl

-- of many runs one after another, N behind the first line ends the run before it
unfoldable pub goes_on : Bench → Bool → List ℕ → Bool
goes_on b many line =
    pick (not many || is_first b.phase) true (pick (eqb (length line) 0) true (not (eqb (get_or line 0 0) 78)))

-- a fresh run, behind what was printed
unfoldable pub anew_of : Bench → Bench
anew_of b = with_made b.made bench_start

unfoldable pub start_anew : Bool → List ℕ → Bench → List Session → List (List ℕ) → List ℕ → Ran
start_anew many line b t w out =
    pick (goes_on b many line) (ran b t w out)
    (ran (anew_of (end_of_input b t w out).bench) (end_of_input b t w out).table (end_of_input b t w out).store (end_of_input b t w out).out)

-- ---- what a line of input prints, with the lines at the end of the run before it
unfoldable pub run_prints : Bench → List Session → List (List ℕ) → Bool → List ℕ → List ℕ
run_prints b t w many line = pick (goes_on b many line) (line_prints line b t w) (end_prints b t w ++ line_prints line bench_start [] [])

-- text that stands whole behind the first octets, and the rest as it was
unfoldable pub placed : ℕ → List ℕ → List ℕ → List ℕ
placed made m out = take made out ++ (m ++ drop (made + length m) out)

-- the first line of a fresh run prints the same whatever was printed before
fresh_prints : (line : List ℕ) (made : ℕ) (t : List Session) (w : List (List ℕ)) → line_prints line (with_made made bench_start) t w ≡ line_prints line bench_start [] []
unfolding line_prints told_prints told_prints_by with_made bench_start with_line
fresh_prints line made t w = refl

module _ (b : Bench) (t : List Session) (w : List (List ℕ)) (many : Bool) (line out : List ℕ) where
  abbrev start : Ran
  start = start_anew many line b t w out

  abbrev after : Ran
  after = line_taken line start.bench start.table start.store start.out

  runs_add : b.made ≤ length out → Adds (run_prints b t w many line) b.made out after.bench.made after.out
  unfolding run_prints start_anew anew_of with_made
  runs_add h =
      let x = end_of_input b t w out in
      let e = end_adds b t w out h in
      split (goes_on b many line) (λ g. rw g (line_adds line b t w out h))
      (λ g. rw (g, ← fresh_prints line x.bench.made x.table x.store)
      (adds_on _ _ _ _ _ _ _ _ e (line_adds line (with_made x.bench.made bench_start) x.table x.store x.out (adds_within _ _ _ _ _ e))))

pub runs_most : (b : Bench) (t : List Session) (w : List (List ℕ)) (many : Bool) (line : List ℕ) → length (run_prints b t w many line) ≤ line_room
unfolding run_prints bench_start line_room place_room least_reply
runs_most b t w many line =
    let l = line_most line b t w in
    let e = end_most b t w in
    let f = first_most line bench_start [] [] refl in
    split (goes_on b many line) (λ g. rw g (omega arith)) (λ g. rw g (simp length-append (omega arith)))

-- ---- with room for a line nothing is cut
pub run_whole : (b : Bench) (t : List Session) (w : List (List ℕ)) (many : Bool) (line out : List ℕ) → b.made + line_room ≤ length out
    → ((after b t w many line out).bench.made ≡ b.made + length (run_prints b t w many line))
    × ((after b t w many line out).out ≡ placed b.made (run_prints b t w many line) out)
unfolding placed
run_whole b t w many line out h =
    let m = runs_most b t w many line in
    adds_whole _ _ _ _ _ (runs_add b t w many line out (omega arith)) (omega arith)

-- ---- the buffer keeps its length, and so its room
placed-length : (made : ℕ) (m out : List ℕ) → made + length m ≤ length out → length (placed made m out) ≡ length out
unfolding placed
placed-length made m out h = simp (length-append, length-take, length-drop) (omega arith)

-- text that was printed and went out
pub room_emitted : (k : ℕ) (o p : List ℕ) → k ≡ 0 → p ≡ o → buffer_octets ≤ length o → (k ≤ most_made) × (buffer_octets ≤ length p)
room_emitted k o p e f h = rw (e, f) (omega arith, h)

module _ (b : Bench) (t : List Session) (w : List (List ℕ)) (out : List ℕ) (h : b.made ≤ most_made) (l : buffer_octets ≤ length out) where
  fits : b.made + line_room ≤ length out
  fits = let n = room-left in omega arith

  -- a line
  module _ (many : Bool) (line : List ℕ) (s c : Ran) (e : s ≡ start_anew many line b t w out) (f : c ≡ line_taken line s.bench s.table s.store s.out) where
    pub run-placed : c.out ≡ placed b.made (run_prints b t w many line) out
    run-placed =
        ap (λ (x : Ran). x.out) (f ∙ ap (λ (x : Ran). line_taken line x.bench x.table x.store x.out) e) ∙ (run_whole b t w many line out fits).1

    pub run-room : buffer_octets ≤ length c.out
    run-room =
        let m = runs_most b t w many line in
        let k = fits in
        let q = placed-length b.made (run_prints b t w many line) out (omega arith) in
        rw (run-placed, q) l

  -- the end of the input
  module _ (x : Ran) (e : x ≡ end_of_input b t w out) where
    pub end-placed : x.out ≡ placed b.made (end_prints b t w) out
    unfolding placed line_room place_room least_reply
    end-placed =
        let m = end_most b t w in
        let k = fits in
        ap (λ (x : Ran). x.out) e ∙ (adds_whole _ _ _ _ _ (end_adds b t w out (omega arith)) (omega arith)).1

    pub end-room : buffer_octets ≤ length x.out
    unfolding line_room place_room least_reply
    end-room =
        let m = end_most b t w in
        let k = fits in
        let q = placed-length b.made (end_prints b t w) out (omega arith) in
        rw (end-placed, q) l

-- a fresh run has room
pub room_first : (b : Bench) → b ≡ bench_start → b.made ≤ most_made
unfolding bench_start
room_first b e = rw e (omega arith)
