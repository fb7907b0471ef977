-- Nothing that the bench prints is cut: what a step prints is told as a text without a buffer; every step lays that text behind what was printed
-- before (`Adds`), and text that fits the rest of the buffer is laid whole (`adds_whole`). Here: the plan and the end of the input, which prints at
-- most 46 characters and `place_room` for each place (`end_most`).
-- Assumes nothing.
use Prim.Native.Nat.{ℕ, zero, suc, ◌+◌, ◌*◌, ◌≤◌, min}
use Rattle.std.specs.Prelude.{List, [], ◌∷◌, ◌++◌, ◌≡◌, length, take, drop, get_or, eqb, ltb}
use Rattle.std.proofs.Math.Path.{refl}
use Rattle.std.proofs.Common.{ap, ◌∙◌, length-take}
use native.Mathlib.Omega.{arith}
use Rattle.std.proofs.Math.ListN.{length-append}
use Rattle.base_octets.specs.Choice.{pick, split}
use Rattle.base_octets.specs.Overlay.{overlay-fits}
use Rattle.unit_tunnel.specs.Numbering.{places}
use Rattle.base_numerals.specs.Laid.{lay_at, laid, written, Written, laid_on, laid_in, laid_most, laid-length}
use Rattle.unit_session.specs.declared.Session.{Session}
use Rattle.unit_store.specs.Store.{store_ok}
use Rattle.unit_table.specs.declared.Node.{Node}
use Rattle.unit_table.specs.Rules.{keeps_rules}
use Rattle.unit_table.specs.Change.{nobody}
use Rattle.unit_table.specs.Room.{sessions}
use Rattle.call_own.specs.declared.Answer.{Answer}
use Rattle.call_own.specs.Outcome.{least_reply, no_reply}
use Rattle.call_line.specs.Line.{line_by, line_of}
use Rattle.call_store.specs.Stored.{fresh_stored, line_stored}
use Rattle.bench_text.specs.Prints.{answer_text, bad_text, live_text}
use Rattle.bench_text.specs.Sizes.{answer_most, bad_most, live_most}
use Rattle.bench_unit.specs.declared.Phase.{Phase}
use Rattle.bench_unit.specs.declared.Phase.TheVariants as P
use Rattle.bench_unit.specs.declared.Bench.{Bench}
use Rattle.bench_unit.specs.State.{Shown, is_over, lent_reply, with_line, with_made, kept_in, phased, bad_at, printed, end_bad, answered_shown}
use Rattle.bench_unit.specs.Plans.{plan_shown, plan_taken}
use Rattle.bench_unit.specs.Ended.{live_shown, line_shown, line_printed, place_printed, places_to, places_printed, end_taken, end_plan, end_first, end_by, end_of_input}

-- ---- text that fits is laid whole, and what stands beside it stays
lay_whole : (k : ℕ) (m d : List ℕ) → k + length m ≤ length d → lay_at k m d ≡ take k d ++ (m ++ drop (k + length m) d)
unfolding lay_at
lay_whole zero m d h = let z : 0 + length m ≡ length m = omega arith in rw z (overlay-fits m d (omega arith))
lay_whole (suc k) m [] h = absurd (omega arith)
lay_whole (suc k) m (y ∷ d) h =
    let z : suc k + length m ≡ suc (k + length m) = omega arith in
    rw z (ap (λ (l : List ℕ). y ∷ l) (lay_whole k m d (omega arith)))

-- ---- what a step prints: from the buffer with its place to the buffer and the place behind
unfoldable pub Adds : List ℕ → ℕ → List ℕ → ℕ → List ℕ → Type 0
Adds m made out after o = written after o ≡ laid made m out

pub adds_none : (made : ℕ) (out : List ℕ) → made ≤ length out → Adds [] made out made out
unfolding Adds
adds_none made out h = laid_in made out h

pub adds_on : (m k : List ℕ) (a b c : ℕ) (x y z : List ℕ) → Adds m a x b y → Adds k b y c z → Adds (m ++ k) a x c z
unfolding Adds
adds_on m k a b c x y z e f = f ∙ laid_on a b m k x y e

pub adds_printed : (m : List ℕ) (next : ℕ → Bench) (made : ℕ) (out : List ℕ) → ((k : ℕ) → (next k).made ≡ k)
    → Adds m made out (printed m next made out).bench.made (printed m next made out).out
unfolding Adds printed
adds_printed m next made out h = rw (h (laid made m out).at)

pub adds_within : (m : List ℕ) (a b : ℕ) (x y : List ℕ) → Adds m a x b y → b ≤ length y
unfolding Adds
adds_within m a b x y e =
    let p = laid_most a b m x y e in
    let q = laid-length a b m x y e in
    omega arith

-- with room for the text nothing is cut
pub adds_whole : (m : List ℕ) (a b : ℕ) (x y : List ℕ) → Adds m a x b y → a + length m ≤ length x
    → (b ≡ a + length m) × (y ≡ take a x ++ (m ++ drop (a + length m) x))
unfolding Adds laid
adds_whole m a b x y e h =
    let p : b ≡ min (a + length m) (length x) = ap (λ (w : Written). w.at) e in
    let q : y ≡ lay_at a m x = ap (λ (w : Written). w.out) e in
    (omega arith, q ∙ lay_whole a m x h)

-- ---- the texts
unfoldable pub plan_prints : Answer → List ℕ
plan_prints a = pick (eqb a.number 0) [] (answer_text a.number (take a.size []))

unfoldable pub place_prints : Node → List Session → List (List ℕ) → ℕ → List ℕ
place_prints node t w place =
    pick (eqb (get_or t place nobody).usage 0) []
    (take (line_stored node t w place lent_reply).answer.size (line_stored node t w place lent_reply).reply ++ (10 ∷ []))

unfoldable pub places_print : Node → List Session → List (List ℕ) → ℕ → List ℕ
places_print node t w zero = []
places_print node t w (suc k) = places_print node t w k ++ place_prints node t w k

-- the live count and the places
unfoldable pub all_print : Node → List Session → List (List ℕ) → List ℕ
all_print node t w = live_text (sessions (take places t)) ++ places_print node t w places

unfoldable pub plan_end_prints : Bench → List Session → List (List ℕ) → List ℕ
plan_end_prints b t w =
    pick (is_over (plan_taken b t w []).bench.phase) (plan_prints (fresh_stored b.node.plan t w).call.answer)
    (plan_prints (fresh_stored b.node.plan t w).call.answer ++ all_print (plan_taken b t w []).bench.node (plan_taken b t w []).table (plan_taken b t w []).store)

unfoldable pub end_prints_by : Phase → Bench → List Session → List (List ℕ) → List ℕ
end_prints_by P.First b t w = bad_text (with_line b).lines
end_prints_by P.Plan b t w = plan_end_prints b t w
end_prints_by P.Runs b t w = all_print b.node t w
end_prints_by P.Over b t w = []

unfoldable pub end_prints : Bench → List Session → List (List ℕ) → List ℕ
end_prints b t w = end_prints_by b.phase b t w

-- ---- each step prints its text
pub bad_adds : (b : Bench) (out : List ℕ) → Adds (bad_text b.lines) b.made out (end_bad b out).bench.made (end_bad b out).out
unfolding end_bad bad_at
bad_adds b out = adds_printed (bad_text b.lines) (bad_at b) b.made out (λ k. refl)

module _ (b : Bench) (t : List Session) (w : List (List ℕ)) (out : List ℕ) (h : b.made ≤ length out) where
  pub plan_adds : Adds (plan_prints (fresh_stored b.node.plan t w).call.answer) b.made out (plan_taken b t w out).bench.made (plan_taken b t w out).out
  unfolding plan_prints plan_taken plan_shown answered_shown kept_in phased
  plan_adds =
      split (eqb (fresh_stored b.node.plan t w).call.answer.number 0) (λ e. rw e (adds_none b.made out h))
      (λ e. rw e (adds_printed _ _ b.made out (λ k. refl)))

  -- what of the outcome does not rest on the buffer
  pub plan_phase : (plan_taken b t w out).bench.phase ≡ (plan_taken b t w []).bench.phase
  unfolding plan_taken plan_shown answered_shown kept_in phased printed
  plan_phase = split (eqb (fresh_stored b.node.plan t w).call.answer.number 0) (λ e. rw e) (λ e. rw e)

  pub plan_node : (plan_taken b t w out).bench.node ≡ (plan_taken b t w []).bench.node
  unfolding plan_taken plan_shown answered_shown kept_in phased printed
  plan_node = split (eqb (fresh_stored b.node.plan t w).call.answer.number 0) (λ e. rw e) (λ e. rw e)

  pub plan_lines : (plan_taken b t w out).bench.lines ≡ b.lines
  unfolding plan_taken plan_shown answered_shown kept_in phased printed
  plan_lines = split (eqb (fresh_stored b.node.plan t w).call.answer.number 0) (λ e. rw e) (λ e. rw e)

  pub plan_table : (plan_taken b t w out).table ≡ (plan_taken b t w []).table
  unfolding plan_taken
  plan_table = refl

  pub plan_store : (plan_taken b t w out).store ≡ (plan_taken b t w []).store
  unfolding plan_taken
  plan_store = refl

  pub plan_within : (plan_taken b t w out).bench.made ≤ length (plan_taken b t w out).out
  plan_within = adds_within _ _ _ out _ plan_adds

module _ (t : List Session) (w : List (List ℕ)) (place : ℕ) (b : Bench) (out : List ℕ) where
  place_adds : b.made ≤ length out
      → Adds (place_prints b.node t w place) b.made out (place_printed t w place b out).bench.made (place_printed t w place b out).out
  unfolding place_prints place_printed line_printed line_shown with_made
  place_adds h =
      split (eqb (get_or t place nobody).usage 0) (λ e. rw e (adds_none b.made out h))
      (λ e. rw e (adds_printed _ _ b.made out (λ k. refl)))

  place_node : (place_printed t w place b out).bench.node ≡ b.node
  unfolding place_printed line_printed line_shown with_made printed
  place_node = split (eqb (get_or t place nobody).usage 0) (λ e. rw e) (λ e. rw e)

places_node : (t : List Session) (w : List (List ℕ)) (k : ℕ) (x : Shown) → (places_to t w k x).bench.node ≡ x.bench.node
unfolding places_to
places_node t w zero x = refl
places_node t w (suc k) x = place_node t w k _ _ ∙ places_node t w k x

places_add : (t : List Session) (w : List (List ℕ)) (k : ℕ) (x : Shown) → x.bench.made ≤ length x.out
    → Adds (places_print x.bench.node t w k) x.bench.made x.out (places_to t w k x).bench.made (places_to t w k x).out
unfolding places_to places_print
places_add t w zero x h = adds_none _ _ h
places_add t w (suc k) x h =
    let r = places_add t w k x h in
    let n = places_node t w k x in
    let q = adds_within _ _ _ _ _ r in
    let p : Adds (place_prints x.bench.node t w k) (places_to t w k x).bench.made (places_to t w k x).out
    (place_printed t w k (places_to t w k x).bench (places_to t w k x).out).bench.made (place_printed t w k (places_to t w k x).bench (places_to t w k x).out).out
    = rw n at (place_adds t w k (places_to t w k x).bench (places_to t w k x).out q) in
    adds_on _ _ _ _ _ _ _ _ r p

all_add : (t : List Session) (w : List (List ℕ)) (b : Bench) (out : List ℕ)
    → Adds (all_print b.node t w) b.made out (places_printed t w b out).bench.made (places_printed t w b out).out
unfolding all_print places_printed live_shown with_made printed
all_add t w b out =
    let l = adds_printed (live_text (sessions (take places t))) (λ made. with_made made b) b.made out (λ k. refl) in
    let p = places_add t w places (live_shown (sessions (take places t)) b out) (adds_within _ _ _ _ _ l) in
    adds_on _ _ _ _ _ _ _ _ l p

-- the end of the input prints its text
end_by_adds : (p : Phase) (b : Bench) (t : List Session) (w : List (List ℕ)) (out : List ℕ) → b.made ≤ length out
    → Adds (end_prints_by p b t w) b.made out (end_by p b t w out).bench.made (end_by p b t w out).out
unfolding end_prints_by end_by plan_end_prints end_plan end_taken end_first with_line
end_by_adds P.First b t w out h = bad_adds (with_line b) out
end_by_adds P.Plan b t w out h =
    rw (plan_phase b t w out h) (split (is_over (plan_taken b t w []).bench.phase)
    (λ i. rw i (plan_adds b t w out h))
    (λ i. rw (i, ← plan_node b t w out h, ← plan_table b t w out h, ← plan_store b t w out h) (adds_on _ _ _ _ _ _ _ _ (plan_adds b t w out h) (all_add (plan_taken b t w out).table (plan_taken b t w out).store (plan_taken b t w out).bench (plan_taken b t w out).out))))
end_by_adds P.Runs b t w out h = all_add t w b out
end_by_adds P.Over b t w out h = adds_none b.made out h

pub end_adds : (b : Bench) (t : List Session) (w : List (List ℕ)) (out : List ℕ) → b.made ≤ length out
    → Adds (end_prints b t w) b.made out (end_of_input b t w out).bench.made (end_of_input b t w out).out
unfolding end_prints end_of_input
end_adds b t w out h = end_by_adds b.phase b t w out h

-- ---- how long the texts are
-- a place prints at most a reply buffer of text, and a line end
unfoldable pub place_room : ℕ
place_room = least_reply + 1

pub place_most : (node : Node) (t : List Session) (w : List (List ℕ)) (place : ℕ) → length (place_prints node t w place) ≤ place_room
unfolding place_prints line_stored line_of line_by no_reply lent_reply place_room least_reply laid
place_most node t w place =
    split (eqb (get_or t place nobody).usage 0) (λ e. rw e (omega arith))
    (λ e. rw e (split (store_ok w)
    (λ s. rw s (split (keeps_rules node t)
    (λ k. rw k (split (ltb place (length t))
    (λ i. rw i (simp (length-append, length-take) (omega arith)))
    (λ i. rw i (simp length-append (omega arith)))))
    (λ k. rw k (simp length-append (omega arith)))))
    (λ s. rw s (simp length-append (omega arith)))))

module _ (node : Node) (t : List Session) (w : List (List ℕ)) where
  places_most : (k : ℕ) → length (places_print node t w k) ≤ place_room * k
  unfolding places_print place_room least_reply
  places_most zero = omega arith
  places_most (suc k) =
      let r = places_most k in
      let p = place_most node t w k in
      simp length-append (omega arith)

  pub all_most : length (all_print node t w) ≤ 23 + place_room * places
  unfolding all_print place_room least_reply
  all_most =
      let a = live_most (sessions (take places t)) in
      let r = places_most places in
      simp length-append (omega arith)

pub plan_most : (a : Answer) → length (plan_prints a) ≤ 23
unfolding plan_prints
plan_most a =
    let r = answer_most a.number (take a.size []) in
    let z : length (take {A = ℕ} a.size []) ≡ 0 = simp length-take (omega arith) in
    split (eqb a.number 0) (λ e. rw e (omega arith)) (λ e. rw e (omega arith))

end_by_most : (p : Phase) (b : Bench) (t : List Session) (w : List (List ℕ)) → length (end_prints_by p b t w) ≤ 46 + place_room * places
unfolding end_prints_by plan_end_prints place_room least_reply
end_by_most P.First b t w = let e = bad_most (with_line b).lines in omega arith
end_by_most P.Plan b t w =
    let c = plan_most (fresh_stored b.node.plan t w).call.answer in
    let d = all_most (plan_taken b t w []).bench.node (plan_taken b t w []).table (plan_taken b t w []).store in
    split (is_over (plan_taken b t w []).bench.phase) (λ i. rw i (omega arith)) (λ i. rw i (simp length-append (omega arith)))
end_by_most P.Runs b t w = let a = all_most b.node t w in omega arith
end_by_most P.Over b t w = omega arith

pub end_most : (b : Bench) (t : List Session) (w : List (List ℕ)) → length (end_prints b t w) ≤ 46 + place_room * places
unfolding end_prints
end_most b t w = end_by_most b.phase b t w
