-- That what specs/Again.antt says holds, and what that rests on.
-- Assumes nothing.
use Rattle.std.specs.Prelude.{ℕ, ◌+◌, ◌-◌, ◌<◌, ◌≤◌, Bool, true, ◌&&◌, ◌≡◌, refl, length, take, eqb, leb}
use Rattle.std.proofs.Math.Bool.{false, not}
use mathlib.Core.List.{List, [], ◌∷◌}
use Rattle.std.proofs.Common.{sym, ◌∙◌, ap, add-one}
use Rattle.std.proofs.Math.Nat.{add-zero, add_assoc}
use native.Mathlib.Omega.{arith}
use Rattle.std.proofs.Math.Dec.{ltb}
use mir.Val.{bool_byte}
use borrow.Author.Tests.{eq-eqb, eqb-true, le-leb, lt-leb, leb-true, lt-ltb, le-ltb, ltb-true, ltb-false}
use Rattle.base_octets.specs.Choice.{split, and_left, and_right, or_split, impossible}
use Rattle.base_octets.specs.Every.{every}
use Rattle.base_octets.specs.BigEndian.{is_octet}
use Rattle.base_octets.specs.Sums.{sum_of}
use Rattle.base_octets.specs.Search.{first_of}
use Rattle.base_octets.specs.Overlay.{length-overlay}
use Rattle.unit_store.specs.Row.{store_rows, full_life, longest_reply, is_unused, life_in, number_in, octets_in, three_in, holds, row_of}
use Rattle.unit_store.specs.Store.{pushed, aged, emptied, sound_of}
use Rattle.unit_store.specs.Made.{made_life, made_number, made_octets}
use Rattle.unit_store.specs.Lasts.{after_ticks, number_after, octets_after, Lies, lies_first, lies_kept, lies_aged, lies_found, Fades, fades_first, fades_aged, fades_emptied, fades_pushed, fading_other, fades_over, Behind, behind-first, behind-pushed, behind-taken, behind_all}
use Rattle.call_own.specs.Outcome.{Outcome, least_reply}
use Rattle.call_asked.specs.Asked.{asked_of}
use Rattle.call_control.specs.Control.{restarts_in, control_taken}
use Rattle.call_store.specs.Stored.{State, Stored, asks_store, head_asked, three_asked, kept_place, is_kept, kept_for, store_after, control_stored}
use Rattle.wire_header.specs.Header.{teid_of}
use Rattle.call_store.specs.Laws.{control_short, control_kept, control_new, unasked_unkept, tick_keeping}
use Rattle.call_store.specs.Answers.{asked_fits, asked_still}
use Rattle.call_store.specs.Kept.{asked_three, taken_asked}
use Rattle.promise_demands.specs.Run.{left, Event, control, user, down, tick, send, close, line, step, run, of_octets, Kept}
use Rattle.promise_demands.proofs.Run.{kept_table, kept_store, step_keeps, run-keeps}
use Rattle.promise_demands.proofs.Comes.{control_comes}
use Rattle.promise_demands.proofs.Stays.{run_start}
use Rattle.promise_demands.specs.InTime.{is_tick, ticks_in}
use Rattle.promise_demands.proofs.Resends.{or_no}
use Rattle.promise_demands.specs.Again.{keeps_reply, empties, asks_for, kept_in, emptied_in, unasked, SameReply, AskedAgain, Anew, JudgedAnew, RowOf}

-- ---- proofs
module _ (d reply : List ℕ) (s : State) (k : Kept s) where
  answers-short : length reply < least_reply → (step (control d reply) s).store ≡ s.store
  unfolding step left
  answers-short h = rw (control_short s.node s.table s.store d reply h)

  answers_kept : least_reply ≤ length reply → is_kept d s.store ≡ true → step (control d reply) s ≡ s
  unfolding step left
  answers_kept h f = rw (control_kept s.node s.table s.store d reply h k f)

  answers_new : least_reply ≤ length reply → is_kept d s.store ≡ false
      → (step (control d reply) s).store ≡ store_after s.node d (control_taken s.node s.table d reply) s.store
  unfolding step left
  answers_new h f = rw (control_new s.node s.table s.store d reply h k f)

none_kept : (a : Bool) → (a && false) ≡ false
none_kept true = refl
none_kept false = refl

module _ (d reply : List ℕ) (s : State) (k : Kept s) (P : Bool → Bool → List (List ℕ) → Type 0) (h : least_reply ≤ length reply) where
  control_stays : is_kept d s.store ≡ true → P false false s.store → P false (keeps_reply (control d reply) s) (step (control d reply) s).store
  unfolding keeps_reply
  control_stays f same = rw (answers_kept d reply s k h f, f, none_kept (asks_store d), none_kept (leb least_reply (length reply))) same

  module _ (f : is_kept d s.store ≡ false) where
    abbrev o : Outcome
    o = control_taken s.node s.table d reply

    abbrev made : List ℕ
    made = row_of (head_asked d) (teid_of d) o.answer.number o.answer.size o.reply

    row_made : asks_store d ≡ true → RowOf (control d reply) made
    unfolding of_octets asks_for
    row_made a = record {
      life = made_life (head_asked d) (teid_of d) o.answer.number o.answer.size o.reply;
      three = λ q. let e = asked_three d a q o.answer.number o.answer.size o.reply in rw (a, eq-eqb (three_in made) (three_asked d) e);
    }

    control_keeps : asks_store d ≡ true → ((row : List ℕ) → RowOf (control d reply) row → P false true (pushed row s.store))
        → P false (keeps_reply (control d reply) s) (step (control d reply) s).store
    unfolding keeps_reply store_after
    control_keeps a pushes = rw (answers_new d reply s k h f, a, f, le-leb least_reply (length reply) h) (pushes made (row_made a))

    control_others : asks_store d ≡ false → (empties (control d reply) s ≡ true → P false false (emptied s.store)) → P false false s.store
        → P false (keeps_reply (control d reply) s) (step (control d reply) s).store
    unfolding keeps_reply store_after empties
    control_others a clear same =
        split (restarts_in (asked_of s.node d) s.node)
        (λ r. rw (answers_new d reply s k h f, a, r, none_kept (leb least_reply (length reply))) (clear (rw (r, le-leb least_reply (length reply) h))))
        (λ r. rw (answers_new d reply s k h f, a, r, none_kept (leb least_reply (length reply))) same)

store_by : (e : Event) (s : State) → Kept s → (P : Bool → Bool → List (List ℕ) → Type 0)
    → P true false (aged s.store) → ((row : List ℕ) → RowOf e row → P false true (pushed row s.store))
    → (empties e s ≡ true → P false false (emptied s.store)) → P false false s.store
    → P (is_tick e) (keeps_reply e s) (step e s).store
unfolding is_tick keeps_reply step left
store_by (control d reply) s k P ticked pushes clear same =
    split (ltb (length reply) least_reply)
    (λ b. let h = ltb-true (length reply) least_reply b in rw (lt-leb least_reply (length reply) h, control_short s.node s.table s.store d reply h) same)
    (λ b. let h = ltb-false (length reply) least_reply b in
    split (is_kept d s.store)
    (λ f. control_stays d reply s k P h f same)
    (λ f. split (asks_store d) (λ a. control_keeps d reply s k P h f a pushes) (λ a. control_others d reply s k P h f a clear same)))
store_by (user d reply) s k P ticked pushes clear same = same
store_by (down packet out) s k P ticked pushes clear same = same
store_by tick s k P ticked pushes clear same = rw (tick_keeping s.node s.table s.store k) ticked
store_by (send reply) s k P ticked pushes clear same = same
store_by (close place) s k P ticked pushes clear same = same
store_by (line place reply) s k P ticked pushes clear same = same

-- ---- a kept reply in a run
module _ (x : List ℕ) (full : life_in x ≡ full_life) where
  lies_step : (m k : ℕ) (e : Event) (s : State) → Kept s → empties e s ≡ false → m + bool_byte (is_tick e) < full_life → k + bool_byte (keeps_reply e s) < store_rows
      → Lies x m k s.store → Lies x (m + bool_byte (is_tick e)) (k + bool_byte (keeps_reply e s)) (step e s).store
  lies_step m k e s q f a b l =
      store_by e s q (λ t c w. m + bool_byte t < full_life → k + bool_byte c < store_rows → Lies x (m + bool_byte t) (k + bool_byte c) w)
      (λ u v. rw (add-one m, add-zero k) (lies_aged x m k s.store l))
      (λ row r u v. rw (add-zero m, add-one k) (lies_kept x m k s.store l row full (omega arith) (let n = (sound_of s.store (kept_store s q)).size in omega arith)))
      (λ g. impossible (sym f ∙ g))
      (λ u v. rw (add-zero m, add-zero k) l)
      a b

  lies_run : (m k : ℕ) (es : List Event) (s : State) → Kept s → every of_octets es ≡ true → emptied_in es s ≡ false
      → m + ticks_in es < full_life → k + kept_in es s < store_rows → Lies x m k s.store → Lies x (m + ticks_in es) (k + kept_in es s) (run es s).store
  unfolding run every emptied_in ticks_in kept_in sum_of
  lies_run m k [] s q o f a b l = rw (add-zero m, add-zero k) l
  lies_run m k (e ∷ es) s q o f a b l =
      let g = or_no (empties e s) (emptied_in es (step e s)) f in
      let r = lies_step m k e s q g.0 (omega arith) (omega arith) l in
      rw (← add_assoc m (bool_byte (is_tick e)) (ticks_in es), ← add_assoc k (bool_byte (keeps_reply e s)) (kept_in es (step e s)))
      (lies_run (m + bool_byte (is_tick e)) (k + bool_byte (keeps_reply e s)) es (step e s) (step_keeps e s (and_left (of_octets e) (every of_octets es) o) q)
      (and_right (of_octets e) (every of_octets es) o) g.1 (omega arith) (omega arith) r)

-- ---- what fades in a run, and what goes back
-- a call that empties the store leaves nothing of it
store_emptied : (e : Event) (s : State) → Kept s → empties e s ≡ true → (step e s).store ≡ emptied s.store
unfolding empties store_after
store_emptied (control d reply) s k g =
    let h = leb-true least_reply (length reply) (and_left (leb least_reply (length reply)) (restarts_in (asked_of s.node d) s.node) g) in
    let r = and_right (leb least_reply (length reply)) (restarts_in (asked_of s.node d) s.node) g in
    split (asks_store d)
    (λ a. impossible (sym (asked_still s.node d a) ∙ r))
    (λ a. rw (answers_new d reply s k h (unasked_unkept s.node s.table s.store d reply a), a, r))
store_emptied (user d reply) s k g = impossible g
store_emptied (down packet out) s k g = impossible g
store_emptied tick s k g = impossible g
store_emptied (send reply) s k g = impossible g
store_emptied (close place) s k g = impossible g
store_emptied (line place reply) s k g = impossible g

module _ (three : ℕ) where
  -- the row that is kept is another's
  other_row : (e : Event) (row : List ℕ) → of_octets e ≡ true → not (asks_for three e) ≡ true → RowOf e row → holds three row ≡ false
  unfolding holds
  other_row e row o n r =
      split (eqb three (three_in row))
      (λ q. let f = rw (← eqb-true three (three_in row) q) at (r.three o) in impossible (rw f at n))
      (λ q. rw (q, none_kept (not (is_unused row))))

  module _ (e : Event) (s : State) (k : Kept s) (o : of_octets e ≡ true) (n : not (asks_for three e) ≡ true) where
    fades_step : (m : ℕ) → Fades three m s.store → Fades three (m - bool_byte (is_tick e)) (step e s).store
    fades_step m f =
        store_by e s k (λ t c w. Fades three (m - bool_byte t) w)
        (fades_aged three m s.store f)
        (λ row r. let z : m - 0 ≡ m = omega arith in rw z (fades_pushed three m row s.store (fading_other three m row (other_row e row o n r)) f))
        (λ g. fades_emptied three (m - 0) s.store)
        (let z : m - 0 ≡ m = omega arith in rw z f)

    behind-step : (m : ℕ) → Behind three m s.store → Behind three (m + bool_byte (keeps_reply e s)) (step e s).store
    unfolding aged emptied
    behind-step m b =
        store_by e s k (λ t c w. Behind three (m + bool_byte c) w)
        (rw (add-zero m) (behind-taken three m s.store b false))
        (λ row r. rw (add-one m) (behind-pushed three m s.store b row (kept_store s k) r.life (other_row e row o n r)))
        (λ g. rw (add-zero m) (behind-taken three m s.store b true))
        (rw (add-zero m) b)

  -- over a run of which no call asks for the three
  module _ (e : Event) (es : List Event) (o : every of_octets (e ∷ es) ≡ true) (n : unasked three (e ∷ es) ≡ true) where
    first_octets : of_octets e ≡ true
    unfolding every
    first_octets = and_left (of_octets e) (every of_octets es) o

    rest_octets : every of_octets es ≡ true
    unfolding every
    rest_octets = and_right (of_octets e) (every of_octets es) o

    first-unasked : not (asks_for three e) ≡ true
    unfolding every unasked
    first-unasked = and_left (not (asks_for three e)) (every (λ x. not (asks_for three x)) es) n

    rest_unasked : unasked three es ≡ true
    unfolding every unasked
    rest_unasked = and_right (not (asks_for three e)) (every (λ x. not (asks_for three x)) es) n

  fades_run : (m : ℕ) (es : List Event) (s : State) → Kept s → every of_octets es ≡ true → unasked three es ≡ true
      → Fades three m s.store → Fades three (m - ticks_in es) (run es s).store
  unfolding run ticks_in sum_of
  fades_run m [] s k o n f = let z : m - 0 ≡ m = omega arith in rw z f
  fades_run m (e ∷ es) s k o n f =
      let z : m - (bool_byte (is_tick e) + ticks_in es) ≡ m - bool_byte (is_tick e) - ticks_in es = omega arith in
      rw z (fades_run (m - bool_byte (is_tick e)) es (step e s) (step_keeps e s (first_octets e es o n) k) (rest_octets e es o n) (rest_unasked e es o n)
      (fades_step e s k (first_octets e es o n) (first-unasked e es o n) m f))

  empties-run : (es : List Event) (s : State) → Kept s → every of_octets es ≡ true → unasked three es ≡ true → emptied_in es s ≡ true → Fades three 0 (run es s).store
  unfolding run emptied_in
  empties-run [] s k o n f = impossible f
  empties-run (e ∷ es) s k o n f =
      or_split (empties e s) (emptied_in es (step e s)) f
      (λ g. let z : 0 - ticks_in es ≡ 0 = omega arith in
      rw z at (fades_run 0 es (step e s) then (rest_octets e es o n) (rest_unasked e es o n) (rw (store_emptied e s k g) (fades_emptied three 0 s.store))))
      (λ g. empties-run es (step e s) then (rest_octets e es o n) (rest_unasked e es o n) g)
    where
      then : Kept (step e s)
      then = step_keeps e s (first_octets e es o n) k

  behind-run : (m : ℕ) (es : List Event) (s : State) → Kept s → every of_octets es ≡ true → unasked three es ≡ true
      → Behind three m s.store → Behind three (m + kept_in es s) (run es s).store
  unfolding run kept_in
  behind-run m [] s k o n b = rw (add-zero m) b
  behind-run m (e ∷ es) s k o n b =
      rw (← add_assoc m (bool_byte (keeps_reply e s)) (kept_in es (step e s)))
      (behind-run (m + bool_byte (keeps_reply e s)) es (step e s) (step_keeps e s (first_octets e es o n) k) (rest_octets e es o n) (rest_unasked e es o n)
      (behind-step e s k (first_octets e es o n) (first-unasked e es o n) m b))

-- ---- who is not found is judged anew
module _ (d : List ℕ) (t : State) (k : Kept t) (buffer : List ℕ) (room : least_reply ≤ length buffer) where
  none_anew : first_of (holds (three_asked d)) t.store ≡ length t.store → Anew d t buffer
  unfolding is_kept kept_place
  none_anew e =
      let z : ltb (first_of (holds (three_asked d)) t.store) (length t.store) ≡ false = le-ltb (first_of (holds (three_asked d)) t.store) (length t.store) (omega arith) in
      control_new t.node t.table t.store d buffer room k (rw (z, none_kept (asks_store d)))

  faded_anew : (m : ℕ) → m ≡ 0 → Fades (three_asked d) m t.store → Anew d t buffer
  faded_anew m e f = none_anew (fades_over (three_asked d) t.store (rw e at f))

  behind_anew : (m : ℕ) → store_rows ≤ m → Behind (three_asked d) m t.store → Anew d t buffer
  behind_anew m h b = none_anew (behind_all (three_asked d) t.store m (let n = (sound_of t.store (kept_store t k)).size in omega arith) b)

pub judged_anew : JudgedAnew
judged_anew = record {
  tenth = λ p s es r d later o n h buffer room.
      let k = (run_start p s es r).rules in
      faded_anew d (run later (run es s)) (run-keeps later (run es s) o k) buffer room (full_life - ticks_in later) (omega arith)
      (fades_run (three_asked d) full_life later (run es s) k o n (fades_first (three_asked d) (run es s).store (kept_store (run es s) k)));
  oldest = λ p s es r d later o n h buffer room.
      let k = (run_start p s es r).rules in
      behind_anew d (run later (run es s)) (run-keeps later (run es s) o k) buffer room (0 + kept_in later (run es s)) (omega arith)
      (behind-run (three_asked d) 0 later (run es s) k o n (behind-first (three_asked d) (run es s).store));
  restart = λ p s es r d later o n h buffer room.
      let k = (run_start p s es r).rules in
      faded_anew d (run later (run es s)) (run-keeps later (run es s) o k) buffer room 0 refl (empties-run (three_asked d) later (run es s) k o n h);
}

-- ---- who was answered, and asks again
module _ (d reply : List ℕ) (q : every is_octet d ≡ true) (a : asks_store d ≡ true) (room : least_reply ≤ length reply) (s : State) (k : Kept s) (f : is_kept d s.store ≡ false) where
  abbrev first : Outcome
  first = (control_stored s.node s.table s.store d reply).call

  abbrev row : List ℕ
  row = row_of (head_asked d) (teid_of d) first.answer.number first.answer.size first.reply

  abbrev then : State
  then = step (control d reply) s

  first_is : first ≡ control_taken s.node s.table d reply
  first_is = ap (λ (o : Stored). o.call) (control_new s.node s.table s.store d reply room k f)

  then_store : then.store ≡ pushed row s.store
  unfolding store_after
  then_store = answers_new d reply s k room f ∙ rw (a, ← first_is)

  then_kept : Kept then
  unfolding of_octets
  then_kept = step_keeps (control d reply) s q k

  full : life_in row ≡ full_life
  full = made_life (head_asked d) (teid_of d) first.answer.number first.answer.size first.reply

  its_three : three_in row ≡ three_asked d
  its_three = asked_three d a q first.answer.number first.answer.size first.reply

  short_enough : first.answer.size ≤ longest_reply
  short_enough =
      let e = first_is ∙ taken_asked s.node s.table (kept_table s k) d reply (le-ltb (length reply) least_reply room) in
      rw e (asked_fits s.node s.table reply d a).size

  as_long : length first.reply ≡ length reply
  as_long = let c = control_comes s.node s.table s.store d reply in rw c.over (length-overlay c.message reply)

  its_octets : octets_in row ≡ take first.answer.size first.reply
  unfolding least_reply
  its_octets =
      made_octets (head_asked d) (teid_of d) first.answer.number first.answer.size first.reply short_enough
      (let n = as_long in let m = short_enough in omega arith)

  module _ (t : State) (g : Kept t) (m n : ℕ) (h : m < full_life) (l : Lies row m n t.store) (buffer : List ℕ) (space : least_reply ≤ length buffer) where
    place_is : kept_place d t.store ≡ l.place
    unfolding kept_place
    place_is = rw its_three at (lies_found row m n t.store l (kept_store t g) full h)

    still_kept : is_kept d t.store ≡ true
    unfolding is_kept
    still_kept = rw (a, place_is, lt-ltb l.place (length t.store) l.within)

    its_row : kept_for d t.store ≡ after_ticks m row
    its_row = rw place_is l.row

    same_reply : SameReply d first t buffer
    same_reply =
        let e = control_kept t.node t.table t.store d buffer space g still_kept in
        let x : number_in (kept_for d t.store) ≡ first.answer.number = rw its_row (number_after row m) ∙ made_number (head_asked d) (teid_of d) first.answer.number first.answer.size first.reply in
        let y : octets_in (kept_for d t.store) ≡ take first.answer.size first.reply = rw its_row (octets_after row m) ∙ its_octets in
        e ∙ rw (x, y)

  begins : Lies row 0 0 then.store
  begins = rw then_store (lies_first row s.store (let n = (sound_of s.store (kept_store s k)).size in omega arith))

  again_within : (later : List Event) → every of_octets later ≡ true → ticks_in later < full_life → kept_in later then < store_rows → emptied_in later then ≡ false
      → (buffer : List ℕ) → least_reply ≤ length buffer → SameReply d first (run later then) buffer
  again_within later o ticks kept none buffer space =
      same_reply (run later then) (run-keeps later then o then_kept) (0 + ticks_in later) (0 + kept_in later then) (omega arith)
      (lies_run row full 0 0 later then then_kept o none (omega arith) (omega arith) begins) buffer space

pub asked_again : AskedAgain
unfolding AskedAgain
asked_again p s es r d reply q a room f later o ticks kept none buffer space =
    again_within d reply q a room (run es s) (run_start p s es r).rules f later o ticks kept none buffer space
