-- A Modify or a Delete that was answered, asked again: within nine ticks, with at most 31 other replies kept between and no restart of the exchange, it
-- has the very same reply and number and changes nothing. After the tenth tick, after the thirty-second of the others, or after a restart it is
-- judged anew. Asking again is no call of these: it renews no life and keeps nothing.
-- Assumes nothing.
use Rattle.std.specs.Prelude.{ℕ, ◌+◌, ◌<◌, ◌≤◌, Bool, true, ◌&&◌, ◌||◌, ◌≡◌, length, take, eqb, leb}
use Rattle.std.proofs.Math.Bool.{false, not}
use mathlib.Core.List.{List, [], ◌∷◌}
use mir.Val.{bool_byte}
use Rattle.base_octets.specs.Every.{every}
use Rattle.base_octets.specs.BigEndian.{is_octet}
use Rattle.unit_plan.specs.declared.Plan.{Plan}
use Rattle.unit_store.specs.Row.{store_rows, full_life, life_in, three_in}
use Rattle.call_own.specs.Outcome.{Outcome, least_reply, replied}
use Rattle.call_asked.specs.Asked.{asked_of}
use Rattle.call_control.specs.Control.{restarts_in, control_taken}
use Rattle.call_store.specs.Stored.{State, stored, asks_store, three_asked, is_kept, store_after, control_stored}
use Rattle.promise_demands.specs.Run.{Event, control, user, down, tick, send, close, line, step, run, of_octets, Run}
use Rattle.promise_demands.specs.InTime.{ticks_in}

-- ---- what a call does to the store
-- it keeps a reply: a Modify or a Delete that the store does not answer
unfoldable pub keeps_reply : Event → State → Bool
keeps_reply (control d reply) s = leb least_reply (length reply) && (asks_store d && not (is_kept d s.store))
keeps_reply (user d reply) s = false
keeps_reply (down packet out) s = false
keeps_reply tick s = false
keeps_reply (send reply) s = false
keeps_reply (close place) s = false
keeps_reply (line place reply) s = false

-- it empties it: a Recovery that frees everything
unfoldable pub empties : Event → State → Bool
empties (control d reply) s = leb least_reply (length reply) && restarts_in (asked_of s.node d) s.node
empties (user d reply) s = false
empties (down packet out) s = false
empties tick s = false
empties (send reply) s = false
empties (close place) s = false
empties (line place reply) s = false

-- it is a request of this type, sequence number and header TEID
unfoldable pub asks_for : ℕ → Event → Bool
asks_for three (control d reply) = asks_store d && eqb three (three_asked d)
asks_for three (user d reply) = false
asks_for three (down packet out) = false
asks_for three tick = false
asks_for three (send reply) = false
asks_for three (close place) = false
asks_for three (line place reply) = false

-- how many replies are kept in a run, whether the store is emptied in it, and whether anyone asks for the three
unfoldable pub kept_in : List Event → State → ℕ
kept_in [] s = 0
kept_in (e ∷ es) s = bool_byte (keeps_reply e s) + kept_in es (step e s)

unfoldable pub emptied_in : List Event → State → Bool
emptied_in [] s = false
emptied_in (e ∷ es) s = empties e s || emptied_in es (step e s)

unfoldable pub unasked : ℕ → List Event → Bool
unasked three es = every (λ e. not (asks_for three e)) es

-- ---- the claims
-- the kept reply, octet for octet, with its number; node, table and store as they are
abbrev pub SameReply : List ℕ → Outcome → State → List ℕ → Type 0
SameReply d o t buffer =
    control_stored t.node t.table t.store d buffer
    ≡ stored (replied o.answer.number t.node t.table (take o.answer.size o.reply) buffer) t.store

unfoldable pub AskedAgain : Type 0
AskedAgain = (p : Plan) (s : State) (es : List Event) → Run p s es
    → (d reply : List ℕ) → every is_octet d ≡ true → asks_store d ≡ true → least_reply ≤ length reply → is_kept d (run es s).store ≡ false
    → (later : List Event) → every of_octets later ≡ true
    → ticks_in later < full_life → kept_in later (step (control d reply) (run es s)) < store_rows → emptied_in later (step (control d reply) (run es s)) ≡ false
    → (buffer : List ℕ) → least_reply ≤ length buffer
    → SameReply d (control_stored (run es s).node (run es s).table (run es s).store d reply).call (run later (step (control d reply) (run es s))) buffer

-- what the unit answers that keeps no reply to it, and it is kept
abbrev pub Anew : List ℕ → State → List ℕ → Type 0
Anew d t buffer =
    control_stored t.node t.table t.store d buffer
    ≡ stored (control_taken t.node t.table d buffer) (store_after t.node d (control_taken t.node t.table d buffer) t.store)

-- after any run, and any more calls of which none asks for the same
abbrev Judged : (List Event → State → Type 0) → Type 0
Judged Enough = (p : Plan) (s : State) (es : List Event) → Run p s es → (d : List ℕ)
    → (later : List Event) → every of_octets later ≡ true → unasked (three_asked d) later ≡ true → Enough later (run es s)
    → (buffer : List ℕ) → least_reply ≤ length buffer → Anew d (run later (run es s)) buffer

pub record JudgedAnew : Type 0 where
  pub tenth : Judged (λ later s. full_life ≤ ticks_in later)
  pub oldest : Judged (λ later s. store_rows ≤ kept_in later s)
  pub restart : Judged (λ later s. emptied_in later s ≡ true)

-- the row that a call keeps
pub record RowOf (e : Event) (row : List ℕ) : Type 0 where
  pub life : life_in row ≡ full_life
  pub three : of_octets e ≡ true → asks_for (three_in row) e ≡ true
