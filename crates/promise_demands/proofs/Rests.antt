-- That what specs/Rests.antt says holds, and what that rests on.
-- Assumes nothing.
use Rattle.std.specs.Prelude.{ℕ, zero, suc, ◌+◌, ◌≤◌, min, List, [], ◌∷◌, ◌≡◌, refl, length, drop, get_or, eqb, ltb}
use Rattle.std.proofs.Common.{arith}
use Rattle.base_octets.specs.Choice.{split}
use Rattle.base_octets.specs.Overlay.{overlay}
use Rattle.base_numerals.specs.Laid.{lay_at, laid}
use Rattle.unit_session.specs.declared.Session.{Session}
use Rattle.unit_session.specs.OwnRequest.{sent_once}
use Rattle.unit_table.specs.declared.Node.{Node}
use Rattle.unit_table.specs.Rules.{keeps_rules}
use Rattle.unit_table.specs.Change.{nobody}
use Rattle.unit_table.specs.Number.{taken_number}
use Rattle.unit_table.specs.Own.{due_place}
use Rattle.unit_store.specs.Store.{store_ok}
use Rattle.wire_messages.specs.Types.{echo_type}
use Rattle.wire_messages.specs.Messages.{echo_of, delete_bearer}
use Rattle.call_own.specs.Outcome.{least_reply, no_reply}
use Rattle.call_own.specs.Calls.{echo_sent, place_sent, due_sent, send_of}
use Rattle.call_line.specs.Line.{line_text, line_by, line_of}
use Rattle.call_down.specs.Down.{down_taken, down_lowers}
use Rattle.call_store.specs.Stored.{send_stored, line_stored, user_stored, down_stored, control_stored}
use Rattle.promise_demands.proofs.UserLeaves.{user_stored_takes}
use Rattle.promise_demands.proofs.Comes.{control_comes}
use Rattle.promise_demands.specs.Rests.{Rest, RestOf, RestsStay}

-- ---- laws
-- past the end of a message, or of the buffer where that is shorter
past : (k : ℕ) (m d : List ℕ) → min (length m) (length d) ≤ k → drop k (overlay m d) ≡ drop k d
unfolding overlay
past k [] d h = refl
past k (x ∷ m) [] h = refl
past zero (x ∷ m) (y ∷ d) h = absurd (omega arith)
past (suc k) (x ∷ m) (y ∷ d) h = past k m d (omega arith)

over_rest : (m reply : List ℕ) → Rest (length m) (overlay m reply) reply
over_rest m reply = past (length m) m reply (omega arith)

control_rest : (node : Node) (t : List Session) (w : List (List ℕ)) (d reply : List ℕ) → RestOf (control_stored node t w d reply).call reply
control_rest node t w d reply = let c = control_comes node t w d reply in rw c.over (over_rest c.message reply)

user_rest : (node : Node) (t : List Session) (w : List (List ℕ)) (d reply : List ℕ)
    → Rest (user_stored node t w d reply).size (user_stored node t w d reply).reply reply
user_rest node t w d reply = let c = user_stored_takes node t d reply w in rw c.over (over_rest c.message reply)

lowered_rest : (node : Node) (t : List Session) (packet out : List ℕ) → Rest (down_taken node t packet out).written.size (down_taken node t packet out).buffer out
lowered_rest node t packet out = let c = down_lowers node t packet out in rw (c.size, c.over) (over_rest c.message out)

down_rest : (node : Node) (t : List Session) (w : List (List ℕ)) (packet out : List ℕ)
    → Rest (down_stored node t w packet out).written.size (down_stored node t w packet out).buffer out
unfolding down_stored
down_rest node t w packet out = split (store_ok w) (λ s. rw s (lowered_rest node t packet out)) (λ s. rw s)

due_rest : (node : Node) (t : List Session) (reply : List ℕ) → RestOf (send_of node t reply) reply
unfolding send_of due_sent echo_sent place_sent no_reply
due_rest node t reply =
    let k = taken_number node.next node.echo t in
    let s = get_or t (due_place t) nobody in
    let echo = echo_of echo_type (sent_once node.plan.resend k node.echo).number node.plan.recovery in
    let bearer = delete_bearer s.control (sent_once node.plan.resend k s.own).number s.ebi in
    split (ltb (length reply) least_reply) (λ a. rw a)
    (λ a. split (keeps_rules node t)
    (λ e. split (eqb node.echo.timer 0) (λ z. rw (a, e, z) (over_rest echo reply))
    (λ z. split (ltb (due_place t) (length t)) (λ d. rw (a, e, z, d) (over_rest bearer reply)) (λ d. rw (a, e, z, d))))
    (λ e. rw (a, e)))

text_rest : (node : Node) (t : List Session) (place : ℕ) (reply : List ℕ) → RestOf (line_of node t place reply) reply
unfolding line_of line_by laid lay_at
text_rest node t place reply =
    split (ltb (length reply) least_reply) (λ a. rw a)
    (λ a. split (keeps_rules node t)
    (λ e. split (ltb place (length t))
    (λ h. let m = line_text place (get_or t place nobody) in rw (a, e, h) (past (min (0 + length m) (length reply)) m reply (omega arith)))
    (λ h. rw (a, e, h)))
    (λ e. rw (a, e)))

send_rest : (node : Node) (t : List Session) (w : List (List ℕ)) (reply : List ℕ) → RestOf (send_stored node t w reply) reply
unfolding send_stored no_reply
send_rest node t w reply = split (store_ok w) (λ s. rw s (due_rest node t reply)) (λ s. rw s)

line_rest : (node : Node) (t : List Session) (w : List (List ℕ)) (place : ℕ) (reply : List ℕ) → RestOf (line_stored node t w place reply) reply
unfolding line_stored no_reply
line_rest node t w place reply = split (store_ok w) (λ s. rw s (text_rest node t place reply)) (λ s. rw s)

pub rests_stay : RestsStay
rests_stay = record { control = control_rest; user = user_rest; down = down_rest; send = send_rest; line = line_rest }
