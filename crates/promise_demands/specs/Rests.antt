-- Octets past a reply's length stay as lent: in every call that has a reply buffer or an output buffer, for any datagram, table, store and
-- buffer, whatever the number, a reply of the store among them.
-- Assumes nothing.
use Rattle.std.specs.Prelude.{ℕ, List, ◌≡◌, drop}
use Rattle.unit_session.specs.declared.Session.{Session}
use Rattle.unit_table.specs.declared.Node.{Node}
use Rattle.call_own.specs.Outcome.{Outcome}
use Rattle.call_store.specs.Stored.{send_stored, line_stored, user_stored, down_stored, control_stored}

-- the octets from the reply's length on
abbrev pub Rest : ℕ → List ℕ → List ℕ → Type 0
Rest size after before = drop size after ≡ drop size before

abbrev pub RestOf : Outcome → List ℕ → Type 0
RestOf o reply = Rest o.answer.size o.reply reply

pub record RestsStay : Type 0 where
  pub control : (node : Node) (t : List Session) (w : List (List ℕ)) (d reply : List ℕ) → RestOf (control_stored node t w d reply).call reply
  pub user : (node : Node) (t : List Session) (w : List (List ℕ)) (d reply : List ℕ)
      → Rest (user_stored node t w d reply).size (user_stored node t w d reply).reply reply
  pub down : (node : Node) (t : List Session) (w : List (List ℕ)) (packet out : List ℕ)
      → Rest (down_stored node t w packet out).written.size (down_stored node t w packet out).buffer out
  pub send : (node : Node) (t : List Session) (w : List (List ℕ)) (reply : List ℕ) → RestOf (send_stored node t w reply) reply
  pub line : (node : Node) (t : List Session) (w : List (List ℕ)) (place : ℕ) (reply : List ℕ) → RestOf (line_stored node t w place reply) reply
