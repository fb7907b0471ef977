-- What another count of records than there are places comes to: it is one of the table's rules, so it is number 2, or 1 where the reply
-- buffer is short, with all as lent.
-- Assumes nothing.
use Rattle.std.specs.Prelude.{ℕ, false, List, [], ◌≡◌, length, ltb}
use Rattle.std.proofs.Math.Bool.{true}
use Rattle.std.proofs.Common.{sym, ◌∙◌}
use Rattle.std.proofs.Math.Dec.{eqb}
use Rattle.base_octets.specs.Number.{reply_short, rules_broken}
use Rattle.base_octets.specs.Choice.{pick, split, impossible, and_left, and_right}
use Rattle.unit_tunnel.specs.Numbering.{places}
use Rattle.unit_session.specs.declared.Session.{Session}
use Rattle.unit_table.specs.declared.Node.{Node}
use Rattle.unit_table.specs.Rules.{keeps_rules}
use Rattle.call_own.specs.Outcome.{least_reply, no_reply}
use Rattle.call_own.specs.Calls.{tick_of, close_of, send_of}

-- 1 comes before 2; the number is by the reply buffer's length
unfoldable pub uncounted : ℕ → ℕ
uncounted room = pick {A = ℕ} (ltb room least_reply) reply_short rules_broken

module _ (node : Node) (t : List Session) (other : eqb (length t) places ≡ false) where
  pub rules_other : keeps_rules node t ≡ false
  unfolding keeps_rules
  rules_other = split (keeps_rules node t) (λ e. let h : eqb (length t) places ≡ true = search (and_left, and_right) depth 9 in impossible (sym other ∙ h)) (λ e. e)

  pub tick_other : tick_of node t ≡ no_reply rules_broken node t []
  unfolding tick_of
  tick_other = rw rules_other

  pub close_other : (place : ℕ) → close_of node t place ≡ no_reply rules_broken node t []
  unfolding close_of
  close_other place = rw rules_other

  pub send_other : (reply : List ℕ) → send_of node t reply ≡ no_reply (uncounted (length reply)) node t reply
  unfolding send_of uncounted
  send_other reply = split (ltb (length reply) least_reply) (λ e. rw e) (λ e. rw (e, rules_other))
