-- Each of these calls keeps the table rules: a table that kept them before keeps them after.
-- Assumes nothing.
use Rattle.std.specs.Prelude.{ℕ, ◌<◌, ◌≤◌, true, ◌≡◌, length, get_or, replicate, eqb, ltb}
use mathlib.Core.List.{List, []}
use Rattle.std.proofs.Common.{eqb-true, eq-eqb, ltb-true}
use Rattle.base_octets.specs.Choice.{split}
use Rattle.base_octets.specs.Search.{first_of, first_passes}
use Rattle.unit_tunnel.specs.Numbering.{places}
use Rattle.unit_plan.specs.declared.Plan.{Plan}
use Rattle.unit_plan.specs.Plan.{accepted}
use Rattle.unit_session.specs.declared.Session.{Session}
use Rattle.unit_session.specs.OwnRequest.{last_number, sent_once}
use Rattle.unit_session.specs.Session.{is_due, sent}
use Rattle.unit_table.specs.declared.Node.{Node}
use Rattle.unit_table.specs.Rules.{bounds_of, keeps_rules, Rules, rules_of, rules_to}
use Rattle.unit_table.specs.Change.{nobody, changed_at}
use Rattle.unit_table.specs.Number.{after_range, awaited, taken_number, taken_free, taken_range}
use Rattle.unit_table.specs.Own.{fresh_node, due_place, echo_ticked, all_ticked, rules_fresh, rules_tick, rules_next, rules_echo_sent, rules-sent}
use Rattle.call_own.specs.OnSession.{on_keeps, fits-closed}
use Rattle.call_own.specs.Outcome.{outcome, least_reply, no_reply}
use Rattle.call_own.specs.Calls.{fresh_of, timed, fresh_answer, fresh_held, tick_of, close_on, close_of, stepped, echo_sent, place_sent, due_sent, send_of}

-- from an accepted plan a table starts that keeps its rules
pub fresh_keeps : (p : Plan) → accepted p ≡ true → keeps_rules (fresh_held p).node (fresh_held p).table ≡ true
unfolding fresh_held fresh_answer fresh_node places
fresh_keeps p e = rw e (rules_to (fresh_node p) (replicate places nobody) (rules_fresh p e))

-- on as many records as there are places, whatever they hold, fresh leaves this state
pub fresh_leaves : (p : Plan) (t : List Session) → length t ≡ places → fresh_of p t ≡ outcome (fresh_answer p) (fresh_held p).table []
unfolding fresh_of
fresh_leaves p t n = rw (eq-eqb (length t) places n)

module _ (node : Node) (t : List Session) (e : keeps_rules node t ≡ true) where
  rules : Rules node.plan node.echo node.next t
  rules = rules_of node t e

  pub tick_keeps : keeps_rules (tick_of node t).answer.node (tick_of node t).table ≡ true
  unfolding tick_of timed no_reply
  tick_keeps =
      rw e (rules_to (timed (echo_ticked node.plan node.echo) node.next node) (all_ticked node.plan node.echo t)
      (rules_tick node.plan node.echo node.next t rules))

  pub close_keeps : (i : ℕ) → keeps_rules (close_of node t i).answer.node (close_of node t i).table ≡ true
  unfolding close_of
  close_keeps i = rw e (on_keeps node t i close_on [] e (fits-closed (bounds_of node.plan)))

  -- the number that a send takes is awaited by nobody
  abbrev number : ℕ
  number = taken_number node.next node.echo t

  step_range : (sends k : ℕ) → stepped sends k node.next ≤ last_number
  unfolding stepped
  step_range sends k = split (eqb sends 0) (λ q. rw q (after_range k)) (λ q. rw q rules.counted)

  pub send_keeps : (reply : List ℕ) → keeps_rules (send_of node t reply).answer.node (send_of node t reply).table ≡ true
  unfolding send_of due_sent echo_sent place_sent no_reply timed due_place
  send_keeps reply =
      split (ltb (length reply) least_reply) (λ q. rw q e)
      (λ q. split (eqb node.echo.timer 0)
      (λ z. rw (q, e, z) (echo (eqb-true node.echo.timer 0 z)))
      (λ z. split (ltb (first_of is_due t) (length t))
      (λ d. rw (q, e, z, d) (place (ltb-true (first_of is_due t) (length t) d)))
      (λ d. rw (q, e, z, d) e)))
    where
      free : awaited number node.echo t ≡ 0
      free = taken_free node.next node.echo t rules.size rules.counted

      range : number ≤ last_number
      range = taken_range node.next node.echo t rules.counted

      echo : node.echo.timer ≡ 0 → keeps_rules (timed (sent_once node.plan.resend number node.echo) (stepped node.echo.sends number node.next) node) t ≡ true
      echo due =
          rules_to (timed (sent_once node.plan.resend number node.echo) (stepped node.echo.sends number node.next) node) t
          (rules_next node.plan (sent_once node.plan.resend number node.echo) node.next t
          (rules_echo_sent node.plan node.echo node.next t rules number range free due)
          (stepped node.echo.sends number node.next) (step_range node.echo.sends number))

      place : first_of is_due t < length t
          → keeps_rules (timed node.echo (stepped (get_or t (first_of is_due t) nobody).own.sends number node.next) node)
          (changed_at (sent node.plan.resend number) (first_of is_due t) t) ≡ true
      place h =
          rules_to (timed node.echo (stepped (get_or t (first_of is_due t) nobody).own.sends number node.next) node)
          (changed_at (sent node.plan.resend number) (first_of is_due t) t)
          (rules_next node.plan node.echo node.next (changed_at (sent node.plan.resend number) (first_of is_due t) t)
          (rules-sent node.plan node.echo node.next t rules number (first_of is_due t) range free (first_passes is_due t nobody h))
          (stepped (get_or t (first_of is_due t) nobody).own.sends number node.next) (step_range (get_or t (first_of is_due t) nobody).own.sends number))
