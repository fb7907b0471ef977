-- What is done with an Echo Request (1) and the reply to the unit's own echo (2), once their headers and what they carry are read; and what
-- a Recovery value does.
-- Assumes nothing.
use Rattle.std.specs.Prelude.{ℕ, Bool, false, List, map, ◌≡◌, Option, Some, None}
use Rattle.std.proofs.Math.Bool.{true}
use Rattle.std.proofs.Math.Path.{refl}
use Rattle.unit_session.specs.declared.Session.{Session}
use Rattle.base_octets.specs.Number.{taken}
use Rattle.base_octets.specs.Choice.{pick}
use Rattle.unit_session.specs.Session.{freed}
use Rattle.unit_table.specs.declared.Node.{Node}
use Rattle.unit_table.specs.Rules.{keeps_rules, Rules, rules_of, rules_to}
use Rattle.unit_table.specs.declared.Judged.{Judged}
use Rattle.unit_table.specs.declared.Judged.TheVariants as J
use Rattle.unit_table.specs.Change.{rules_all_freed}
use Rattle.unit_table.specs.Own.{rested, rules-rested}
use Rattle.unit_table.specs.Recovery.{judged_by, hearing, is_restarted, same_again}
use Rattle.wire_messages.specs.Types.{echo_reply_type}
use Rattle.wire_messages.specs.Messages.{echo_of}
use Rattle.call_own.specs.declared.Span.{Span}
use Rattle.call_own.specs.Outcome.{Held, Outcome, no_places, all_places, changing, no_reply, replied}
use Rattle.call_own.specs.Calls.{timed}

-- what a Recovery value does by what it says. The first one and the same are stored; after a restart all sessions are freed and it is
-- stored; a late one is thrown away
unfoldable pub done_for : Judged → ℕ → Node → List Session → Held
done_for J.Same value node t = record { node = hearing value node; table = t }
done_for J.Restarted value node t = record { node = hearing value node; table = map freed t }
done_for J.Late value node t = record { node = node; table = t }

-- where none came nothing is done
unfoldable pub heard_by : Option ℕ → Node → List Session → Held
heard_by None node t = record { node = node; table = t }
heard_by (Some value) node t = done_for (judged_by node value) value node t

-- whether it says that the exchange restarted
unfoldable pub restarts_by : Option ℕ → Node → Bool
restarts_by None node = false
restarts_by (Some value) node = is_restarted (judged_by node value)

-- the places that this may change
unfoldable pub heard_places : Option ℕ → Node → Span
heard_places r node = pick (restarts_by r node) all_places no_places

-- Echo Request (1): Recovery, and the answer
unfoldable pub echo_taken : Node → List Session → ℕ → Option ℕ → List ℕ → Outcome
echo_taken node t seq recovery reply =
    changing (heard_places recovery node)
    (replied taken (heard_by recovery node t).node (heard_by recovery node t).table (echo_of echo_reply_type seq node.plan.recovery) reply)

-- the echo's answer (2), awaited and readable, ends the echo; Recovery is looked at
unfoldable pub echo_ended : Held → Held
echo_ended s = record {
  node = timed (rested s.node.plan.interval s.node.echo) s.node.next s.node;
  table = s.table;
}

unfoldable pub echo_reply_taken : Node → List Session → Option ℕ → List ℕ → Outcome
echo_reply_taken node t recovery reply =
    changing (heard_places recovery node)
    (no_reply taken (echo_ended (heard_by recovery node t)).node (echo_ended (heard_by recovery node t)).table reply)

-- ---- laws of Recovery
-- in the words of the code: the node by itself
unfoldable pub stored_for : Judged → ℕ → Node → Node
stored_for J.Same value node = hearing value node
stored_for J.Restarted value node = hearing value node
stored_for J.Late value node = node

unfoldable pub heard_node : Option ℕ → Node → Node
heard_node None node = node
heard_node (Some value) node = stored_for (judged_by node value) value node

-- and all are freed, or the table stays
pub heard_either : (r : Option ℕ) (node : Node) (t : List Session)
    → heard_by r node t ≡ record { node = heard_node r node; table = pick (restarts_by r node) (map freed t) t }
unfolding heard_by heard_node restarts_by done_for stored_for is_restarted
heard_either None node t = refl
heard_either (Some value) node t = by (judged_by node value)
  where
    by : (j : Judged) → done_for j value node t ≡ record { node = stored_for j value node; table = pick (is_restarted j) (map freed t) t }
    by J.Same = refl
    by J.Restarted = refl
    by J.Late = refl

pub heard-freed : (r : Option ℕ) (node : Node) (t : List Session) → restarts_by r node ≡ true
    → heard_by r node t ≡ record { node = heard_node r node; table = map freed t }
heard-freed r node t e = rw (heard_either r node t, e)

pub heard_same : (r : Option ℕ) (node : Node) (t : List Session) → restarts_by r node ≡ false
    → heard_by r node t ≡ record { node = heard_node r node; table = t }
heard_same r node t e = rw (heard_either r node t, e)

-- a late value leaves node and records as they were, as if none had come
pub heard_late : (value : ℕ) (node : Node) (t : List Session) → judged_by node value ≡ J.Late → heard_by (Some value) node t ≡ heard_by None node t
unfolding heard_by done_for
heard_late value node t e = rw e

-- Recovery is stored, and the rest of the node stays
module _ {B : Type 0} (f : Node → B) (rest : (value : ℕ) (node : Node) → f (hearing value node) ≡ f node) where
  pub stored_rest : (r : Option ℕ) (node : Node) → f (heard_node r node) ≡ f node
  unfolding heard_node stored_for
  stored_rest None node = refl
  stored_rest (Some value) node = by (judged_by node value)
    where
      by : (j : Judged) → f (stored_for j value node) ≡ f node
      by J.Same = rest value node
      by J.Restarted = rest value node
      by J.Late = refl

  pub heard_rest : (r : Option ℕ) (node : Node) (t : List Session) → f (heard_by r node t).node ≡ f node
  heard_rest r node t = rw (heard_either r node t) (stored_rest r node)

pub stored_plan : (r : Option ℕ) (node : Node) → (heard_node r node).plan ≡ node.plan
unfolding hearing
stored_plan = stored_rest (λ (n : Node). n.plan) (λ value node. refl)

pub heard_plan : (r : Option ℕ) (node : Node) (t : List Session) → (heard_by r node t).node.plan ≡ node.plan
unfolding hearing
heard_plan = heard_rest (λ (n : Node). n.plan) (λ value node. refl)

-- heard twice it is as heard once
pub heard_twice : (r : Option ℕ) (node : Node) → heard_node r (heard_node r node) ≡ heard_node r node
unfolding heard_node stored_for hearing
heard_twice None node = refl
heard_twice (Some value) node = by (judged_by node value) refl
  where
    by : (j : Judged) → judged_by node value ≡ j
        → stored_for (judged_by (stored_for j value node) value) value (stored_for j value node) ≡ stored_for j value node
    by J.Same e = rw (same_again value node)
    by J.Restarted e = rw (same_again value node)
    by J.Late e = rw e

-- and frees nothing more
pub heard_once : (r : Option ℕ) (node : Node) → restarts_by r (heard_node r node) ≡ false
unfolding heard_node restarts_by stored_for is_restarted
heard_once None node = refl
heard_once (Some value) node = by (judged_by node value) refl
  where
    by : (j : Judged) → judged_by node value ≡ j → is_restarted (judged_by (stored_for j value node) value) ≡ false
    by J.Same e = rw (same_again value node)
    by J.Restarted e = rw (same_again value node)
    by J.Late e = rw e

-- ---- each keeps the rules
module _ (node : Node) (t : List Session) (e : keeps_rules node t ≡ true) where
  rules : Rules node.plan node.echo node.next t
  rules = rules_of node t e

  pub heard-keeps : (r : Option ℕ) → keeps_rules (heard_by r node t).node (heard_by r node t).table ≡ true
  unfolding heard_by done_for hearing
  heard-keeps None = e
  heard-keeps (Some value) = by (judged_by node value)
    where
      by : (j : Judged) → keeps_rules (done_for j value node t).node (done_for j value node t).table ≡ true
      by J.Same = rules_to (hearing value node) t rules
      by J.Restarted = rules_to (hearing value node) (map freed t) (rules_all_freed node.plan node.echo node.next t rules)
      by J.Late = e

  pub echo-keeps : (seq : ℕ) (r : Option ℕ) (reply : List ℕ)
      → keeps_rules (echo_taken node t seq r reply).answer.node (echo_taken node t seq r reply).table ≡ true
  unfolding echo_taken
  echo-keeps seq r reply = heard-keeps r

-- an echo that ends leaves a table that keeps its rules
pub ended_keeps : (a : Held) → keeps_rules a.node a.table ≡ true → keeps_rules (echo_ended a).node (echo_ended a).table ≡ true
unfolding echo_ended timed
ended_keeps a e =
    rules_to (timed (rested a.node.plan.interval a.node.echo) a.node.next a.node) a.table
    (rules-rested a.node.plan a.node.echo a.node.next a.table (rules_of a.node a.table e))

pub echo_reply_keeps : (node : Node) (t : List Session) (r : Option ℕ) (reply : List ℕ) → keeps_rules node t ≡ true
    → keeps_rules (echo_reply_taken node t r reply).answer.node (echo_reply_taken node t r reply).table ≡ true
unfolding echo_reply_taken no_reply
echo_reply_keeps node t r reply e = ended_keeps (heard_by r node t) (heard-keeps node t e r)
