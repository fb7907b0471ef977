-- Take control datagram keeps the table rules, for any octets whatever.
-- Assumes nothing.
use Rattle.std.specs.Prelude.{ℕ, true, List, ◌≡◌, length, ltb}
use Rattle.base_octets.specs.Choice.{split}
use Rattle.base_octets.specs.Every.{every}
use Rattle.base_octets.specs.BigEndian.{is_octet}
use Rattle.unit_tunnel.specs.Numbering.{control_offset}
use Rattle.unit_session.specs.declared.Session.{Session}
use Rattle.unit_table.specs.declared.Node.{Node}
use Rattle.unit_table.specs.Rules.{bounds_of, keeps_rules}
use Rattle.unit_table.specs.Find.{place_found, owner_of}
use Rattle.call_asked.specs.declared.Asked.{Asked}
use Rattle.call_asked.specs.declared.Asked.TheVariants as A
use Rattle.call_asked.specs.Asked.{asked_of}
use Rattle.call_asked.specs.Sound.{AskedSound, asked_sound, AskedSmall, asked_small}
use Rattle.call_own.specs.Outcome.{on_owner, least_reply, no_reply}
use Rattle.call_own.specs.OnSession.{on_keeps}
use Rattle.call_control.specs.Amends.{cause_taken, session_on}
use Rattle.call_control.specs.Echoes.{echo-keeps, echo_reply_keeps}
use Rattle.call_control.specs.AmendsKept.{session_fits}
use Rattle.call_control.specs.CreatesKept.{create-keeps}
use Rattle.call_control.specs.Control.{asked_taken, control_taken}

module _ (node : Node) (t : List Session) (e : keeps_rules node t ≡ true) (reply : List ℕ) where
  asked_keeps : (a : Asked) → AskedSound node.plan a → AskedSmall a
      → keeps_rules (asked_taken node t a reply).answer.node (asked_taken node t a reply).table ≡ true
  unfolding asked_taken AskedSound AskedSmall on_owner no_reply cause_taken
  asked_keeps (A.Silent number) s z = e
  asked_keeps A.Version s z = e
  asked_keeps (A.Echo recovery seq) s z = echo-keeps node t e seq recovery reply
  asked_keeps (A.EchoReply recovery) s z = echo_reply_keeps node t recovery reply e
  asked_keeps (A.Create c seq) s z = create-keeps node t c seq reply e s z
  asked_keeps (A.Refused w to seq) s z = e
  asked_keeps (A.Session teid seq x) s z =
      on_keeps node t (place_found (owner_of control_offset teid.0 t) t) (session_on x seq) reply e (λ r ok. session_fits (bounds_of node.plan) r ok x seq s)

  pub control_keeps : (d : List ℕ) → every is_octet d ≡ true
      → keeps_rules (control_taken node t d reply).answer.node (control_taken node t d reply).table ≡ true
  unfolding control_taken no_reply
  control_keeps d o =
      split (ltb (length reply) least_reply) (λ a. rw a e) (λ a. rw (a, e) (asked_keeps (asked_of node d) (asked_sound node d) (asked_small node d o)))
