-- Each call answers which places it may have changed, from one place on and below another: no record outside changes, and none is named that there
-- is not. So a host looks at these places alone. Of a send they say whom the datagram is for: with places it is the Delete Bearer of the first of
-- them, to that session's peer; without, it is the echo.
-- Assumes nothing.
use Rattle.std.specs.Prelude.{ℕ, ◌<◌, ◌≤◌, false, List, ◌≡◌}
use Rattle.std.proofs.Math.Bool.{true}
use Rattle.std.proofs.Math.ListN.{get_or}
use Rattle.base_octets.specs.Number.{taken}
use Rattle.base_octets.specs.Overlay.{overlay}
use Rattle.unit_tunnel.specs.Numbering.{places}
use Rattle.unit_plan.specs.declared.Plan.{Plan}
use Rattle.unit_session.specs.declared.Session.{Session}
use Rattle.unit_session.specs.Session.{is_free}
use Rattle.unit_table.specs.declared.Node.{Node}
use Rattle.unit_table.specs.Change.{nobody}
use Rattle.wire_messages.specs.Types.{echo_type}
use Rattle.wire_messages.specs.Messages.{echo_of, delete_bearer}
use Rattle.call_own.specs.declared.Span.{Span}
use Rattle.call_own.specs.Outcome.{Outcome, no_places}
use Rattle.call_own.specs.Outside.{OthersStay}
use Rattle.call_store.specs.Stored.{keeps, close_stored, send_stored, line_stored, fresh_stored, tick_stored, is_kept, control_stored}

-- the places that are answered are places of the table, so that a host may read their records
pub record Lies (span : Span) : Type 0 where
  pub ordered : span.from ≤ span.to
  pub last : span.to ≤ places

pub record Changes (o : Outcome) (t : List Session) : Type 0 where
  pub others : OthersStay o t
  pub lies : Lies o.answer.span

-- what a send that answers 0 has sent: the number in the datagram is that of the request as it is left
pub record SentFor (node : Node) (t : List Session) (reply : List ℕ) (o : Outcome) : Type 0 where
  pub echo : o.answer.span.from ≡ o.answer.span.to
      → o.reply ≡ overlay (echo_of echo_type o.answer.node.echo.number node.plan.recovery) reply
  pub live : o.answer.span.from < o.answer.span.to → is_free (get_or t o.answer.span.from nobody) ≡ false
  pub bearer : o.answer.span.from < o.answer.span.to
      → o.reply ≡ overlay (delete_bearer (get_or t o.answer.span.from nobody).control (get_or o.table o.answer.span.from nobody).own.number
      (get_or t o.answer.span.from nobody).ebi) reply

pub record OutsideStays : Type 0 where
  pub fresh : (p : Plan) (t : List Session) (w : List (List ℕ)) → Changes (fresh_stored p t w).call t
  pub control : (node : Node) (t : List Session) (w : List (List ℕ)) (d reply : List ℕ) → Changes (control_stored node t w d reply).call t
  -- a reply of the store changes no record, and says so
  pub again : (node : Node) (t : List Session) (w : List (List ℕ)) (d reply : List ℕ) → keeps node t w ≡ true → is_kept d w ≡ true
      → (control_stored node t w d reply).call.answer.span ≡ no_places
  pub tick : (node : Node) (t : List Session) (w : List (List ℕ)) → Changes (tick_stored node t w).call t
  pub close : (node : Node) (t : List Session) (w : List (List ℕ)) (place : ℕ) → Changes (close_stored node t w place) t
  pub send : (node : Node) (t : List Session) (w : List (List ℕ)) (reply : List ℕ) → Changes (send_stored node t w reply) t
  pub line : (node : Node) (t : List Session) (w : List (List ℕ)) (place : ℕ) (reply : List ℕ) → (line_stored node t w place reply).answer.span ≡ no_places
  pub sent : (node : Node) (t : List Session) (w : List (List ℕ)) (reply : List ℕ) → (send_stored node t w reply).answer.number ≡ taken
      → SentFor node t reply (send_stored node t w reply)
