-- What a host knows of an exported call is what crate promise_demands says of it (`Called`, `Started` in its specs/Hosts.antt): here from the contract of
-- each, as a caller has it.
-- Assumes nothing.
use Rattle.std.specs.Prelude.{ℕ, true, List, [], ◌≡◌, length}
use Rattle.std.proofs.Math.Path.{refl}
use Rattle.base_octets.specs.Every.{every}
use Rattle.base_octets.specs.BigEndian.{is_octet}
use Rattle.unit_tunnel.specs.Numbering.{places}
use Rattle.unit_plan.specs.declared.Plan.{Plan}
use Rattle.unit_session.specs.declared.Session.{Session}
use Rattle.unit_table.specs.declared.Node.{Node}
use Rattle.call_own.specs.declared.Answer.{Answer}
use Rattle.call_own.specs.Outcome.{outcome}
use Rattle.unit_store.specs.Row.{store_rows}
use Rattle.call_store.specs.Stored.{State, stored, fresh_stored, tick_stored, control_stored, close_stored, send_stored, line_stored, user_stored, down_stored}
use Rattle.call_user.specs.declared.Handed.{Handed}
use Rattle.call_user.specs.Parcel.{parcel, parcel_of}
use Rattle.call_down.specs.declared.Written.{Written}
use Rattle.call_down.specs.Down.{output}
use Rattle.promise_demands.specs.Run.{control, user, down, tick, send, close, line}
use Rattle.promise_demands.specs.Hosts.{Called, Started}

-- what a host holds
abbrev pub holding : Node → List Session → List (List ℕ) → State
holding node t w = record { node = node; table = t; store = w }

-- and then holds, that has stored the node that came back
abbrev pub storing : Answer → List Session → List (List ℕ) → State
storing r t w = holding r.node t w

-- from as many records as there are places, and as many rows as the store has
abbrev pub StartedFrom : List Session → List (List ℕ) → Plan → State → Type 0
StartedFrom l w p h = length l ≡ places → length w ≡ store_rows → Started p h

pub fresh_known : (r : Answer) (p : Plan) (t t' : List Session) (w w' : List (List ℕ)) → stored (outcome r t' []) w' ≡ fresh_stored p t w → StartedFrom t w p (storing r t' w')
unfolding Started
fresh_known r p t t' w w' e n m = (t, w, n, m, r, e, refl)

module _ (r : Answer) (node : Node) (t t' : List Session) (w w' : List (List ℕ)) where
  pub control_known : (d reply x : List ℕ) → every is_octet d ≡ true → stored (outcome r t' x) w' ≡ control_stored node t w d reply
      → Called (control d reply) (holding node t w) (storing r t' w') r.number
  unfolding Called
  control_known d reply x o e = (o, r, x, e, (refl, refl))

  pub tick_known : stored (outcome r t' []) w' ≡ tick_stored node t w → Called tick (holding node t w) (storing r t' w') r.number
  unfolding Called
  tick_known e = (r, e, (refl, refl))

module _ (r : Answer) (node : Node) (t t' : List Session) (w : List (List ℕ)) where
  pub send_known : (reply x : List ℕ) → outcome r t' x ≡ send_stored node t w reply → Called (send reply) (holding node t w) (storing r t' w) r.number
  unfolding Called
  send_known reply x e = (r, x, e, refl, (refl, refl))

  pub close_known : (place : ℕ) → outcome r t' [] ≡ close_stored node t w place → Called (close place) (holding node t w) (storing r t' w) r.number
  unfolding Called
  close_known place e = (r, e, refl, (refl, refl))

module _ (node : Node) (t : List Session) (w : List (List ℕ)) where
  pub line_known : (r : Answer) (place : ℕ) (reply x : List ℕ) → outcome r t x ≡ line_stored node t w place reply
      → Called (line place reply) (holding node t w) (storing r t w) r.number
  unfolding Called
  line_known r place reply x e = (r, x, e, refl, refl, (refl, refl))

  pub user_known : (r : Handed) (d reply x : List ℕ) → parcel r x ≡ parcel_of (length d) (user_stored node t w d reply)
      → Called (user d reply) (holding node t w) (holding node t w) r.number
  unfolding Called
  user_known r d reply x e = (r, x, e, refl, refl)

  pub down_known : (r : Written) (packet out x : List ℕ) → output r x ≡ down_stored node t w packet out
      → Called (down packet out) (holding node t w) (holding node t w) r.number
  unfolding Called
  down_known r packet out x e = (r, x, e, refl, refl)
