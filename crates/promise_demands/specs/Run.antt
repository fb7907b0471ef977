-- Runs: what may be asked of the unit, one call after another, from any table that keeps its rules under an accepted plan, of which a fresh one
-- is one. The caller hands table and store from call to call untouched and chooses everything else: which call, which datagram, which place, how
-- long a reply buffer.
-- Assumes nothing.
use Rattle.std.specs.Prelude.{ℕ, Bool, true, List, [], ◌∷◌, ◌≡◌}
use Rattle.base_octets.specs.Every.{every}
use Rattle.base_octets.specs.BigEndian.{is_octet}
use Rattle.unit_plan.specs.declared.Plan.{Plan}
use Rattle.call_own.specs.Outcome.{Outcome}
use Rattle.call_store.specs.Stored.{State, Stored, stored, keeps, close_stored, send_stored, line_stored, user_stored, down_stored, tick_stored, control_stored}

-- what a call leaves with the caller
unfoldable pub left : Stored → State
left o = record { node = o.call.answer.node; table = o.call.table; store = o.store }

-- what one leaves that only reads the store
abbrev pub left_beside : State → Outcome → State
left_beside s o = left (stored o s.store)

-- a call: a control datagram or a user datagram with the reply buffer, a downlink packet with the output buffer, a tick, send next due with the
-- reply buffer, a place to close, a place whose line is printed with the reply buffer
pub data Event : Type 0 where
  control : List ℕ → List ℕ → Event
  user : List ℕ → List ℕ → Event
  down : List ℕ → List ℕ → Event
  tick : Event
  send : List ℕ → Event
  close : ℕ → Event
  line : ℕ → List ℕ → Event

-- what it leaves; a user datagram and a downlink packet leave all as it was
unfoldable pub step : Event → State → State
step (control d reply) s = left (control_stored s.node s.table s.store d reply)
step (user d reply) s = s
step (down packet out) s = s
step tick s = left (tick_stored s.node s.table s.store)
step (send reply) s = left_beside s (send_stored s.node s.table s.store reply)
step (close place) s = left_beside s (close_stored s.node s.table s.store place)
step (line place reply) s = left_beside s (line_stored s.node s.table s.store place reply)

-- the number that comes back
unfoldable pub answered : Event → State → ℕ
answered (control d reply) s = (control_stored s.node s.table s.store d reply).call.answer.number
answered (user d reply) s = (user_stored s.node s.table s.store d reply).number
answered (down packet out) s = (down_stored s.node s.table s.store packet out).written.number
answered tick s = (tick_stored s.node s.table s.store).call.answer.number
answered (send reply) s = (send_stored s.node s.table s.store reply).answer.number
answered (close place) s = (close_stored s.node s.table s.store place).answer.number
answered (line place reply) s = (line_stored s.node s.table s.store place reply).answer.number

unfoldable pub run : List Event → State → State
run [] s = s
run (e ∷ es) s = run es (step e s)

-- a control datagram is made of octets: any octets
unfoldable pub of_octets : Event → Bool
of_octets (control d reply) = every is_octet d
of_octets (user d reply) = true
of_octets (down packet out) = true
of_octets tick = true
of_octets (send reply) = true
of_octets (close place) = true
of_octets (line place reply) = true

-- the rules are kept, the store's among them; so is that the plan is accepted, and that there are as many records as places
abbrev pub Kept : State → Type 0
Kept s = keeps s.node s.table s.store ≡ true

-- what a run under the plan may start from
pub record Start (p : Plan) (s : State) : Type 0 where
  pub plan : s.node.plan ≡ p
  pub rules : Kept s

-- a run as a caller can have it: from there, every datagram of octets
pub record Run (p : Plan) (s : State) (es : List Event) : Type 0 where
  pub start : Start p s
  pub octets : every of_octets es ≡ true
