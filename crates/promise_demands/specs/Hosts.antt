-- A host's run is a run. A host holds the node, the records and the store; it lends them to one exported call after another and stores the node that
-- comes back. Of a call nothing is known but its contract and its types: that is `Called`, and crate promise_hosts shows that each exported
-- function meets it. So what the demands say of runs (Run.antt) they say of hosts, and a host owes nothing for it.
-- Assumes nothing.
use Rattle.std.specs.Prelude.{ℕ, true, List, [], ◌∷◌, ◌≡◌, length}
use Rattle.base_octets.specs.Every.{every}
use Rattle.base_octets.specs.BigEndian.{is_octet}
use Rattle.unit_tunnel.specs.Numbering.{places}
use Rattle.unit_plan.specs.declared.Plan.{Plan}
use Rattle.unit_plan.specs.Plan.{accepted}
use Rattle.unit_session.specs.declared.Session.{Session}
use Rattle.unit_store.specs.Row.{store_rows}
use Rattle.call_own.specs.declared.Answer.{Answer}
use Rattle.call_own.specs.Outcome.{outcome}
use Rattle.call_user.specs.declared.Handed.{Handed}
use Rattle.call_user.specs.Parcel.{parcel, parcel_of}
use Rattle.call_down.specs.declared.Written.{Written}
use Rattle.call_down.specs.Down.{output}
use Rattle.call_store.specs.Stored.{State, fresh_state, stored, close_stored, send_stored, line_stored, user_stored, down_stored, fresh_stored, tick_stored, control_stored}
use Rattle.promise_demands.specs.Run.{Event, control, user, down, tick, send, close, line, answered, run}
use Rattle.promise_demands.specs.Run.{Start, Run}

-- the host takes the number from the answer, and stores its node
abbrev pub Stores : Answer → State → ℕ → Type 0
Stores r k n = (k.node ≡ r.node) × (n ≡ r.number)

-- one call, from what the host holds to what it holds then, with the number that came back: word for word the contract of the exported
-- function, whatever answer r and reply buffer x meet it. A datagram is made of octets, by its type (`octets_by_type` in src/lib.rt); records
-- and rows that are lent to be read are as before
unfoldable pub Called : Event → State → State → ℕ → Type 0
Called (control d reply) h k n =
    (every is_octet d ≡ true) × (r : Answer) × (x : List ℕ)
    × (stored (outcome r k.table x) k.store ≡ control_stored h.node h.table h.store d reply) × Stores r k n
Called (user d reply) h k n =
    (r : Handed) × (x : List ℕ) × (parcel r x ≡ parcel_of (length d) (user_stored h.node h.table h.store d reply)) × (k ≡ h) × (n ≡ r.number)
Called (down packet out) h k n =
    (r : Written) × (x : List ℕ) × (output r x ≡ down_stored h.node h.table h.store packet out) × (k ≡ h) × (n ≡ r.number)
Called tick h k n = (r : Answer) × (stored (outcome r k.table []) k.store ≡ tick_stored h.node h.table h.store) × Stores r k n
Called (send reply) h k n =
    (r : Answer) × (x : List ℕ) × (outcome r k.table x ≡ send_stored h.node h.table h.store reply) × (k.store ≡ h.store) × Stores r k n
Called (close place) h k n =
    (r : Answer) × (outcome r k.table [] ≡ close_stored h.node h.table h.store place) × (k.store ≡ h.store) × Stores r k n
Called (line place reply) h k n =
    (r : Answer) × (x : List ℕ) × (outcome r h.table x ≡ line_stored h.node h.table h.store place reply)
    × (k.table ≡ h.table) × (k.store ≡ h.store) × Stores r k n

-- one after another, each from what the one before left
unfoldable pub Hosted : List Event → State → State → Type 0
Hosted [] h k = k ≡ h
Hosted (e ∷ es) h k = (m : State) × (n : ℕ) × Called e h m n × Hosted es m k

-- fresh, by its contract, on as many records as there are places and as many rows as the store has, whatever they held
unfoldable pub Started : Plan → State → Type 0
Started p h =
    (l : List Session) × (w : List (List ℕ)) × (length l ≡ places) × (length w ≡ store_rows) × (r : Answer)
    × (stored (outcome r h.table []) h.store ≡ fresh_stored p l w) × (h.node ≡ r.node)

pub record HostsRun : Type 0 where
  -- from whatever a host holds: what it holds then, and which number it gets
  pub holds : (es : List Event) (h k : State) → Hosted es h k → k ≡ run es h
  pub number : (e : Event) (h k : State) (n : ℕ) → Called e h k n → n ≡ answered e h
  -- from where a run may start: a run it is, and from what the host holds then another may start
  pub runs : (p : Plan) (es : List Event) (h k : State) → Start p h → Hosted es h k → Run p h es × Start p k
  -- fresh under an accepted plan is one such start
  pub starts : (p : Plan) (h : State) → accepted p ≡ true → Started p h → (h ≡ fresh_state p) × Start p h
