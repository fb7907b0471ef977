-- Document 01's "Pairs at the edge" that are to be proved: one table of rows, and what each row says of the calls, on every table that keeps its
-- rules. A new kind of pair is a constructor of Pair, a clause of `Holds`, its rows in `pairs` and what shows them.
-- Assumes nothing.
use Rattle.std.specs.Prelude.{ℕ, ◌≤◌, false, List, [], ◌∷◌, ◌≡◌, length, drop, get_or}
use Rattle.base_octets.specs.Overlay.{overlay}
use Rattle.unit_tunnel.specs.Numbering.{places}
use Rattle.unit_tunnel.specs.Tunnel.{control_number, user_number, next_use}
use Rattle.unit_plan.specs.Limits.{parties}
use Rattle.unit_sharing.specs.Sharing.{guarantee_at, ceiling_at}
use Rattle.unit_session.specs.Session.{is_free}
use Rattle.wire_messages.specs.Messages.{error_indication}
use Rattle.wire_requests.specs.declared.Create as C
use Rattle.call_own.specs.Outcome.{outcome, least_reply, no_places}
use Rattle.call_user.specs.User.{took, silent, user_replied}
use Rattle.call_store.specs.Stored.{State, stored, user_stored, control_stored}
use Rattle.promise_demands.specs.Run.{control, answered, Kept}
use Rattle.promise_demands.specs.Bounds.{at}
use Rattle.promise_demands.specs.Creates.{NewCreate, asked_u}

pub data Pair : Type 0 where
  -- a place, its use, its control number and its user number
  numbers : ℕ → ℕ → ℕ → ℕ → Pair
  -- a use and the next
  follows : ℕ → ℕ → Pair
  -- a user datagram where place 0 is live in use 1: handed up for that place from this octet on, and these octets
  handed : List ℕ → ℕ → List ℕ → Pair
  -- the same refused with this number, and silent
  refused : List ℕ → ℕ → Pair
  -- the same answered with 15 and an Error Indication for this tunnel number
  unknown : List ℕ → ℕ → Pair
  -- guarantees, ceilings and live sessions of two access points; who asks; the number that a sound new Create gets
  asks : List ℕ → List ℕ → List ℕ → ℕ → ℕ → Pair
  -- a control datagram, its number, and its reply
  answers : List ℕ → ℕ → List ℕ → Pair

-- a table that keeps its rules, with place 0 live in its first use and all others as they may be; and a reply buffer
pub record Lives (s : State) (reply : List ℕ) : Type 0 where
  pub kept : Kept s
  pub live : is_free (at s 0) ≡ false
  pub usage : (at s 0).usage ≡ 1
  pub room : least_reply ≤ length reply

-- two access points with these guarantees and ceilings, and so many live sessions, as the sharing rule is asked
pub record Shares (s : State) (c : C.Create) (g k u : List ℕ) : Type 0 where
  pub parties : parties s.node.plan ≡ 2
  pub guarantees : (b : ℕ) → guarantee_at s.node.plan b ≡ get_or g b 0
  pub ceilings : (b : ℕ) → ceiling_at s.node.plan b ≡ get_or k b 0
  pub live : (b : ℕ) → asked_u c s b ≡ get_or u b 0

unfoldable pub Holds : Pair → Type 0
Holds (numbers place usage c u) = (control_number usage place ≡ c) × (user_number usage place ≡ u)
Holds (follows usage next) = next_use usage ≡ next
Holds (handed d start x) = (s : State) (reply : List ℕ) → Lives s reply
    → (user_stored s.node s.table s.store d reply ≡ took 0 0 0 reply start) × (drop start d ≡ x)
Holds (refused d number) = (s : State) (reply : List ℕ) → Lives s reply → user_stored s.node s.table s.store d reply ≡ silent number (length d) reply
Holds (unknown d teid) = (s : State) (reply : List ℕ) → Lives s reply
    → user_stored s.node s.table s.store d reply ≡ user_replied 15 (error_indication teid s.node.plan.user) (length d) reply
Holds (asks g k u a number) = (s : State) (d reply : List ℕ) (c : C.Create) → Kept s → NewCreate s.node.plan s d c → least_reply ≤ length reply
    → Shares s c g k u → c.point ≡ a → answered (control d reply) s ≡ number
Holds (answers d number m) = (s : State) (reply : List ℕ) → Kept s → least_reply ≤ length reply
    → control_stored s.node s.table s.store d reply
    ≡ stored (outcome (record { number = number; size = length m; node = s.node; span = no_places }) s.table (overlay m reply)) s.store

unfoldable pub pairs : List Pair
pairs =
    numbers 5 1 261 389
    ∷ numbers 63 16777215 0xFFFFFF3F 0xFFFFFFBF
    ∷ follows 16777215 1
    ∷ handed (0x30 ∷ 0xFF ∷ 0 ∷ 0x04 ∷ 0 ∷ 0 ∷ 1 ∷ 0x80 ∷ 0x45 ∷ 0 ∷ 0 ∷ 0 ∷ []) 8 (0x45 ∷ 0 ∷ 0 ∷ 0 ∷ [])
    ∷ refused (0x30 ∷ 0xFF ∷ 0 ∷ 0x05 ∷ 0 ∷ 0 ∷ 1 ∷ 0x80 ∷ 0x45 ∷ 0 ∷ 0 ∷ 0 ∷ []) 6
    ∷ unknown (0x30 ∷ 0xFF ∷ 0 ∷ 0x04 ∷ 0 ∷ 0 ∷ 1 ∷ 0 ∷ 0x45 ∷ 0 ∷ 0 ∷ 0 ∷ []) 256
    ∷ handed (0x34 ∷ 0xFF ∷ 0 ∷ 0x0C ∷ 0 ∷ 0 ∷ 1 ∷ 0x80 ∷ 0 ∷ 0 ∷ 0 ∷ 0x40 ∷ 1 ∷ 0x12 ∷ 0x34 ∷ 0 ∷ 0x45 ∷ 0 ∷ 0 ∷ 0 ∷ []) 16 (0x45 ∷ 0 ∷ 0 ∷ 0 ∷ [])
    ∷ refused (0x34 ∷ 0xFF ∷ 0 ∷ 0x0C ∷ 0 ∷ 0 ∷ 1 ∷ 0x80 ∷ 0 ∷ 0 ∷ 0 ∷ 0xC0 ∷ 1 ∷ 0x12 ∷ 0x34 ∷ 0 ∷ 0x45 ∷ 0 ∷ 0 ∷ 0 ∷ []) 14
    ∷ refused (0x34 ∷ 0xFF ∷ 0 ∷ 0x0C ∷ 0 ∷ 0 ∷ 1 ∷ 0x80 ∷ 0 ∷ 0 ∷ 0 ∷ 0x40 ∷ 0 ∷ 0x12 ∷ 0x34 ∷ 0 ∷ 0x45 ∷ 0 ∷ 0 ∷ 0 ∷ []) 13
    ∷ asks (10 ∷ 20 ∷ []) (places ∷ places ∷ []) (44 ∷ 0 ∷ []) 0 73
    ∷ asks (10 ∷ 20 ∷ []) (places ∷ places ∷ []) (44 ∷ 0 ∷ []) 1 0
    ∷ asks (10 ∷ 20 ∷ []) (places ∷ places ∷ []) (43 ∷ 0 ∷ []) 0 0
    ∷ answers (0x20 ∷ 0 ∷ 0 ∷ 0 ∷ 0 ∷ 0 ∷ 0 ∷ 0 ∷ []) 5 (0x40 ∷ 3 ∷ 0 ∷ 4 ∷ 0 ∷ 0 ∷ 0 ∷ 0 ∷ [])
    ∷ []

unfoldable pub AllHold : List Pair → Type 0
AllHold [] = Unit {0}
AllHold (x ∷ l) = Holds x × AllHold l

unfoldable pub PairsHold : Type 0
PairsHold = AllHold pairs
