-- User packets, on any table that keeps its rules, so after any run: handed up only under a live user number, at the place that has it; never
-- where there is a refusal or a reply. What is handed up is what was carried: Carried.antt.
-- Assumes nothing.
use Rattle.std.specs.Prelude.{ℕ, ◌<◌, false, List, ◌≢◌, ◌≡◌, length, get_or}
use Rattle.unit_tunnel.specs.Numbering.{places}
use Rattle.unit_tunnel.specs.Tunnel.{user_number}
use Rattle.unit_session.specs.declared.Session.{Session}
use Rattle.unit_session.specs.Session.{is_free}
use Rattle.unit_table.specs.Change.{nobody}
use Rattle.wire_user.specs.Header.{type_of, user_teid_of}
use Rattle.wire_user.specs.User.{user_of}
use Rattle.call_user.specs.User.{Took}
use Rattle.call_store.specs.Stored.{State, user_stored}
use Rattle.promise_demands.specs.Run.{Kept}
use Rattle.promise_demands.specs.Bounds.{at}

-- what comes back for a user datagram
abbrev pub took_of : State → List ℕ → List ℕ → Took
took_of s d reply = user_stored s.node s.table s.store d reply

-- handed up: it is a G-PDU, its number is the user number of the place in its present use, and what lies past the header with its extension
-- headers is what is handed up
pub record HandedUp (s : State) (d : List ℕ) (w : Took) : Type 0 where
  pub place : w.place < places
  pub live : is_free (at s w.place) ≡ false
  pub packet : type_of d ≡ 255
  pub number : user_number (at s w.place).usage w.place ≡ user_teid_of d
  pub start : w.start ≡ (user_of d).size

-- and else nothing is: what would be handed up begins where the datagram ends
pub record Fairly (s : State) (d : List ℕ) (w : Took) : Type 0 where
  pub handed : w.number ≡ 0 → w.size ≡ 0 → HandedUp s d w
  pub refused : w.number ≢ 0 → w.start ≡ length d
  pub replied : w.size ≢ 0 → w.start ≡ length d

unfoldable pub LiveOnly : Type 0
LiveOnly = (s : State) → Kept s → (d reply : List ℕ) → Fairly s d (took_of s d reply)

-- ---- who has a number
pub record Owns (n place : ℕ) (l : List Session) : Type 0 where
  pub there : place < length l
  pub live : is_free (get_or l place nobody) ≡ false
  pub number : user_number (get_or l place nobody).usage place ≡ n
