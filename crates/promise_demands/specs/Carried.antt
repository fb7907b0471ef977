-- What a user packet to a live user number carries is what is handed up, octet by octet: with any first octet of version 1 and PT 1, with or
-- without the optional part, behind any chain of extension headers that need not be understood.
-- Assumes nothing.
use Rattle.std.specs.Prelude.{ℕ, ◌+◌, ◌/◌, ◌%◌, ◌<◌, ◌≤◌, Bool, not, ◌&&◌, List, [], ◌∷◌, ◌++◌, ◌≡◌, length, drop}
use Rattle.std.proofs.Math.Bool.{true, false}
use Rattle.std.proofs.Math.Dec.{eqb, leb, ltb}
use Rattle.base_octets.specs.Every.{every}
use Rattle.base_octets.specs.BigEndian.{octets_of}
use Rattle.unit_tunnel.specs.Numbering.{places}
use Rattle.unit_tunnel.specs.Tunnel.{user_number}
use Rattle.unit_session.specs.Session.{is_free}
use Rattle.call_own.specs.Outcome.{least_reply}
use Rattle.wire_user.specs.Header.{ours, extended, optional}
use Rattle.wire_user.specs.Extensions.{first_must}
use Rattle.call_user.specs.User.{Took, took}
use Rattle.call_store.specs.Stored.{State, user_stored}
use Rattle.promise_demands.specs.Run.{Kept}
use Rattle.promise_demands.specs.Bounds.{at}

-- ---- extension headers
-- one: its type, and what is between its length and the next type
pub record Extension : Type 0 where
  pub type : ℕ
  pub content : List ℕ

-- it need not be understood; with its length and the next type it fills 1 to 255 units of 4 octets
unfoldable pub passable : Extension → Bool
passable e = leb 1 e.type && ltb e.type first_must && eqb ((length e.content + 2) % 4) 0 && leb (length e.content + 2) 1020

-- the type that stands before a chain: 0 where no more follow
unfoldable pub lead_type : List Extension → ℕ
lead_type [] = 0
lead_type (e ∷ l) = e.type

unfoldable pub chain : List Extension → List ℕ
chain [] = []
chain (e ∷ l) = (length e.content + 2) / 4 ∷ e.content ++ (lead_type l ∷ chain l)

-- ---- what is between the first 8 octets and the payload: nothing; the optional 4; these with a chain of extension headers
pub data Between : Type 0 where
  none : Between
  optionals : ℕ → ℕ → ℕ → ℕ → Between
  extensions : ℕ → ℕ → ℕ → List Extension → Between

-- as the first octet has it: none with E, S and PN unset; a chain with E set
unfoldable pub suits : ℕ → Between → Bool
suits first none = not (optional first)
suits first (optionals a b c e) = optional first && not (extended first)
suits first (extensions a b c l) = extended first && every passable l

unfoldable pub behind : Between → List ℕ → List ℕ
behind none x = x
behind (optionals a b c e) x = a ∷ b ∷ c ∷ e ∷ x
behind (extensions a b c l) x = a ∷ b ∷ c ∷ lead_type l ∷ chain l ++ x

-- ---- a G-PDU: its first octet, its tunnel number, and all behind its 8 octets
unfoldable pub packet : ℕ → ℕ → List ℕ → List ℕ
packet first teid b = first ∷ 0xFF ∷ octets_of 2 (length b) ++ (octets_of 4 teid ++ b)

-- taken for place i, with no reply, and what is handed up is x
pub record Carried (i : ℕ) (x reply d : List ℕ) (w : Took) : Type 0 where
  pub taken : w ≡ took 0 i 0 reply w.start
  pub payload : drop w.start d ≡ x

-- from any table that keeps its rules
unfoldable pub AllCarried : Type 0
AllCarried = (s : State) → Kept s → (i : ℕ) → i < places → is_free (at s i) ≡ false
    → (first : ℕ) (b : Between) (x reply : List ℕ) → ours first ≡ true → suits first b ≡ true → length (behind b x) < 65536 → least_reply ≤ length reply
    → Carried i x reply (packet first (user_number (at s i).usage i) (behind b x))
    (user_stored s.node s.table s.store (packet first (user_number (at s i).usage i) (behind b x)) reply)

-- how many octets lie before the payload
unfoldable pub front : Between → ℕ
front none = 8
front (optionals a b c e) = 12
front (extensions a b c l) = 12 + length (chain l)
