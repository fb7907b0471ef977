-- What is said of a user datagram to the host, in numbers.
-- Assumes nothing.
use Rattle.std.specs.Prelude.{ℕ, List, ◌≡◌, eqb}
use Rattle.std.proofs.Common.{◌∙◌, eq-eqb, ne_eqb}
use Rattle.std.proofs.Math.Path.{ap}
use Rattle.base_octets.specs.Choice.{pick}
use Rattle.wire_user.specs.declared.Header.{Header}
use Rattle.wire_user.specs.declared.Header.TheVariants.{Echo, Packet}
use Rattle.wire_user.specs.Header.{user_echo_type, packet_type, user_header_of}
use Rattle.wire_user.specs.User.{user_of}

-- the message type, the tunnel number and the sequence number
pub record Said : Type 0 where
  pub type : ℕ
  pub teid : ℕ
  pub sequence : ℕ

abbrev pub said : ℕ → ℕ → ℕ → Said
said type teid sequence = record { type = type; teid = teid; sequence = sequence }

-- for each case, 0 where it has none
unfoldable pub said_of : Header → Said
said_of (Echo sequence) = said user_echo_type 0 sequence
said_of (Packet teid) = said packet_type teid.0 0

-- of a datagram that is refused nothing is said
unfoldable pub said_in : List ℕ → Said
said_in d = pick (eqb (user_of d).number 0) (said_of (user_header_of d)) (said 0 0 0)

-- ---- laws, in the words of the code
module _ (d : List ℕ) where
  pub said_nothing : ((user_of d).number ≡ 0 → ⊥) → said 0 0 0 ≡ said_in d
  unfolding said_in
  said_nothing n = rw (ne_eqb (user_of d).number 0 n)

  pub said_header : (w : Said) (h : Header) → h ≡ user_header_of d → w ≡ said_of h → (user_of d).number ≡ 0 → w ≡ said_in d
  unfolding said_in
  said_header w h e is n = rw (eq-eqb (user_of d).number 0 n) (is ∙ ap said_of e)
