-- Message types: each of the 256 has the T flag that it is taken with, or none.
-- Assumes nothing.
use Rattle.std.specs.Prelude.{ℕ, Bool, false, ◌||◌, List, [], ◌∷◌, eqb}
use Rattle.base_octets.specs.Choice.{pick}
use Rattle.wire_messages.specs.Types.{echo_type, echo_reply_type, version_type, create_type, modify_type, delete_type, bearer_reply_type}
use Rattle.wire_header.specs.declared.Kind.{Kind}
use Rattle.wire_header.specs.declared.Kind.TheVariants as K

abbrev pub among : ℕ → List ℕ → Bool
among n [] = false
among n (x ∷ l) = eqb n x || among n l

-- taken without a TEID (T = 0), and with one (T = 1)
unfoldable pub bare_types : List ℕ
bare_types = echo_type ∷ echo_reply_type ∷ version_type ∷ []

unfoldable pub tunnel_types : List ℕ
tunnel_types = create_type ∷ modify_type ∷ delete_type ∷ bearer_reply_type ∷ []

-- what stands for "none": no T flag has this value
unfoldable pub not_taken : ℕ
not_taken = 2

unfoldable pub flag_of : ℕ → ℕ
flag_of n = pick {A = ℕ} (among n bare_types) 0 (pick {A = ℕ} (among n tunnel_types) 1 not_taken)

-- the kind of a message by its type
unfoldable pub kind_by : ℕ → Kind
kind_by n =
    pick (eqb n modify_type) K.Modify
    (pick (eqb n delete_type) K.Delete
    (pick (eqb n create_type) K.Create
    (pick (eqb n bearer_reply_type) K.BearerReply
    (pick (eqb n echo_type) K.Echo
    (pick (eqb n echo_reply_type) K.EchoReply
    K.Other)))))
