-- What take user datagram answers at the C boundary, in numbers: where the payload begins and how many octets it has.
-- Assumes nothing.
use Rattle.std.specs.Prelude.{ℕ, ◌-◌, List}
use Rattle.call_user.specs.declared.Handed.{Handed}
use Rattle.call_user.specs.User.{Took}

-- the answer, and the reply buffer as it is left
pub record Parcel : Type 0 where
  pub handed : Handed
  pub reply : List ℕ

abbrev pub parcel : Handed → List ℕ → Parcel
parcel h reply = record { handed = h; reply = reply }

-- of a datagram of `end` octets
unfoldable pub parcel_of : ℕ → Took → Parcel
parcel_of end x = parcel (record { number = x.number; place = x.place; size = x.size; start = x.start; octets = end - x.start }) x.reply
