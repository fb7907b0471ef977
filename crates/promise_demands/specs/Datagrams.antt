-- Requests as whole datagrams: fields behind a header of their type are taken by the header's tests, the header is read as it was written, and the
-- fields behind it are those that were sent; so every well-formed Create is a sound one, of which the sharing rule is asked.
-- Assumes nothing.
use Rattle.std.specs.Prelude.{ℕ, ◌+◌, ◌<◌, true, List, [], ◌∷◌, ◌++◌, ◌≡◌, drop, replicate}
use Rattle.std.proofs.Math.ListN.{length}
use Rattle.base_octets.specs.Number.{taken}
use Rattle.wire_messages.specs.Types.{create_type, modify_type, delete_type}
use Rattle.wire_messages.specs.Messages.{header_to}
use Rattle.wire_header.specs.Header.{header_of}
use Rattle.wire_header.specs.Gate.{gate_of}
use Rattle.unit_plan.specs.declared.Plan.{Plan}
use Rattle.unit_plan.specs.Plan.{accepted}
use Rattle.wire_requests.specs.declared.Create as C
use Rattle.promise_demands.specs.Creates.{SoundCreate}
use Rattle.promise_demands.specs.Encoder.{Besides, create_fields, create_bearer}
use Rattle.promise_demands.specs.Examples.{one_party, create_of_imsi, first, first_imsi}
use Rattle.promise_demands.specs.Sent.{Sent, sent_octets}
use Rattle.promise_demands.specs.Wellformed.{GoodCreate}
use Rattle.promise_demands.specs.Written.{Seq, Word}

-- ---- fields behind a header: type, TEID and sequence number, and the length that the header states
unfoldable pub datagram : ℕ → ℕ → ℕ → List Sent → List ℕ
datagram type teid seq l = header_to type (length (sent_octets l) + 8) teid seq ++ sent_octets l

-- a header's length has 2 octets
unfoldable pub OneDatagram : List Sent → Type 0
OneDatagram l = length (sent_octets l) + 8 < 65536

-- what is taken of it
pub record TakenAs (d : List ℕ) (type teid seq : ℕ) (l : List Sent) : Type 0 where
  pub gate : gate_of d ≡ taken
  pub header : header_of d ≡ record { kind = type; teid = teid; sequence = seq; fields = 12 }
  pub fields : drop 12 d ≡ sent_octets l

-- what the Create of the examples says besides what is kept of it
unfoldable pub example_besides : Besides
example_besides = record { rat = 6; address = 0; qos = 0x61 ∷ 9 ∷ replicate 20 0; behind = λ kind. []; within = λ kind. [] }

unfoldable pub example_fields : List Sent
example_fields = create_fields one_party (create_of_imsi first_imsi) example_besides (create_bearer (create_of_imsi first_imsi) example_besides)

-- ---- the promise; the first Create of the examples is what the encoder writes
pub record DatagramsTaken : Type 0 where
  pub create : (seq : ℕ) (l : List Sent) → OneDatagram l → Seq seq → TakenAs (datagram create_type 0 seq l) create_type 0 seq l
  pub modify : (teid seq : ℕ) (l : List Sent) → OneDatagram l → Word teid → Seq seq → TakenAs (datagram modify_type teid seq l) modify_type teid seq l
  pub delete : (teid seq : ℕ) (l : List Sent) → OneDatagram l → Word teid → Seq seq → TakenAs (datagram delete_type teid seq l) delete_type teid seq l
  pub sound : (plan : Plan) (seq : ℕ) (l : List Sent) (c : C.Create) → accepted plan ≡ true → OneDatagram l → Seq seq → GoodCreate plan l c
      → SoundCreate plan (datagram create_type 0 seq l) c
  pub example : datagram create_type 0 3 example_fields ≡ first
