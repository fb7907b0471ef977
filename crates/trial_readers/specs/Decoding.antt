-- What the decoder tells a host in numbers: of a header, of a decoded request, of what types 1, 2 and 100 carry, and the rows of a line.
-- Where a part does not apply it is 0.
-- Assumes nothing.
use Rattle.std.specs.Prelude.{ℕ, zero, suc, ◌%◌, List, [], ◌∷◌, ◌++◌, ◌≡◌, replicate, Option, Some, None, is_some, Result, Ok, Err, is_err}
use Rattle.std.specs.Result.{result_unwrap_or}
use mir.Val.{bool_byte as from_bool}
use Rattle.base_octets.specs.Choice.{pick, split}
use Rattle.base_octets.specs.Overlay.{overlay}
use Rattle.wire_messages.specs.Types.{create_type, modify_type, delete_type}
use Rattle.wire_header.specs.Gate.{gate_of}
use Rattle.wire_header.specs.Header.{header_of, header_size, with_teid}
use Rattle.wire_fields.specs.declared.Refusal.{Refusal}
use Rattle.wire_fields.specs.declared.Fault.{Fault}
use Rattle.wire_fields.specs.Refusal.{bare_refusal, not_live_cause}
use Rattle.unit_plan.specs.declared.Plan.{Plan}
use Rattle.unit_plan.specs.declared.AccessPoint.{AccessPoint}
use Rattle.unit_plan.specs.Limits.{longest_name, no_point}
use Rattle.wire_requests.specs.declared.Create as C
use Rattle.wire_requests.specs.declared.Modify as M
use Rattle.wire_requests.specs.declared.Delete as D
use Rattle.wire_requests.specs.declared.Request.{Request}
use Rattle.wire_requests.specs.declared.Request.TheVariants.{Create, Modify, Delete}
use Rattle.wire_requests.specs.Create.{create_of, reply_to}
use Rattle.wire_requests.specs.Change.{modify_of, delete_of, moves_of, means_of}
use Rattle.wire_requests.specs.Carried.{echo_read, echo_reply_read, bearer_reply_read}
use Rattle.trial_readers.specs.declared.Head.{Head}
use Rattle.trial_readers.specs.declared.Decoding.{Decoding}
use Rattle.trial_readers.specs.declared.Carried.{Carried}
use Rattle.trial_readers.specs.declared.End.{End}
use Rattle.unit_tunnel.specs.Numbering.{places}
use Rattle.wire_requests.specs.declared.Context.{Context}
use Rattle.wire_fields.specs.declared.Tunnel.{Tunnel}
use Rattle.wire_requests.specs.declared.Moves.{Moves}
use Rattle.wire_requests.specs.declared.Unreadable.{Unreadable}
use Rattle.wire_requests.specs.Chain.{Decoded}

-- ---- the trial plan: data, net, and one of the longest name, each with one place promised and no ceiling but the unit's
unfoldable pub point_called : List ℕ → ℕ → AccessPoint
point_called name size = record { name = overlay name (replicate longest_name 0); size = size; guarantee = 1; ceiling = places }

abbrev pub data_name : List ℕ
data_name = 4 ∷ 100 ∷ 97 ∷ 116 ∷ 97 ∷ []

abbrev pub net_name : List ℕ
net_name = 3 ∷ 110 ∷ 101 ∷ 116 ∷ []

-- so many numbers from one on
unfoldable pub up_from : ℕ → ℕ → List ℕ
up_from zero a = []
up_from (suc n) a = a ∷ up_from n (suc a)

-- the letters a to z twice, then a to j, behind their number
unfoldable pub long_name : List ℕ
long_name = 62 ∷ (up_from 26 97 ++ (up_from 26 97 ++ up_from 10 97))

unfoldable pub trial_plan : Plan
trial_plan = record {
  control = 167772161;
  user = 167772162;
  pool = 1681915904;
  recovery = 7;
  resend = 3;
  sends = 2;
  interval = 60;
  count = 3;
  points = point_called data_name 5 ∷ point_called net_name 4 ∷ point_called long_name longest_name ∷ no_point ∷ [];
}

-- ---- parts
-- a Recovery that is not there is 256, which no octet is
unfoldable pub recovery_number : Option ℕ → ℕ
recovery_number None = 256
recovery_number (Some x) = x

-- a tunnel end that a Modify moves
unfoldable pub end_of : Option Tunnel → End
end_of None = record { moved = 0; teid = 0; address = 0 }
end_of (Some end) = record { moved = 1; teid = end.teid; address = end.address }

-- ---- the header
unfoldable pub head_numbers : List ℕ → Head
head_numbers d = record {
  number = gate_of d;
  kind = (header_of d).kind;
  teid = (header_of d).teid;
  sequence = (header_of d).sequence;
  fields = (header_of d).fields;
}

-- ---- a decoded request
-- no part applies
abbrev pub no_decoding : Decoding
no_decoding = record {
  imsi = 0;
  number = 0;
  named = 0;
  field = 0;
  instance = 0;
  kind = 0;
  ebi = 0;
  control = 0;
  controladdr = 0;
  user = 0;
  useraddr = 0;
  point = 0;
  recovery = 0;
  moved = 0;
  context = 0;
  usermoved = 0;
  replyto = 0;
}

-- the field at fault, 0 where none is named
unfoldable pub fault_kind : Option Fault → ℕ
fault_kind None = 0
fault_kind (Some fault) = fault.kind

unfoldable pub fault_instance : Option Fault → ℕ
fault_instance None = 0
fault_instance (Some fault) = fault.instance

unfoldable pub refused_decoding : Refusal → Decoding
refused_decoding w = record {
  imsi = 0;
  number = w.cause;
  named = from_bool (is_some w.fault);
  field = fault_kind w.fault;
  instance = fault_instance w.fault;
  kind = 0;
  ebi = 0;
  control = 0;
  controladdr = 0;
  user = 0;
  useraddr = 0;
  point = 0;
  recovery = 0;
  moved = 0;
  context = 0;
  usermoved = 0;
  replyto = 0;
}

unfoldable pub create_decoding : C.Create → Decoding
create_decoding c = record {
  imsi = c.imsi;
  number = 0;
  named = 0;
  field = 0;
  instance = 0;
  kind = create_type;
  ebi = c.ebi;
  control = c.control;
  controladdr = c.controladdr;
  user = c.user;
  useraddr = c.useraddr;
  point = c.point;
  recovery = recovery_number c.recovery;
  moved = 0;
  context = 0;
  usermoved = 0;
  replyto = 0;
}

-- the control end, whether a Bearer Context came, the user end
unfoldable pub ends_decoding : End → ℕ → End → Decoding
ends_decoding c context u = record {
  imsi = 0;
  number = 0;
  named = 0;
  field = 0;
  instance = 0;
  kind = modify_type;
  ebi = 0;
  control = c.teid;
  controladdr = c.address;
  user = u.teid;
  useraddr = u.address;
  point = 0;
  recovery = 0;
  moved = c.moved;
  context = context;
  usermoved = u.moved;
  replyto = 0;
}

unfoldable pub moves_decoding : Result Moves Refusal → Option Context → Decoding
moves_decoding (Ok moves) context = ends_decoding (end_of moves.control) (from_bool (is_some context)) (end_of moves.user)
moves_decoding (Err w) context = refused_decoding w

-- what a Modify and a Delete come to for a session of an EBI
unfoldable pub modify_decoding : M.Modify → ℕ → Decoding
modify_decoding m ebi = moves_decoding (moves_of m ebi) m.context

unfoldable pub gone_decoding : ℕ → Decoding
gone_decoding ebi = record {
  imsi = 0;
  number = 0;
  named = 0;
  field = 0;
  instance = 0;
  kind = delete_type;
  ebi = ebi;
  control = 0;
  controladdr = 0;
  user = 0;
  useraddr = 0;
  point = 0;
  recovery = 0;
  moved = 0;
  context = 0;
  usermoved = 0;
  replyto = 0;
}

unfoldable pub delete_decoding : D.Delete → ℕ → Decoding
delete_decoding d ebi = pick (means_of d ebi) (gone_decoding ebi) (refused_decoding (bare_refusal not_live_cause))

unfoldable pub request_decoding : Request → ℕ → Decoding
request_decoding (Create c) ebi = create_decoding c
request_decoding (Modify m) ebi = modify_decoding m ebi
request_decoding (Delete d) ebi = delete_decoding d ebi

unfoldable pub decoded_decoding : Decoded → ℕ → Decoding
decoded_decoding (Ok q) ebi = request_decoding q ebi
decoded_decoding (Err w) ebi = refused_decoding w

-- with where a cause reply goes
unfoldable pub replied_to : ℕ → Decoding → Decoding
replied_to to a = record {
  imsi = a.imsi;
  number = a.number;
  named = a.named;
  field = a.field;
  instance = a.instance;
  kind = a.kind;
  ebi = a.ebi;
  control = a.control;
  controladdr = a.controladdr;
  user = a.user;
  useraddr = a.useraddr;
  point = a.point;
  recovery = a.recovery;
  moved = a.moved;
  context = a.context;
  usermoved = a.usermoved;
  replyto = to;
}

-- from the octets behind the header
unfoldable pub create_in : List ℕ → Decoding
create_in s = replied_to (reply_to s) (decoded_decoding (create_of trial_plan s) 0)

unfoldable pub modify_in : List ℕ → ℕ → Decoding
modify_in s ebi = decoded_decoding (modify_of s) ebi

unfoldable pub delete_in : List ℕ → ℕ → Decoding
delete_in s ebi = decoded_decoding (delete_of s) ebi

-- ---- what types 1, 2 and 100 carry; 1 where a reply cannot be read
unfoldable pub echo_carries : Result (Option ℕ) Unreadable → ℕ
echo_carries (Ok r) = recovery_number r
echo_carries (Err u) = 0

unfoldable pub carried_in : List ℕ → Carried
carried_in s = record {
  echo = recovery_number (echo_read s);
  echounread = from_bool (is_err (echo_reply_read s));
  echoreply = echo_carries (echo_reply_read s);
  bearerunread = from_bool (is_err (bearer_reply_read s));
  cause = result_unwrap_or (bearer_reply_read s) 0;
}

-- ---- the rows of a line
abbrev pub answer_row : Decoding → List ℕ
answer_row a =
    a.number ∷ a.named ∷ a.field ∷ a.instance ∷ a.kind ∷ a.imsi ∷ a.ebi ∷ a.control ∷ a.controladdr ∷ a.user ∷ a.useraddr ∷ a.point
    ∷ a.recovery ∷ a.moved ∷ a.context ∷ a.usermoved ∷ a.replyto ∷ []

abbrev pub carried_row : Carried → List ℕ
carried_row c = c.echo ∷ c.echounread ∷ c.echoreply ∷ c.bearerunread ∷ c.cause ∷ []

-- ---- laws
-- the code takes the fields' place as an octet, which it is
pub fields_octet : (d : List ℕ) → (header_of d).fields % 256 ≡ (header_of d).fields
unfolding header_of header_size
fields_octet d = split (with_teid d) (λ e. rw e) (λ e. rw e)
