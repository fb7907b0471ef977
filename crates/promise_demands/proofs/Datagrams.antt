-- That what specs/Datagrams.antt says holds, and what that rests on.
-- Assumes nothing.
use Rattle.std.specs.Prelude.{ℕ, ◌+◌, true, false, ◌&&◌, List, ◌≡◌, drop, eqb, ltb}
use Rattle.std.proofs.Math.Path.{refl}
use Rattle.std.proofs.Common.{arith}
use Rattle.std.proofs.Math.ListN.{length}
use borrow.Author.Tests.{le-ltb, eq-eqb}
use Rattle.base_octets.specs.Number.{taken}
use Rattle.base_octets.specs.BigEndian.{number_of, number_from, octets_of, number_back}
use Rattle.wire_messages.specs.Types.{create_type, modify_type, delete_type}
use Rattle.wire_messages.specs.Messages.{header_to}
use Rattle.wire_header.specs.Types.{bare_types, tunnel_types, not_taken, flag_of}
use Rattle.wire_header.specs.Header.{version_of, flag_p, flag_t, kind_of, length_of, with_teid, teid_octets, teid_of, header_size, header_of}
use Rattle.wire_header.specs.Gate.{gate_of, control_version}
use Rattle.unit_plan.specs.declared.Plan.{Plan}
use Rattle.unit_plan.specs.Plan.{accepted}
use Rattle.wire_requests.specs.declared.Create as C
use Rattle.promise_demands.specs.Creates.{SoundCreate}
use Rattle.unit_plan.specs.Limits.{no_point, used}
use Rattle.unit_plan.specs.Names.{name_of}
use Rattle.promise_demands.specs.Encoder.{create_fields, create_bearer, recovery_field, tunnel_octets, digits_of}
use Rattle.promise_demands.specs.Examples.{one_party, create, create_of_imsi, first}
use Rattle.promise_demands.specs.Values.{packed}
use Rattle.promise_demands.specs.Sent.{Sent, sent_octets}
use Rattle.promise_demands.specs.Wellformed.{GoodCreate}
use Rattle.promise_demands.proofs.Wellformed.{good_is_read}
use Rattle.promise_demands.specs.Written.{Seq, Word}
use Rattle.promise_demands.proofs.Written.{header_back}
use Rattle.promise_demands.specs.Datagrams.{datagram, OneDatagram, TakenAs, example_besides, example_fields, DatagramsTaken}

-- ---- laws
datagram-length : (type teid seq : ℕ) (l : List Sent) → length (datagram type teid seq l) ≡ length (sent_octets l) + 12
unfolding datagram header_to octets_of
datagram-length type teid seq l = omega arith

module _ (type teid seq : ℕ) (l : List Sent) (one : OneDatagram l) (word : Word teid) (fits : Seq seq) where
  gate_taken : flag_of type ≡ 1 → (eqb type create_type && ltb 0 teid) ≡ false → gate_of (datagram type teid seq l) ≡ taken
  unfolding OneDatagram datagram header_to gate_of version_of flag_p flag_t kind_of length_of with_teid teid_octets teid_of header_size control_version
      not_taken octets_of number_of number_from
  gate_taken f t =
      let n = length (sent_octets l) in
      let s = number_back 2 (n + 8) one in
      let w = number_back 4 teid word in
      let k = datagram-length type teid seq l in
      let a = le-ltb (length (datagram type teid seq l)) 8 (omega arith) in
      let b = le-ltb (length (datagram type teid seq l)) 12 (omega arith) in
      let e = eq-eqb (n + 8 + 4) (length (datagram type teid seq l)) (omega arith) in
      rw (a, f, s, e, b, w, t)

  header_taken_lem : header_of (datagram type teid seq l) ≡ record { kind = type; teid = teid; sequence = seq; fields = 12 }
  unfolding datagram
  header_taken_lem = header_back type teid seq (length (sent_octets l) + 8) (sent_octets l) word fits

  fields_taken : drop 12 (datagram type teid seq l) ≡ sent_octets l
  unfolding datagram header_to octets_of
  fields_taken = refl

  taken_as : flag_of type ≡ 1 → (eqb type create_type && ltb 0 teid) ≡ false → TakenAs (datagram type teid seq l) type teid seq l
  taken_as f t = record { gate = gate_taken f t; header = header_taken_lem; fields = fields_taken }

create-flag : flag_of create_type ≡ 1
unfolding flag_of bare_types tunnel_types
create-flag = refl

modify_flag : flag_of modify_type ≡ 1
unfolding flag_of bare_types tunnel_types
modify_flag = refl

delete_flag : flag_of delete_type ≡ 1
unfolding flag_of bare_types tunnel_types
delete_flag = refl

create-taken : (seq : ℕ) (l : List Sent) → OneDatagram l → Seq seq → TakenAs (datagram create_type 0 seq l) create_type 0 seq l
create-taken seq l one fits = taken_as create_type 0 seq l one (omega arith) fits create-flag refl

create_sound : (plan : Plan) (seq : ℕ) (l : List Sent) (c : C.Create) → accepted plan ≡ true → OneDatagram l → Seq seq → GoodCreate plan l c
    → SoundCreate plan (datagram create_type 0 seq l) c
create_sound plan seq l c p one fits g =
    let t = create-taken seq l one fits in
    record { header = t.gate; kind = rw t.header; fields = rw (t.header, t.fields) (good_is_read.create plan l c p g) }

example_is : datagram create_type 0 3 example_fields ≡ first
unfolding datagram header_to sent_octets example_fields example_besides one_party create_of_imsi create create_fields create_bearer recovery_field tunnel_octets
    digits_of packed octets_of used name_of no_point
example_is = refl

pub datagrams_taken : DatagramsTaken
datagrams_taken = record {
  create = create-taken;
  modify = λ teid seq l one word fits. taken_as modify_type teid seq l one word fits modify_flag refl;
  delete = λ teid seq l one word fits. taken_as delete_type teid seq l one word fits delete_flag refl;
  sound = create_sound;
  example = example_is;
}
