-- That what specs/Impossible.antt says holds, and what that rests on.
-- Assumes nothing.
use Rattle.std.specs.Prelude.{ℕ, zero, suc, ◌<◌, ◌≤◌, true, false, List, [], ◌∷◌, ◌≡◌, length, get_or, drop, replicate}
use Rattle.std.proofs.Math.Path.{refl, ap}
use Rattle.std.proofs.Common.{◌∙◌, arith, le-ltb}
use Rattle.base_octets.specs.Every.{every}
use Rattle.base_octets.specs.Below.{sum_to}
use Rattle.base_octets.specs.Sums.{sum_of}
use Rattle.base_octets.specs.Search.{first_of}
use Rattle.base_octets.specs.Overlay.{overlay}
use Rattle.base_octets.specs.BigEndian.{number_of, number_from, octets_of}
use Rattle.unit_tunnel.specs.Numbering.{places}
use Rattle.unit_plan.specs.Limits.{used}
use Rattle.unit_sharing.specs.Sharing.{admits, admitted, sharable, share, guarantee_at, ceiling_at}
use Rattle.unit_session.specs.declared.Session.{Session}
use Rattle.unit_session.specs.Session.{is_free, is_on, has_id, freed, opened, blank_at}
use Rattle.unit_table.specs.Rules.{live_on}
use Rattle.unit_table.specs.Change.{nobody, changed_at}
use Rattle.unit_table.specs.Open.{replaced}
use Rattle.unit_table.specs.Room.{free_place}
use Rattle.wire_requests.specs.Carried as carried
use Rattle.wire_header.specs.Types.{bare_types, tunnel_types, not_taken, flag_of}
use Rattle.wire_header.specs.Header.{version_of, flag_p, flag_t, kind_of, length_of, with_teid, teid_of, sequence_of, sequence_bare, header_size, header_of}
use Rattle.wire_header.specs.Gate.{gate_of, control_version}
use Rattle.wire_messages.specs.Messages as messages
use Rattle.call_own.specs.Outcome.{Outcome, least_reply, no_reply}
use Rattle.wire_header.specs.Types.{kind_by}
use Rattle.call_asked.specs.Asked.{kind_asked, asked_of}
use Rattle.call_control.specs.Echoes.{heard_by, echo_taken}
use Rattle.call_control.specs.Creates.{opening_of, accepted_taken}
use Rattle.call_control.specs.Control.{asked_taken, control_taken}
use Rattle.call_store.specs.Stored.{State, fresh_state, asks_store, control_stored}
use Rattle.call_store.specs.Laws.{control_unasked}
use Rattle.promise_demands.specs.Run.{left, control, step, answered, run, of_octets, Kept, Start}
use Rattle.promise_demands.proofs.Run.{fresh_start, kept_table, kept_store}
use Rattle.promise_demands.proofs.Stays.{step_start, run_start}
use Rattle.promise_demands.specs.Creates.{NewCreate, repeats, table_asked, asked_u, accepted_of}
use Rattle.promise_demands.proofs.Creates.{create-accepted}
use Rattle.promise_demands.proofs.Share.{number_yes, number_no}
use Rattle.promise_demands.specs.Examples.{one_party, create_of_imsi, first, first_imsi, second, second_imsi, echo}
use Rattle.promise_demands.proofs.Examples.{one_party_accepted, create_sequence, first_sound, second_sound, first_octets}
use Rattle.call_own.specs.Calls.{fresh_held}
use Rattle.promise_demands.specs.Impossible.{NotAllRefused, CountedFromRecords, NotOneReply}

-- the records of a fresh unit, and those with the first session
abbrev fresh_recs : List Session
fresh_recs = replicate places nobody

abbrev one_recs : List Session
one_recs = changed_at (opened (opening_of (create_of_imsi first_imsi) 3)) (free_place (replaced first_imsi 5 fresh_recs)) (replaced first_imsi 5 fresh_recs)

fresh_recs_lem : (fresh_state one_party).table ≡ fresh_recs
unfolding fresh_state fresh_held places
fresh_recs_lem = refl

begun : Start one_party (fresh_state one_party)
begun = fresh_start one_party one_party_accepted

new_first : (s : State) → s.table ≡ fresh_recs → NewCreate one_party s first (create_of_imsi first_imsi)
unfolding create_of_imsi heard_by no_reply repeats has_id is_free blank_at every places
new_first s e = record { sound = first_sound; new = rw e refl }

new_second : (s : State) → s.table ≡ fresh_recs → NewCreate one_party s second (create_of_imsi second_imsi)
unfolding create_of_imsi heard_by no_reply repeats has_id is_free blank_at every places
new_second s e = record { sound = second_sound; new = rw e refl }

first-admitted : (s : State) → s.table ≡ fresh_recs → admits one_party (asked_u (create_of_imsi first_imsi) s) (create_of_imsi first_imsi).point ≡ true
unfolding create_of_imsi heard_by no_reply table_asked replaced changed_at has_id is_free is_on blank_at first_of live_on sum_of admitted sharable share guarantee_at ceiling_at used one_party sum_to places
first-admitted s e = rw e refl

second-admitted : (s : State) → s.table ≡ fresh_recs → admits one_party (asked_u (create_of_imsi second_imsi) s) (create_of_imsi second_imsi).point ≡ true
unfolding create_of_imsi heard_by no_reply table_asked replaced changed_at has_id is_free is_on blank_at first_of live_on sum_of admitted sharable share guarantee_at ceiling_at used one_party sum_to places
second-admitted s e = rw e refl

pub not_all_refused : NotAllRefused
not_all_refused = record {
  plan = one_party_accepted;
  octets = first_octets;
  taken = λ reply room. number_yes one_party (fresh_state one_party) begun.rules begun.plan first (create_of_imsi first_imsi) (new_first (fresh_state one_party) fresh_recs_lem) reply room (first-admitted (fresh_state one_party) fresh_recs_lem);
}

-- the unit after the first Create
module _ (r : List ℕ) (room : least_reply ≤ length r) where
  abbrev one : State
  one = step (control first r) (fresh_state one_party)

  first_taken : (control_stored (fresh_state one_party).node (fresh_state one_party).table (fresh_state one_party).store first r).call ≡ accepted_of 3 (create_of_imsi first_imsi) (fresh_state one_party) r
  first_taken =
      rw (create_sequence 0x98)
      at (create-accepted one_party (fresh_state one_party) begun.rules begun.plan first (create_of_imsi first_imsi) (new_first (fresh_state one_party) fresh_recs_lem) r room (first-admitted (fresh_state one_party) fresh_recs_lem))

  one_node : one.node ≡ (fresh_state one_party).node
  unfolding step left accepted_of accepted_taken create_of_imsi heard_by no_reply
  one_node = ap (λ (o : Outcome). o.answer.node) first_taken

  accepted_recs : (accepted_of 3 (create_of_imsi first_imsi) (fresh_state one_party) r).table ≡ one_recs
  unfolding accepted_of accepted_taken table_asked create_of_imsi heard_by no_reply
  accepted_recs = rw fresh_recs_lem refl

  one_recs_lem : one.table ≡ one_recs
  unfolding step left
  one_recs_lem = ap (λ (o : Outcome). o.table) first_taken ∙ accepted_recs

  one_begun : Start one_party one
  unfolding of_octets
  one_begun = step_start one_party (control first r) (fresh_state one_party) first_octets begun

-- the second has another IMSI, and finds the access point at its ceiling
new_after : (s : State) → s.table ≡ one_recs → NewCreate one_party s second (create_of_imsi second_imsi)
unfolding create_of_imsi opening_of opened heard_by no_reply repeats has_id is_free blank_at freed changed_at replaced first_of free_place every places
new_after s e = record { sound = second_sound; new = rw e refl }

second-refused : (s : State) → s.table ≡ one_recs → admits one_party (asked_u (create_of_imsi second_imsi) s) (create_of_imsi second_imsi).point ≡ false
unfolding create_of_imsi opening_of opened heard_by no_reply table_asked replaced changed_at freed free_place has_id is_free is_on blank_at first_of live_on sum_of admitted sharable share guarantee_at ceiling_at used one_party sum_to places
second-refused s e = rw e refl

pub counted_from_records : CountedFromRecords
counted_from_records = record {
  same = one_node;
  admitted = λ reply room. number_yes one_party (fresh_state one_party) begun.rules begun.plan second (create_of_imsi second_imsi) (new_second (fresh_state one_party) fresh_recs_lem) reply room (second-admitted (fresh_state one_party) fresh_recs_lem);
  no_reply = λ r reply h room.
      number_no one_party (one r h) (one_begun r h).rules (one_begun r h).plan second (create_of_imsi second_imsi) (new_after (one r h) (one_recs_lem r h)) reply room (second-refused (one r h) (one_recs_lem r h));
}

echo_gate : (n : ℕ) → gate_of (echo n) ≡ 0
unfolding echo gate_of bare_types tunnel_types not_taken flag_of version_of flag_p flag_t kind_of length_of with_teid teid_of header_size control_version number_of number_from
echo_gate n = refl

echo_kind : (n : ℕ) → (header_of (echo n)).kind ≡ 1
unfolding echo header_of kind_of
echo_kind n = refl

echo_asks_not : (n : ℕ) → asks_store (echo n) ≡ false
unfolding asks_store header_of
echo_asks_not n = rw (echo_gate n, echo_kind n)

echo_sequence : (n : ℕ) → (header_of (echo n)).sequence ≡ n
unfolding echo header_of sequence_of sequence_bare with_teid flag_t number_of number_from
echo_sequence n = omega arith

overlay-at : (m d : List ℕ) (i : ℕ) → i < length m → length m ≤ length d → get_or (overlay m d) i 0 ≡ get_or m i 0
unfolding overlay
overlay-at [] d i h k = absurd (omega arith)
overlay-at (x ∷ m) [] i h k = absurd (omega arith)
overlay-at (x ∷ m) (y ∷ d) zero h k = refl
overlay-at (x ∷ m) (y ∷ d) (suc i) h k = overlay-at m d i (omega arith) (omega arith)

echo-octet : (n recovery : ℕ) (reply : List ℕ) → n < 256 → least_reply ≤ length reply → get_or (overlay (messages.echo_of 2 n recovery) reply) 6 0 ≡ n
unfolding messages.echo_of octets_of least_reply
echo-octet n recovery reply h room = overlay-at (messages.echo_of 2 n recovery) reply 6 (omega arith) (omega arith) ∙ omega arith

echo_answer_lem : (s : State) → Kept s → (reply : List ℕ) → least_reply ≤ length reply → (n : ℕ)
    → (control_stored s.node s.table s.store (echo n) reply).call
    ≡ echo_taken s.node s.table n (carried.echo_read (drop (header_of (echo n)).fields (echo n))) reply
unfolding control_taken asked_taken asked_of kind_asked kind_by least_reply
echo_answer_lem s k reply room n =
    control_unasked s.node s.table s.store (echo n) reply (kept_store s k) (echo_asks_not n)
    ∙ rw (le-ltb (length reply) least_reply room, kept_table s k, echo_gate n, echo_kind n, echo_sequence n)

pub not_one_reply_lem : NotOneReply
unfolding NotOneReply answered echo_taken
not_one_reply_lem p s es r reply room n h = record {
  number = ap (λ (o : Outcome). o.answer.number) e;
  size = ap (λ (o : Outcome). o.answer.size) e ∙ messages.size_echo 2 n (run es s).node.plan.recovery;
  octet = ap (λ (o : Outcome). get_or o.reply 6 0) e ∙ echo-octet n (run es s).node.plan.recovery reply h room;
}
  where
    e : (control_stored (run es s).node (run es s).table (run es s).store (echo n) reply).call
        ≡ echo_taken (run es s).node (run es s).table n (carried.echo_read (drop (header_of (echo n)).fields (echo n))) reply
    e = echo_answer_lem (run es s) (run_start p s es r).rules reply room n
