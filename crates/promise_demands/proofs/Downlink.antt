-- That what specs/Downlink.antt says holds, and what that rests on.
-- Assumes nothing.
use Rattle.std.specs.Prelude.{ℕ, ◌+◌, ◌<◌, ◌≤◌, false, List, [], ◌∷◌, ◌≡◌, refl, length, take, get_or, ltb, Option, Some, None}
use Rattle.std.proofs.Math.Bool.{true, not}
use Rattle.std.proofs.Common.{sym, ◌∙◌, ap}
use native.Mathlib.Omega.{arith}
use Rattle.std.proofs.Math.Dec.{eqb}
use borrow.Author.Tests.{eqb-true, ltb-true, ltb-false, not-true}
use Rattle.base_octets.specs.Choice.{split, and_left, and_right, pick}
use Rattle.base_octets.specs.Every.{every, every-at}
use Rattle.base_octets.specs.BigEndian.{is_octet, octets_of, number_of, number_from}
use Rattle.base_octets.specs.Overlay.{overlay}
use Rattle.wire_messages.specs.Messages.{gpdu_of, size_gpdu}
use Rattle.wire_packet.specs.Packet.{whole_packet, destination_of, total_length_of, packet_whole}
use Rattle.wire_user.specs.Header.{type_of, ours, optional}
use Rattle.unit_tunnel.specs.Numbering.{places}
use Rattle.unit_plan.specs.Address.{address_of, place_of, place_of_address}
use Rattle.unit_session.specs.Session.{is_free}
use Rattle.unit_table.specs.Rules.{rules_of}
use Rattle.unit_table.specs.Find.{dwells, addressee_of, addressee_is, first_is}
use Rattle.call_down.specs.Down.{written_to, down_to, down_taken, down_unfit, down_whole, down_short, down_fits}
use Rattle.call_store.specs.Stored.{State}
use Rattle.call_store.specs.Laws.{down_sound}
use Rattle.promise_demands.specs.Run.{run, Kept}
use Rattle.promise_demands.proofs.Run.{kept_table, kept_store}
use Rattle.promise_demands.proofs.Stays.{run_start}
use Rattle.promise_demands.specs.Bounds.{at}
use Rattle.promise_demands.specs.Carried.{none, suits, behind}
use Rattle.promise_demands.proofs.Carried.{packet_number, read_of, left_of}
use Rattle.promise_demands.specs.Carried as carried
use Rattle.promise_demands.specs.Downlink.{lowered, ReadBack, WrittenDown, Grounds, Downlink, DownlinkWhole}

-- ---- laws: what is laid over a buffer that holds it
take-overlay : (m d : List ℕ) → length m ≤ length d → take (length m) (overlay m d) ≡ m
unfolding overlay
take-overlay [] d h = refl
take-overlay (x ∷ m) [] h = absurd (omega arith)
take-overlay (x ∷ m) (y ∷ d) h = ap (λ (l : List ℕ). x ∷ l) (take-overlay m d (omega arith))

-- a packet of octets whose total length is its length has under 65,536 of them
small_packet : (packet : List ℕ) → every is_octet packet ≡ true → total_length_of packet ≡ length packet → length packet < 65536
unfolding is_octet number_of number_from
small_packet packet o e =
    let a = ltb-true (get_or packet 2 0) 256 (every-at is_octet packet 2 0 o refl) in
    let b = ltb-true (get_or packet 3 0) 256 (every-at is_octet packet 3 0 o refl) in
    omega arith

-- ---- laws: reading back
plain_first : (ours 0x30 ≡ true) × (suits 0x30 none ≡ true)
unfolding ours optional suits
plain_first = (refl, refl)

gpdu_packet : (teid : ℕ) (packet : List ℕ) → gpdu_of teid packet ≡ carried.packet 0x30 teid (behind none packet)
unfolding gpdu_of carried.packet behind octets_of
gpdu_packet teid packet = refl

gpdu_type : (teid : ℕ) (packet : List ℕ) → type_of (gpdu_of teid packet) ≡ 255
unfolding gpdu_of
gpdu_type teid packet = refl

none_behind : (packet : List ℕ) → behind none packet ≡ packet
unfolding behind
none_behind packet = refl

pub gpdu_back : (teid : ℕ) (packet : List ℕ) → length packet < 65536 → ReadBack (gpdu_of teid packet) teid packet
gpdu_back teid packet small =
    let l : length (behind none packet) < 65536 = rw (none_behind packet) small in
    let r = read_of 0x30 teid none packet l plain_first.0 plain_first.1 in
    record {
      taken = rw (gpdu_packet teid packet) r.0;
      type = gpdu_type teid packet;
      number = λ w. rw (gpdu_packet teid packet) (packet_number 0x30 teid (behind none packet) l plain_first.0 w);
      payload = rw (gpdu_packet teid packet) (rw r.1 (left_of 0x30 teid none packet));
    }

-- ---- on a table that keeps its rules
module _ (s : State) (k : Kept s) where
  sized : length s.table ≡ places
  sized = (rules_of s.node s.table (kept_table s k)).size

  sound : (packet out : List ℕ) → lowered s packet out ≡ down_taken s.node s.table packet out
  sound packet out = down_sound s.node s.table s.store (kept_store s k) packet out

  -- the place that has the destination address says whose the packet is
  whose : (packet : List ℕ) (i : ℕ) → i < places → address_of s.node.plan.pool i ≡ destination_of packet
      → addressee_of s.node.plan.pool (destination_of packet) s.table ≡ pick (not (is_free (at s i))) (Some i) None
  whose packet i h e =
      let z = sized in
      let p : place_of s.node.plan.pool (destination_of packet) ≡ i = rw (← e) (place_of_address s.node.plan.pool i h) in
      addressee_is s.node.plan.pool (destination_of packet) s.table (omega arith) ∙ rw p

  module _ (packet out : List ℕ) where
    -- what is found is a live place with that address
    found : (i : ℕ) → addressee_of s.node.plan.pool (destination_of packet) s.table ≡ Some i
        → (i < places) × (is_free (at s i) ≡ false) × (address_of s.node.plan.pool i ≡ destination_of packet)
    unfolding addressee_of dwells
    found i e =
        let z = sized in
        let f = first_is (dwells s.node.plan.pool (destination_of packet)) i s.table e in
        let h = f.0 in
        let t = f.1 in
        let a : not (is_free (at s i)) ≡ true = and_left (not (is_free (at s i))) (eqb (address_of s.node.plan.pool i) (destination_of packet)) t in
        let b : eqb (address_of s.node.plan.pool i) (destination_of packet) ≡ true
        = and_right (not (is_free (at s i))) (eqb (address_of s.node.plan.pool i) (destination_of packet)) t in
        (omega arith, not-true (is_free (at s i)) a, eqb-true (address_of s.node.plan.pool i) (destination_of packet) b)

    written_down : (i : ℕ) → whole_packet packet ≡ true → length packet + 8 ≤ length out
        → addressee_of s.node.plan.pool (destination_of packet) s.table ≡ Some i → WrittenDown s packet (written_to i (at s i) packet out)
    written_down i w room e =
        let f = found i e in
        let n = size_gpdu (at s i).user packet in
        let v = packet_whole packet w in
        let t : take (length (gpdu_of (at s i).user packet)) (overlay (gpdu_of (at s i).user packet) out) ≡ gpdu_of (at s i).user packet
        = take-overlay (gpdu_of (at s i).user packet) out (omega arith) in
        record {
          place = f.0;
          live = f.1;
          address = f.2;
          whole = v;
          peer = refl;
          size = n;
          octets = t;
          back = λ o. rw t (gpdu_back (at s i).user packet (small_packet packet o v.exact));
        }

    nobody_there : addressee_of s.node.plan.pool (destination_of packet) s.table ≡ None
        → (i : ℕ) → i < places → address_of s.node.plan.pool i ≡ destination_of packet → is_free (at s i) ≡ true
    nobody_there e i h a =
        split (is_free (at s i)) (λ f. f)
        (λ f. let g : None ≡ Some i = sym e ∙ whose packet i h a ∙ rw f in
        let z : ◌≡◌ {A = ℕ} 0 1 = cc in
        absurd (omega arith))

    -- by whose it is
    to_grounds : whole_packet packet ≡ true → (f : Option ℕ) → addressee_of s.node.plan.pool (destination_of packet) s.table ≡ f
        → Grounds s packet out (down_to f s.table packet out)
    unfolding down_to
    to_grounds w None e =
        record { written = λ z. absurd (omega arith); unfit = λ z. absurd (omega arith); nobodys = λ z. nobody_there e; short = λ z. absurd (omega arith) }
    to_grounds w (Some i) e =
        split (ltb (length out) (length packet + 8))
        (λ a.
        let h = ltb-true (length out) (length packet + 8) a in
        rw (down_short i (at s i) packet out h)
        (record { written = λ z. absurd (omega arith); unfit = λ z. absurd (omega arith); nobodys = λ z. absurd (omega arith); short = λ z. h }))
        (λ a.
        let h = ltb-false (length out) (length packet + 8) a in
        rw (down_fits i (at s i) packet out h)
        (record {
          written = λ z. written_down i w h e;
          unfit = λ z. absurd (omega arith);
          nobodys = λ z. absurd (omega arith);
          short = λ z. absurd (omega arith);
        }))

    all_grounds : Grounds s packet out (lowered s packet out)
    all_grounds =
        split (whole_packet packet)
        (λ w. rw (sound packet out, down_whole s.node s.table packet out (kept_table s k) w) (to_grounds w (addressee_of s.node.plan.pool (destination_of packet) s.table) refl))
        (λ w. rw (sound packet out, down_unfit s.node s.table packet out (kept_table s k) w)
        (record { written = λ z. absurd (omega arith); unfit = λ z. w; nobodys = λ z. absurd (omega arith); short = λ z. absurd (omega arith) }))

    all_written : (i : ℕ) → i < places → is_free (at s i) ≡ false → whole_packet packet ≡ true → address_of s.node.plan.pool i ≡ destination_of packet
        → length packet + 8 ≤ length out → lowered s packet out ≡ written_to i (at s i) packet out
    unfolding down_to
    all_written i h live w a room =
        sound packet out ∙ down_whole s.node s.table packet out (kept_table s k) w ∙ rw (whose packet i h a, live) (down_fits i (at s i) packet out room)

  whole_downlink : Downlink s
  whole_downlink = record {
    grounds = all_grounds;
    refused = λ packet out w. sound packet out ∙ down_unfit s.node s.table packet out (kept_table s k) w;
    all = λ i h live packet out. all_written packet out i h live;
  }

pub downlink_whole : DownlinkWhole
downlink_whole = record {
  kept = whole_downlink;
  runs = λ p s es r. whole_downlink (run es s) (run_start p s es r).rules;
}
