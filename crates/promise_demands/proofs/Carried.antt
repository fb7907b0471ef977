-- That what specs/Carried.antt says holds, and what that rests on.
-- Assumes nothing.
use Rattle.std.specs.Prelude.{ℕ, suc, ◌+◌, ◌-◌, ◌/◌, ◌%◌, ◌<◌, ◌≤◌, not, ◌&&◌, ◌||◌, List, [], ◌∷◌, ◌++◌, ◌≡◌, refl, length, drop, get_or, Some}
use Rattle.std.proofs.Math.Bool.{true, false}
use Rattle.std.proofs.Common.{sym, ◌∙◌, suc-add, length-append, drop-drop}
use Rattle.std.proofs.Math.Path.{ap}
use native.Mathlib.Omega.{arith}
use Rattle.std.proofs.Math.Dec.{eqb, leb, ltb}
use borrow.Author.Tests.{eq-eqb, ne_eqb, le-ltb, eqb-true, leb-true, ltb-true, not-true}
use Rattle.base_octets.specs.Choice.{and_left, and_right}
use Rattle.base_octets.specs.Every.{every}
use Rattle.base_octets.specs.BigEndian.{number_of, number_from, octets_of, number_back}
use Rattle.unit_tunnel.specs.Numbering.{places, user_offset, teids, user_fits}
use Rattle.unit_tunnel.specs.Tunnel.{user_number, number_holder, number_fits}
use Rattle.unit_session.specs.Session.{is_free, held_ok, record_ok}
use Rattle.unit_session.specs.Keep.{live_of, ok_usage}
use Rattle.unit_table.specs.Rules.{bounds_of, Rules, rules_of}
use Rattle.unit_table.specs.Change.{record_ok_lem}
use Rattle.unit_table.specs.Find.{owner_of, owner_is, held_yes}
use Rattle.call_own.specs.Outcome.{least_reply}
use Rattle.wire_user.specs.declared.Header.TheVariants as H
use Rattle.wire_user.specs.Header.{ours, extended, optional, type_taken, user_length_of, user_teid_of, refusal_of, user_header_of}
use Rattle.wire_user.specs.Header.{teid_there, header_packet, size_optional, size_plain, optional_plain}
use Rattle.wire_user.specs.Extensions.{Walk, extensions_of, extent, beyond, ext_end, ext_next, first_must}
use Rattle.wire_user.specs.User.{user_of, user_plain, user_extended}
use Rattle.call_user.specs.User.{took, header_taken, packet_taken, user_read_lem}
use Rattle.call_store.specs.Stored.{State, user_stored}
use Rattle.call_store.specs.Laws.{user_sound}
use Rattle.promise_demands.specs.Run.{Kept}
use Rattle.promise_demands.proofs.Run.{kept_table, kept_store}
use Rattle.promise_demands.specs.Bounds.{at}
use Rattle.promise_demands.specs.Carried.{Extension, passable, lead_type, chain, Between, extensions, none, optionals, suits, behind, packet, AllCarried, front}

-- ---- laws: a chain is passed over, whatever it holds
past : (c : List ℕ) (t : ℕ) (r x : List ℕ) → drop (length c + 1) ((c ++ (t ∷ r)) ++ x) ≡ r ++ x
past [] t r x = refl
past (a ∷ c) t r x = rw suc-add (past c t r x)

last_is : (c : List ℕ) (t : ℕ) (r x : List ℕ) → get_or ((c ++ (t ∷ r)) ++ x) (length c) 0 ≡ t
last_is [] t r x = refl
last_is (a ∷ c) t r x = last_is c t r x

drop-front : (a x : List ℕ) → drop (length a) (a ++ x) ≡ x
drop-front [] x = refl
drop-front (y ∷ a) x = drop-front a x

module _ (e : Extension) (t : ℕ) (r x : List ℕ) (ok : passable e ≡ true) where
  abbrev n : ℕ
  n = length e.content + 2

  abbrev whole : List ℕ
  whole = ((length e.content + 2) / 4 ∷ e.content ++ (t ∷ r)) ++ x

  long : n ≤ length whole
  long = simp length-append (omega arith)

  dropped : drop n whole ≡ r ++ x
  dropped = let z : n ≡ suc (length e.content + 1) = omega arith in rw z (past e.content t r x)

  typed : get_or whole (n - 1) 0 ≡ t
  typed = let z : n - 1 ≡ suc (length e.content) = omega arith in rw z (last_is e.content t r x)

  one_passed : extensions_of whole e.type ≡ beyond n (extensions_of (r ++ x) t)
  unfolding passable
  one_passed =
      let a : leb 1 e.type ≡ true = search (and_left, and_right) in
      let b : ltb e.type first_must ≡ true = search (and_left, and_right) in
      let c : eqb ((length e.content + 2) % 4) 0 ≡ true = search (and_left, and_right) in
      let u = leb-true 1 e.type a in
      let v = ltb-true e.type first_must b in
      let w = eqb-true ((length e.content + 2) % 4) 0 c in
      let is : n ≡ extent whole = omega arith in
      let fit : (eqb n 0 || ltb (length whole) n) ≡ false = rw (ne_eqb n 0 (λ z. omega arith), le-ltb (length whole) n long) in
      ext_next e.type (λ z. omega arith) whole n v is fit ∙ rw (dropped, typed)

chain_passed : (l : List Extension) (x : List ℕ) → every passable l ≡ true
    → extensions_of (chain l ++ x) (lead_type l) ≡ record { number = 0; size = length (chain l) }
unfolding chain lead_type every
chain_passed [] x h = ext_end x 0 refl
chain_passed (e ∷ l) x h =
    let s = one_passed e (lead_type l) (chain l) x (and_left (passable e) (every passable l) h) in
    let i = chain_passed l x (and_right (passable e) (every passable l) h) in
    let z : length e.content + 2 + length (chain l) ≡ length (chain (e ∷ l)) = simp length-append (omega arith) in
    s ∙ rw (i, z)

-- ---- the header of such a packet
module _ (first n : ℕ) (b : List ℕ) (small : length b < 65536) (good : ours first ≡ true) where
  packet_long : length (packet first n b) ≡ length b + 8
  unfolding packet octets_of
  packet_long = omega arith

  packet_refusal : (optional first && ltb (length b + 8) 12) ≡ false → refusal_of (packet first n b) ≡ 0
  unfolding packet octets_of refusal_of type_taken number_of number_from
  packet_refusal o =
      let d = packet first n b in
      let a : ltb (length d) 8 ≡ false = le-ltb (length d) 8 (omega arith) in
      let c : eqb (user_length_of d) (length d - 8) ≡ true = eq-eqb (user_length_of d) (length d - 8) (omega arith) in
      let e : (optional first && ltb (length d) 12) ≡ false = rw packet_long o in
      rw (a, good, c, e)

  pub packet_number : n < teids → user_teid_of (packet first n b) ≡ n
  unfolding packet octets_of number_of number_from teids
  packet_number h = teid_there (packet first n b) (omega arith) ∙ number_back 4 n h

  packet_header : n < teids → user_header_of (packet first n b) ≡ H.Packet (record { 0 = n })
  unfolding packet octets_of
  packet_header h = header_packet (packet first n b) (λ e. omega arith) ∙ ap (λ (m : ℕ). H.Packet (record { 0 = m })) (packet_number h)

extended-optional : (first : ℕ) → extended first ≡ true → optional first ≡ true
unfolding optional
extended-optional first e = rw e

-- the optional part is whole
whole_of : (first : ℕ) (s : Between) (x : List ℕ) → suits first s ≡ true → (optional first && ltb (length (behind s x) + 8) 12) ≡ false
unfolding suits behind
whole_of first none x h = let e = not-true (optional first) h in rw e
whole_of first (optionals a b c e) x h =
    let l : ltb (length (behind (optionals a b c e) x) + 8) 12 ≡ false = le-ltb (length (behind (optionals a b c e) x) + 8) 12 (omega arith) in
    rw (and_left (optional first) (not (extended first)) h, l)
whole_of first (extensions a b c k) x h =
    let l : ltb (length (behind (extensions a b c k) x) + 8) 12 ≡ false = le-ltb (length (behind (extensions a b c k) x) + 8) 12 (omega arith) in
    rw (extended-optional first (and_left (extended first) (every passable k) h), l)

pub read_of : (first n : ℕ) (s : Between) (x : List ℕ) → length (behind s x) < 65536 → ours first ≡ true → suits first s ≡ true
    → ((user_of (packet first n (behind s x))).number ≡ 0) × ((user_of (packet first n (behind s x))).size ≡ front s)
unfolding suits behind front packet octets_of
read_of first n none x l g h =
    let e = not-true (optional first) h in
    user_plain (packet first n (behind none x)) 8 (sym (size_plain first e))
    (packet_refusal first n (behind none x) l g (whole_of first none x h)) (optional_plain first e)
read_of first n (optionals a b c e) x l g h =
    let o = and_left (optional first) (not (extended first)) h in
    let u = not-true (extended first) (and_right (optional first) (not (extended first)) h) in
    user_plain (packet first n (behind (optionals a b c e) x)) 12 (sym (size_optional first o))
    (packet_refusal first n (behind (optionals a b c e) x) l g (whole_of first (optionals a b c e) x h)) u
read_of first n (extensions a b c k) x l g h =
    let u = and_left (extended first) (every passable k) h in
    let o = extended-optional first u in
    let r = user_extended (packet first n (behind (extensions a b c k) x)) 12 (sym (size_optional first o))
    (packet_refusal first n (behind (extensions a b c k) x) l g (whole_of first (extensions a b c k) x h)) u in
    let w = chain_passed k x (and_right (extended first) (every passable k) h) in
    (r.0 ∙ ap (λ (v : Walk). v.number) w, r.1 ∙ ap (λ (v : Walk). 12 + v.size) w)

pub left_of : (first n : ℕ) (s : Between) (x : List ℕ) → drop (front s) (packet first n (behind s x)) ≡ x
unfolding behind front packet octets_of
left_of first n none x = refl
left_of first n (optionals a b c e) x = refl
left_of first n (extensions a b c k) x =
    sym (drop-drop (length (chain k)) 12 (packet first n (behind (extensions a b c k) x))) ∙ drop-front (chain k) x

-- ---- whoever is live in a table that keeps its rules has a use, and is found by its number
module _ (s : State) (k : Kept s) (i : ℕ) (h : i < places) (live : is_free (at s i) ≡ false) where
  rules : Rules s.node.plan s.node.echo s.node.next s.table
  rules = rules_of s.node s.table (kept_table s k)

  ok : record_ok (bounds_of s.node.plan) (at s i) ≡ true
  ok = record_ok_lem s.node.plan s.node.echo s.node.next s.table rules i

  used : 1 ≤ (at s i).usage
  unfolding held_ok
  used =
      let v = (live_of (bounds_of s.node.plan) (at s i) ok live).held in
      let u : leb 1 (at s i).usage ≡ true = search (and_left) in
      leb-true 1 (at s i).usage u

  small_number : user_number (at s i).usage i < teids
  unfolding places teids
  small_number = number_fits user_offset (at s i).usage i user_fits h (ok_usage (bounds_of s.node.plan) (at s i) ok)

  pub live_owner : owner_of user_offset (user_number (at s i).usage i) s.table ≡ Some i
  unfolding places
  live_owner =
      let z = rules.size in
      owner_is user_offset (user_number (at s i).usage i) s.table user_fits (omega arith)
      ∙ rw (number_holder user_offset (at s i).usage i user_fits h used)
      (held_yes i (at s i).usage s.table (omega arith) (rw (live, eq-eqb (at s i).usage (at s i).usage refl)))

  handed : (first : ℕ) (b : Between) (x reply : List ℕ) → ours first ≡ true → suits first b ≡ true → length (behind b x) < 65536 → least_reply ≤ length reply
      → user_stored s.node s.table s.store (packet first (user_number (at s i).usage i) (behind b x)) reply ≡ took 0 i 0 reply (front b)
  unfolding header_taken packet_taken least_reply
  handed first b x reply g q l room =
      let n = user_number (at s i).usage i in
      let r = read_of first n b x l g q in
      user_sound s.node s.table s.store (kept_store s k) (packet first n (behind b x)) reply
      ∙ user_read_lem s.node s.table (packet first n (behind b x)) reply room (kept_table s k) r.0
      ∙ rw (packet_header first n (behind b x) l g small_number, live_owner, r.1)

pub all_carried : AllCarried
unfolding AllCarried
all_carried s k i h live first b x reply g q l room =
    let n = user_number (at s i).usage i in
    let e = handed s k i h live first b x reply g q l room in
    rw e (record { taken = refl; payload = left_of first n b x })
