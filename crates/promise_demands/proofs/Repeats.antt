-- That what specs/Repeats.antt says holds, and what that rests on.
-- Assumes nothing.
use Rattle.std.specs.Prelude.{ℕ, ◌%◌, ◌<◌, ◌≤◌, Bool, true, false, List, map, ◌≡◌, length, get_or, drop, Some, Option, Ok}
use Rattle.std.proofs.Math.Path.{refl, ap}
use Rattle.std.proofs.Common.{sym, ◌∙◌}
use native.Mathlib.Omega.{arith}
use borrow.Author.Tests.{le-ltb, lt-ltb, eq-eqb}
use Rattle.base_octets.specs.Choice.{split, and_left, and_right, impossible}
use Rattle.base_octets.specs.Search.{first_of, first_passes, first-before}
use Rattle.base_octets.specs.Sums.{count_of}
use Rattle.unit_tunnel.specs.Numbering.{places}
use Rattle.unit_plan.specs.declared.Plan.{Plan}
use Rattle.unit_sharing.specs.Sharing.{admits}
use Rattle.unit_plan.specs.Plan.{accepted, parties_four}
use Rattle.base_octets.specs.Every.{every}
use Rattle.base_octets.specs.BigEndian.{is_octet}
use Rattle.unit_session.specs.Session.{has_id, is_free, opened, freed}
use Rattle.unit_table.specs.Change.{nobody, changed_at, changed_here, length_changed}
use Rattle.unit_table.specs.Open.{freed_none}
use Rattle.unit_table.specs.Room.{free_place}
use Rattle.wire_header.specs.Types.{kind_by}
use Rattle.call_asked.specs.Asked.{kind_asked, request_asked, sound_asked, asked_of}
use Rattle.call_asked.specs.declared.Asked.TheVariants as A
use Rattle.call_control.specs.Creates.{opening_of, accepted_taken, is_repeat, settled_at, heard_create, create_taken, opened_places, create_places}
use Rattle.call_own.specs.Outcome.{least_reply, no_places, changing, Outcome, Held}
use Rattle.unit_session.specs.declared.Session.{Session}
use Rattle.unit_table.specs.declared.Node.{Node}
use Rattle.unit_table.specs.Rules.{Rules, rules_of}
use Rattle.unit_table.specs.Find.{found_in, found_only, found_is}
use Rattle.wire_header.specs.Header.{header_of}
use Rattle.wire_requests.specs.declared.Create as C
use Rattle.wire_requests.specs.declared.Request.TheVariants as Q
use Rattle.wire_requests.specs.Create.{create_of}
use Rattle.call_control.specs.Echoes.{heard_by, heard_node, heard_plan, heard-keeps, restarts_by, heard_either, heard-freed, heard_same, heard_twice, heard_once}
use Rattle.call_control.specs.Control.{asked_taken, control_taken, restarts_in}
use Rattle.call_store.specs.Stored.{State, stored, store_after, control_stored}
use Rattle.call_store.specs.Laws.{control_new, unasked_unkept}
use Rattle.promise_demands.specs.Run.{left, control, step, run, of_octets, Kept}
use Rattle.promise_demands.proofs.Run.{start_accepted, step_keeps, kept_table}
use Rattle.promise_demands.proofs.Stays.{run_start}
use Rattle.promise_demands.specs.Creates.{SoundCreate, NewCreate, heard, repeats, table_asked, asked_u, accepted_of}
use Rattle.promise_demands.proofs.Creates.{create-accepted, create-point, place_in, create_asks_not}
use Rattle.base_octets.specs.Places.{map_at}
use Rattle.promise_demands.specs.Repeats.{RepeatsAnswered, AgainTheSame}

-- where one has it at most, who has it is found
found_it : (p : Session → Bool) (l : List Session) (i : ℕ) → count_of p l ≤ 1 → i < length l → p (get_or l i nobody) ≡ true → found_in p l ≡ Some i
unfolding found_in
found_it p l i once h e =
    let b = first-before p l i nobody h e in
    let k : first_of p l < length l = omega arith in
    let s = found_only p l (first_of p l) i once k h (first_passes p l nobody k) e in
    rw (lt-ltb (first_of p l) (length l) k, s)

module _ (p : Plan) (s : State) (kept : Kept s) (plan : s.node.plan ≡ p) (d : List ℕ) (c : C.Create) (n : SoundCreate p d c) (reply : List ℕ) (room : least_reply ≤ length reply) where
  decoded : create_of s.node.plan (drop (header_of d).fields d) ≡ Ok (Q.Create c)
  decoded = rw plan n.fields

  rules : Rules (heard c s).node.plan (heard c s).node.echo (heard c s).node.next (heard c s).table
  rules = rules_of (heard c s).node (heard c s).table (heard-keeps s.node s.table (kept_table s kept) c.recovery)

  asked_is : asked_of s.node d ≡ A.Create c (header_of d).sequence
  unfolding asked_of kind_asked kind_by request_asked sound_asked
  asked_is = rw (n.header, n.kind, decoded)

  -- it changes no place: a restart would have left nobody
  none_restarts : (i : ℕ) → i < length s.table → found_in (has_id c.imsi c.ebi) (heard c s).table ≡ Some i → restarts_by c.recovery s.node ≡ false
  none_restarts i h f = split (restarts_by c.recovery s.node)
      (λ q. let same = ap (λ (x : Held). x.table) (heard-freed c.recovery s.node s.table q) in
      let g = found_is (has_id c.imsi c.ebi) (map freed s.table) i (rw same at f) in
      impossible (sym (freed_none c.imsi c.ebi (get_or s.table i nobody)) ∙ rw (map_at freed s.table i nobody nobody h) at g.1.1))
      (λ q. q)

  places_none : (i : ℕ) → i < length s.table → found_in (has_id c.imsi c.ebi) (heard c s).table ≡ Some i
      → is_repeat c (header_of d).sequence (get_or (heard c s).table i nobody) ≡ true → create_places c (header_of d).sequence s.node s.table ≡ no_places
  unfolding create_places opened_places
  places_none i h f b =
      let q = none_restarts i h f in
      let same = ap (λ (x : Held). x.table) (heard_same c.recovery s.node s.table q) in
      let g = found_is (has_id c.imsi c.ebi) s.table i (rw same at f) in
      rw (q, ← g.1.0, lt-ltb i (length s.table) h, rw same at b)

  -- and the store is as it was
  store_same : restarts_by c.recovery s.node ≡ false → (o : Outcome) → store_after s.node d o s.store ≡ s.store
  unfolding store_after restarts_in
  store_same q o = rw (create_asks_not p d c n, asked_is, q)

  taken_repeated : (i : ℕ) → i < places → repeats c (header_of d).sequence (get_or (heard c s).table i nobody) ≡ true
      → control_taken s.node s.table d reply ≡ accepted_taken (header_of d).sequence i (get_or (heard c s).table i nobody) (heard c s).node (heard c s).table reply
  unfolding control_taken asked_taken asked_of kind_asked kind_by request_asked sound_asked create_taken heard_create settled_at accepted_taken least_reply repeats places
  taken_repeated i h e =
      let a = and_left (has_id c.imsi c.ebi (get_or (heard c s).table i nobody)) (is_repeat c (header_of d).sequence (get_or (heard c s).table i nobody)) e in
      let b = and_right (has_id c.imsi c.ebi (get_or (heard c s).table i nobody)) (is_repeat c (header_of d).sequence (get_or (heard c s).table i nobody)) e in
      let z = rules.size in
      let f = found_it (has_id c.imsi c.ebi) (heard c s).table i (rules.once c.imsi c.ebi) (omega arith) a in
      let y = (rules_of s.node s.table (kept_table s kept)).size in
      rw (le-ltb (length reply) least_reply room, kept_table s kept, n.header, n.kind, decoded, f, b, places_none i (omega arith) f b)

  repeated_here : (i : ℕ) → i < places → repeats c (header_of d).sequence (get_or (heard c s).table i nobody) ≡ true → restarts_by c.recovery s.node ≡ false
  unfolding repeats places
  repeated_here i h e =
      let a = and_left (has_id c.imsi c.ebi (get_or (heard c s).table i nobody)) (is_repeat c (header_of d).sequence (get_or (heard c s).table i nobody)) e in
      let z = rules.size in
      let y = (rules_of s.node s.table (kept_table s kept)).size in
      none_restarts i (omega arith) (found_it (has_id c.imsi c.ebi) (heard c s).table i (rules.once c.imsi c.ebi) (omega arith) a)

  repeated : (i : ℕ) → i < places → repeats c (header_of d).sequence (get_or (heard c s).table i nobody) ≡ true
      → control_stored s.node s.table s.store d reply
      ≡ stored (accepted_taken (header_of d).sequence i (get_or (heard c s).table i nobody) (heard c s).node (heard c s).table reply) s.store
  repeated i h e =
      let o = control_taken s.node s.table d reply in
      control_new s.node s.table s.store d reply room kept (unasked_unkept s.node s.table s.store d reply (create_asks_not p d c n))
      ∙ ap (stored o) (store_same (repeated_here i h e) o)
      ∙ ap (λ (x : Outcome). stored x s.store) (taken_repeated i h e)

pub repeats-answered : RepeatsAnswered
unfolding RepeatsAnswered
repeats-answered p s es r d c n i h e reply room = let g = run_start p s es r in repeated p (run es s) g.rules g.plan d c n reply room i h e

kept_same : (a b : State) → a ≡ b → Kept a → Kept b
kept_same a b e k = rw (← e) k

-- ---- a Recovery value that is stored already does nothing
heard_again : (r : Option ℕ) (node : Node) (t t₁ : List Session)
    → ((heard_by r (heard_by r node t).node t₁).node ≡ (heard_by r node t).node) × ((heard_by r (heard_by r node t).node t₁).table ≡ t₁)
heard_again r node t t₁ =
    rw (heard_either r node t, heard_either r (heard_node r node) t₁, heard_twice r node, heard_once r node) (refl, refl)

module _ (p : Plan) (s : State) (kept : Kept s) (plan : s.node.plan ≡ p) (good : accepted p ≡ true) (d : List ℕ) (octets : every is_octet d ≡ true) (c : C.Create)
    (n : NewCreate p s d c) (reply : List ℕ) (room : least_reply ≤ length reply) (e : admits p (asked_u c s) c.point ≡ true) where
  abbrev number : ℕ
  number = (header_of d).sequence

  abbrev place : ℕ
  place = free_place (table_asked c s)

  abbrev recs : List Session
  recs = changed_at (opened (opening_of c number)) place (table_asked c s)

  abbrev then : State
  then = record { node = (heard c s).node; table = recs; store = (step (control d reply) s).store }

  taken : (control_stored s.node s.table s.store d reply).call ≡ accepted_of number c s reply
  taken = create-accepted p s kept plan d c n reply room e

  after : step (control d reply) s ≡ then
  unfolding step left accepted_of accepted_taken
  after =
      ap (λ (o : Outcome). record { node = o.answer.node; table = o.table; store = (control_stored s.node s.table s.store d reply).store }) taken

  then_kept : Kept then
  unfolding of_octets
  then_kept = kept_same (step (control d reply) s) then after (step_keeps (control d reply) s octets kept)

  in_there : place < length (table_asked c s)
  in_there = place_in p s kept plan d c n reply room e

  opened_there : get_or recs place nobody ≡ opened (opening_of c number) (get_or (table_asked c s) place nobody)
  opened_there = changed_here (opened (opening_of c number)) place (table_asked c s) nobody in_there

  is_it : (x : Session) → repeats c number (opened (opening_of c number) x) ≡ true
  unfolding repeats has_id is_free is_repeat opened opening_of
  is_it x =
      let f = parties_four p good in
      let q = create-point p s kept plan d c n reply room in
      let m : c.point % 256 ≡ c.point = omega arith in
      rw (m, eq-eqb c.imsi c.imsi refl, eq-eqb c.ebi c.ebi refl, eq-eqb c.point c.point refl, eq-eqb number number refl)

  then_plan : (heard c s).node.plan ≡ p
  then_plan = heard_plan c.recovery s.node s.table ∙ plan

  few : place < places
  unfolding places
  few =
      let z = (rules_of then.node then.table (kept_table then then_kept)).size in
      let l = length_changed (opened (opening_of c number)) place (table_asked c s) in
      let h = in_there in
      omega arith

  again_table : (heard c then).table ≡ recs
  again_table = (heard_again c.recovery s.node s.table recs).1

  again_node : (heard c then).node ≡ (heard c s).node
  again_node = (heard_again c.recovery s.node s.table recs).0

  again_there : get_or (heard c then).table place nobody ≡ opened (opening_of c number) (get_or (table_asked c s) place nobody)
  again_there = ap (λ (t : List Session). get_or t place nobody) again_table ∙ opened_there

  again : control_stored then.node then.table then.store d reply ≡ stored (changing no_places (accepted_of number c s reply)) then.store
  unfolding accepted_of accepted_taken
  again =
      repeated p then then_kept then_plan d c n.sound reply room place few (rw again_there (is_it (get_or (table_asked c s) place nobody)))
      ∙ rw (again_there, again_node, again_table)

  pub same_again : control_stored (step (control d reply) s).node (step (control d reply) s).table (step (control d reply) s).store d reply
      ≡ stored (changing no_places (control_stored s.node s.table s.store d reply).call) (step (control d reply) s).store
  same_again =
      ap (λ (x : State). control_stored x.node x.table x.store d reply) after
      ∙ (again ∙ ap (λ (o : Outcome). stored (changing no_places o) then.store) (sym taken))

pub again_the_same : AgainTheSame
unfolding AgainTheSame
again_the_same p s es r d c o n e reply room =
    let g = run_start p s es r in
    same_again p (run es s) g.rules g.plan (start_accepted p s r.start) d o c n reply room e
