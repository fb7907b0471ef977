-- That what specs/Creates.antt says holds, and what that rests on.
-- Assumes nothing.
use Rattle.std.specs.Prelude.{ℕ, ◌<◌, ◌≤◌, Bool, not, List, ◌≡◌, length, get_or, drop, ltb, Option, Some, None, Ok}
use Rattle.std.proofs.Math.Bool.{true, false}
use Rattle.std.proofs.Math.Path.{refl}
use Rattle.std.proofs.Common.{◌∙◌, ap, arith, lt-ltb, le-ltb, ltb-false}
use Rattle.base_octets.specs.Choice.{split, impossible}
use Rattle.base_octets.specs.Every.{every, every_in}
use Rattle.base_octets.specs.Search.{first_of}
use Rattle.unit_plan.specs.declared.Plan.{Plan}
use Rattle.unit_plan.specs.Limits.{parties}
use Rattle.unit_sharing.specs.Sharing.{admits}
use Rattle.unit_session.specs.declared.Session.{Session}
use Rattle.unit_session.specs.Session.{is_free, has_id, freed}
use Rattle.unit_session.specs.Keep.{lighter_freed}
use Rattle.unit_table.specs.declared.Node.{Node}
use Rattle.unit_table.specs.Rules.{live_on, live, Rules, rules_of}
use Rattle.unit_table.specs.Change.{nobody, changed_at, changed_out, less_set, less_map, rules-freed}
use Rattle.unit_table.specs.Find.{found_in, found_is}
use Rattle.unit_table.specs.Open.{replaced}
use Rattle.unit_table.specs.Room.{free_place, place_free}
use Rattle.wire_header.specs.Header.{header_of}
use Rattle.wire_requests.specs.declared.Create as C
use Rattle.wire_requests.specs.declared.Request.TheVariants as Q
use Rattle.wire_requests.specs.Create.{create_of}
use Rattle.wire_requests.proofs.CreateLaws.{create_sound}
use Rattle.call_own.specs.Outcome.{least_reply, changing}
use Rattle.wire_header.specs.Types.{kind_by}
use Rattle.call_asked.specs.Asked.{kind_asked, request_asked, sound_asked, asked_of}
use Rattle.call_control.specs.Echoes.{restarts_by, heard_by, heard_either, heard_plan, heard-keeps}
use Rattle.call_control.specs.Creates.{opened_at, shared, is_repeat, settled_at, heard_create, create_places, create_taken}
use Rattle.call_control.specs.Control.{asked_taken, control_taken}
use Rattle.call_store.specs.Stored.{State, asks_store, control_stored}
use Rattle.call_store.specs.Laws.{control_unasked}
use Rattle.promise_demands.specs.Run.{Kept}
use Rattle.promise_demands.proofs.Run.{kept_table, kept_store}
use Rattle.promise_demands.specs.Bounds.{u}
use Rattle.promise_demands.specs.Creates.{heard, repeats, SoundCreate, NewCreate, table_asked, asked_u, accepted_of, refused_of}

-- ---- a Create comes to the sharing rule
pub none_found : (p : Session → Bool) (l : List Session) → found_in p l ≡ None → length l ≤ first_of p l
unfolding found_in
none_found p l e =
    split (ltb (first_of p l) (length l))
    (λ t. let f : Some (first_of p l) ≡ None = rw t at e in let z : ◌≡◌ {A = ℕ} 0 1 = cc in absurd (omega arith))
    (λ t. ltb-false (first_of p l) (length l) t)

not_repeat : (c : C.Create) (seq : ℕ) (s : Session) → not (repeats c seq s) ≡ true → has_id c.imsi c.ebi s ≡ true → is_repeat c seq s ≡ false
unfolding repeats
not_repeat c seq s n h = split (is_repeat c seq s) (λ q. impossible (rw (h, q) at n)) (λ q. q)

settled-shared : (c : C.Create) (seq : ℕ) (node : Node) (t : List Session) (node₀ : Node) (t₀ : List Session) (reply : List ℕ) (f : Option ℕ)
    → found_in (has_id c.imsi c.ebi) t ≡ f → every (λ x. not (repeats c seq x)) t ≡ true
    → settled_at f c seq node t node₀ t₀ reply ≡ shared c seq node (replaced c.imsi c.ebi t) node₀ t₀ reply
unfolding settled_at replaced
settled-shared c seq node t node₀ t₀ reply None e n =
    rw (changed_out freed (first_of (has_id c.imsi c.ebi) t) t (none_found (has_id c.imsi c.ebi) t e))
settled-shared c seq node t node₀ t₀ reply (Some i) e n =
    let g = found_is (has_id c.imsi c.ebi) t i e in
    let q = every_in (λ x. not (repeats c seq x)) t i nobody n g.0 in
    rw (not_repeat c seq (get_or t i nobody) q g.1.1, ← g.1.0)

-- ---- a Create does not ask the store, so that it comes to what it comes to without one
pub create_asks_not : (p : Plan) (d : List ℕ) (c : C.Create) → SoundCreate p d c → asks_store d ≡ false
unfolding asks_store header_of
create_asks_not p d c n = rw (n.header, n.kind)

pub create-stored : (p : Plan) (s : State) → Kept s → (d : List ℕ) (c : C.Create) → SoundCreate p d c → (reply : List ℕ)
    → (control_stored s.node s.table s.store d reply).call ≡ control_taken s.node s.table d reply
create-stored p s kept d c n reply =
    control_unasked s.node s.table s.store d reply (kept_store s kept) (create_asks_not p d c n)

module _ (p : Plan) (s : State) (kept : Kept s) (plan : s.node.plan ≡ p) (d : List ℕ) (c : C.Create) (n : NewCreate p s d c) (reply : List ℕ) (room : least_reply ≤ length reply) where
  abbrev seq : ℕ
  seq = (header_of d).sequence

  decoded : create_of s.node.plan (drop (header_of d).fields d) ≡ Ok (Q.Create c)
  decoded = rw plan n.sound.fields

  comes_to_lem : control_taken s.node s.table d reply
      ≡ changing (create_places c seq s.node s.table) (shared c seq (heard c s).node (table_asked c s) s.node s.table reply)
  unfolding control_taken asked_taken asked_of kind_asked kind_by request_asked sound_asked create_taken heard_create least_reply table_asked
  comes_to_lem =
      rw (le-ltb (length reply) least_reply room, kept_table s kept, n.sound.header, n.sound.kind, decoded)
      (ap (changing (create_places c seq s.node s.table))
      (settled-shared c seq (heard c s).node (heard c s).table s.node s.table reply (found_in (has_id c.imsi c.ebi) (heard c s).table) refl n.new))

  asked_plan : (heard c s).node.plan ≡ p
  asked_plan = heard_plan c.recovery s.node s.table ∙ plan

  asked_rules : Rules (heard c s).node.plan (heard c s).node.echo (heard c s).node.next (table_asked c s)
  unfolding table_asked replaced
  asked_rules =
      rules-freed (heard c s).node.plan (heard c s).node.echo (heard c s).node.next (heard c s).table
      (rules_of (heard c s).node (heard c s).table (heard-keeps s.node s.table (kept_table s kept) c.recovery)) (first_of (has_id c.imsi c.ebi) (heard c s).table)

  place_there : admits (heard c s).node.plan (live (table_asked c s)) c.point ≡ true → found_in is_free (table_asked c s) ≡ Some (free_place (table_asked c s))
  unfolding found_in free_place
  place_there f =
      rw (lt-ltb (first_of is_free (table_asked c s)) (length (table_asked c s))
      (place_free (heard c s).node.plan (heard c s).node.echo (heard c s).node.next (table_asked c s) asked_rules c.point f))

  pub place_in : admits p (asked_u c s) c.point ≡ true → free_place (table_asked c s) < length (table_asked c s)
  place_in e =
      let f : admits (heard c s).node.plan (live (table_asked c s)) c.point ≡ true = rw asked_plan e in
      place_free (heard c s).node.plan (heard c s).node.echo (heard c s).node.next (table_asked c s) asked_rules c.point f

  pub create-accepted : admits p (asked_u c s) c.point ≡ true
      → (control_stored s.node s.table s.store d reply).call ≡ accepted_of seq c s reply
  unfolding shared opened_at accepted_of
  create-accepted e =
      let f : admits (heard c s).node.plan (live (table_asked c s)) c.point ≡ true = rw asked_plan e in
      create-stored p s kept d c n.sound reply ∙ comes_to_lem ∙ rw (f, place_there f)

  pub create-refused : admits p (asked_u c s) c.point ≡ false
      → (control_stored s.node s.table s.store d reply).call ≡ refused_of seq c s reply
  unfolding shared refused_of
  create-refused e =
      let f : admits (heard c s).node.plan (live (table_asked c s)) c.point ≡ false = rw asked_plan e in
      create-stored p s kept d c n.sound reply ∙ comes_to_lem ∙ rw f

  -- the access point that it asks for is one of the plan's
  pub create-point : c.point < parties p
  create-point = (create_sound p (drop (header_of d).fields d) c n.sound.fields).point

-- ---- Recovery and the replaced session only take away
heard_less : (r : Option ℕ) (node : Node) (t : List Session) (a : ℕ) → live_on a (heard_by r node t).table ≤ live_on a t
heard_less r node t a =
    rw (heard_either r node t)
    (split (restarts_by r node) (λ q. rw q ((less_map freed t lighter_freed).ons a)) (λ q. rw q (omega arith)))

pub asked_less : (c : C.Create) (s : State) (a : ℕ) → asked_u c s a ≤ u s a
unfolding table_asked replaced changed_at
asked_less c s a =
    let l = (heard c s).table in
    let i = first_of (has_id c.imsi c.ebi) l in
    let x = (less_set l i (freed (get_or l i nobody)) nobody (lighter_freed (get_or l i nobody))).ons a in
    let y = heard_less c.recovery s.node s.table a in
    omega arith
