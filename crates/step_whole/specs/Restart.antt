-- A restart of the exchange frees all records, so nobody has an IMSI and EBI, the first place is free, and none counts. A Create then comes to the
-- same on the records as they were before as on the freed table.
-- Assumes nothing.
use Rattle.std.specs.Prelude.{ℕ, ◌≤◌, Bool, true, false, List, [], ◌∷◌, map, ◌≡◌, length, get_or, set, ltb}
use Rattle.std.proofs.Math.Path.{refl, sym, ap}
use Rattle.std.proofs.Common.{◌∙◌, arith, ltb-true, ltb-false}
use Rattle.std.proofs.Math.ListN.{get_or-eq_default}
use Rattle.std.proofs.lemmas.List.{length-map}
use Rattle.base_octets.specs.Choice.{split}
use Rattle.base_octets.specs.Places.{map_none, map_all, map_at}
use Rattle.base_octets.specs.Sums.{sum_of}
use Rattle.base_octets.specs.Search.{first_of}
use Rattle.unit_tunnel.specs.Numbering.{places}
use Rattle.unit_session.specs.declared.Session.{Session}
use Rattle.unit_session.specs.Session.{is_free, has_id, freed, opened}
use Rattle.unit_table.specs.declared.Node.{Node}
use Rattle.unit_table.specs.declared.Change.TheVariants as Ch
use Rattle.unit_table.specs.Rules.{keeps_rules, rules_of}
use Rattle.unit_table.specs.Change.{nobody}
use Rattle.unit_table.specs.Become.{changed_by}
use Rattle.unit_table.specs.Find.{found_in}
use Rattle.unit_table.specs.Open.{freed_none}
use Rattle.step_keys.specs.Survey.{weight_of}
use Rattle.wire_requests.specs.declared.Create as C
use Rattle.call_control.specs.Echoes.{restarts_by, heard_node, heard_by, heard-freed, stored_plan, heard_twice, heard-keeps}
use Rattle.call_own.specs.Outcome.{all_places, changing}
use Rattle.call_control.specs.Creates.{opening_of, settled_at, heard_create, opened_places}
use Rattle.step_control.specs.declared.Basis.{Basis}
use Rattle.step_control.specs.declared.Concerned.{Concerned}
use Rattle.step_control.specs.declared.Taken.{Taken}
use Rattle.step_control.specs.declared.Verdict.{Verdict}
use Rattle.step_control.specs.declared.Verdict.TheVariants as Y
use Rattle.step_control.specs.Step.{verdict_of, opens_at, concerned_of, concerned_with, TakenWith, unmoved_on, full_on, entered_on, open_by, open_on, node_after, freed_count, concerned_put, changed_places, placed_concerned}
use Rattle.step_control.specs.Places.{freed_free, freed_weight}
use Rattle.step_whole.specs.Create.{placed_two, opened-freed, settled_same}

-- ---- a table of which every record is freed
first_no : (p : Session → Bool) → ((s : Session) → p (freed s) ≡ false) → (l : List Session) → first_of p (map freed l) ≡ length l
unfolding first_of
first_no p h [] = refl
first_no p h (x ∷ l) = rw (h x, first_no p h l)

first_yes : (p : Session → Bool) → ((s : Session) → p (freed s) ≡ true) → (l : List Session) → first_of p (map freed l) ≡ 0
unfolding first_of
first_yes p h [] = refl
first_yes p h (x ∷ l) = rw (h x)

freed_sum : (l : List Session) → sum_of weight_of (map freed l) ≡ 0
unfolding sum_of
freed_sum [] = refl
freed_sum (x ∷ l) = rw (freed_weight x, freed_sum l)

-- ---- what is put back where none are freed first, and where all are
module _ (l : List Session) (p : Concerned) (o : Taken) where
  pub put_none : p.all ≡ false → concerned_put l p o ≡ set (set l p.old o.old) p.new o.new
  unfolding concerned_put freed_count
  put_none e = rw (e, map_none (changed_by Ch.Free) l)

  pub put_all : p.all ≡ true → length l ≤ places → concerned_put l p o ≡ set (set (map freed l) p.old o.old) p.new o.new
  unfolding concerned_put freed_count changed_by
  put_all e n = rw (e, map_all freed places l n)

module _ (node : Node) (l : List Session) (p : Concerned) (m : TakenWith) (e : m.answer.ended ≡ false) where
  pub placed_none : p.all ≡ false → placed_concerned node p l m ≡ placed_two node p l m
  unfolding placed_concerned placed_two node_after heard_node concerned_put changed_places
  placed_none a = rw (e, put_none l p m.answer a, a)

  placed_all : p.all ≡ true → length l ≤ places → heard_node m.answer.heard (heard_node m.answer.heard node) ≡ heard_node m.answer.heard node
      → placed_concerned node p l m ≡ changing all_places (placed_two (heard_node m.answer.heard node) p (map freed l) m)
  unfolding placed_concerned placed_two node_after heard_node concerned_put changed_places freed
  placed_all a n t = rw (e, put_all l p m.answer a n, t, a)

-- ---- a Create says nothing of the unit's own echo, and its Recovery is stored
module _ (c : C.Create) (seq : ℕ) (node : Node) (p : Concerned) (reply : List ℕ) where
  by_ended : (v : Verdict) → (open_by v c seq node p reply).answer.ended ≡ false
  unfolding open_by unmoved_on entered_on full_on
  by_ended Y.Still = refl
  by_ended (Y.Opens q) = refl
  by_ended Y.Full = refl

  by_heard : (v : Verdict) → (open_by v c seq node p reply).answer.heard ≡ c.recovery
  unfolding open_by unmoved_on entered_on full_on
  by_heard Y.Still = refl
  by_heard (Y.Opens q) = refl
  by_heard Y.Full = refl

  pub open_ended : (open_on c seq node p reply).answer.ended ≡ false
  unfolding open_on
  open_ended = by_ended p.verdict

  open_heard : (open_on c seq node p reply).answer.heard ≡ c.recovery
  unfolding open_on
  open_heard = by_heard p.verdict

-- ---- a Create after a restart
module _ (node : Node) (l : List Session) (k : keeps_rules node l ≡ true) (c : C.Create) (seq : ℕ) (again : restarts_by c.recovery node ≡ true)
    (g : Basis) (old : g.old ≡ places) (free : g.free ≡ 0) (counts : g.counts ≡ 0) (all : g.all ≡ true) (reply : List ℕ) where
  abbrev after : Node
  after = heard_node c.recovery node

  abbrev gone : List Session
  gone = map freed l

  size : length l ≡ places
  size = (rules_of node l k).size

  size_gone : length gone ≡ places
  size_gone = length-map l freed ∙ size

  kept_gone : keeps_rules after gone ≡ true
  kept_gone = rw (heard-freed c.recovery node l again) at (heard-keeps node l k c.recovery)

  past : (m : List Session) (q : ℕ) → length m ≡ places → places ≤ q → get_or m q nobody ≡ nobody
  past m q n h = get_or-eq_default m nobody (omega arith)

  -- the record that it is about is nobody's, before and after
  old_here : get_or l g.old nobody ≡ nobody
  old_here = past l g.old size (omega arith)

  old_gone : get_or gone g.old nobody ≡ nobody
  old_gone = past gone g.old size_gone (omega arith)

  abbrev verdict : Verdict
  verdict = verdict_of g node c seq (get_or l g.old nobody)

  verdict_same : verdict_of g after c seq (get_or gone g.old nobody) ≡ verdict
  unfolding verdict_of
  verdict_same = rw (old_gone, old_here, stored_plan c.recovery node)

  -- the record of a place, once it is opened
  opened_here : (q : ℕ) → opened (opening_of c seq) (get_or gone q nobody) ≡ opened (opening_of c seq) (get_or l q nobody)
  opened_here q =
      split (ltb q (length l))
      (λ e. rw (map_at freed l q nobody nobody (ltb-true q (length l) e)) (opened-freed (opening_of c seq) (get_or l q nobody)))
      (λ e. let h = ltb-false q (length l) e in
      let n = size in
      rw (past gone q size_gone (omega arith), past l q size (omega arith)))

  taken_by : (v : Verdict) → open_by v c seq after (concerned_with g gone v) reply ≡ open_by v c seq node (concerned_with g l v) reply
  unfolding open_by opens_at concerned_of unmoved_on entered_on full_on
  taken_by Y.Still = rw (old_gone, old_here, stored_plan c.recovery node, past gone places size_gone (omega arith), past l places size (omega arith))
  taken_by (Y.Opens q) = rw (old_gone, old_here, opened_here q, stored_plan c.recovery node)
  taken_by Y.Full = rw (old_gone, old_here, past gone places size_gone (omega arith), past l places size (omega arith))

  taken_same : (v : Verdict) → open_on c seq after (concerned_with g gone v) reply ≡ open_on c seq node (concerned_with g l v) reply
  unfolding open_on concerned_of
  taken_same v = taken_by v

  -- the places are those of the records before
  places_same : (v : Verdict) (m : TakenWith) → placed_two after (concerned_with g gone v) gone m ≡ placed_two after (concerned_with g l v) gone m
  unfolding placed_two concerned_of
  places_same v m = refl

  abbrev comes : TakenWith
  comes = open_on c seq node (concerned_with g l verdict) reply

  put_same : placed_concerned node (concerned_with g l verdict) l comes ≡ changing all_places (placed_two after (concerned_with g l verdict) gone comes)
  unfolding concerned_of
  put_same =
      let h = open_heard c seq node (concerned_with g l verdict) reply in
      let n = size in
      placed_all node l (concerned_with g l verdict) comes (open_ended c seq node (concerned_with g l verdict) reply) all (omega arith)
      (rw h (heard_twice c.recovery node))
      ∙ rw h

  settled-gone : changing (opened_places c seq after gone g.old) (settled_at (found_in (has_id c.imsi c.ebi) gone) c seq (heard_node c.recovery after) gone node l reply)
      ≡ placed_two after (concerned_with g gone (verdict_of g after c seq (get_or gone g.old nobody))) gone
      (open_on c seq after (concerned_with g gone (verdict_of g after c seq (get_or gone g.old nobody))) reply)
  settled-gone =
      settled_same after gone kept_gone c seq g
      (old ∙ sym size ∙ sym (first_no (has_id c.imsi c.ebi) (freed_none c.imsi c.ebi) l))
      (free ∙ sym (first_yes is_free freed_free l))
      (counts ∙ sym (freed_sum l))
      reply node l

  pub restart_same : changing all_places (heard_create c seq (heard_by c.recovery node l) node l reply) ≡ placed_concerned node (concerned_with g l verdict) l comes
  unfolding heard_create
  restart_same =
      rw (heard-freed c.recovery node l again)
      (ap (λ (x : Node). changing all_places (settled_at (found_in (has_id c.imsi c.ebi) gone) c seq x gone node l reply)) (sym (heard_twice c.recovery node))
      ∙ ap (changing all_places) settled-gone
      ∙ ap (λ (v : Verdict). changing all_places (placed_two after (concerned_with g gone v) gone (open_on c seq after (concerned_with g gone v) reply))) verdict_same
      ∙ ap (λ (m : TakenWith). changing all_places (placed_two after (concerned_with g gone verdict) gone m)) (taken_same verdict)
      ∙ ap (changing all_places) (places_same verdict comes)
      ∙ sym put_same)
