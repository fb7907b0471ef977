-- A Create comes to the same on two records as on the whole table, whatever records were lent.
-- Assumes nothing.
use Rattle.std.specs.Prelude.{ℕ, ◌<◌, ◌≤◌, true, false, ◌≡◌, refl, length, get_or, set, eqb, ltb, Some, None}
use mathlib.Core.List.{List}
use Rattle.std.proofs.Common.{sym, ◌∙◌, arith, get_or-set_same, get_or-set_other}
use Rattle.std.proofs.Math.Path.{ap}
use Rattle.std.proofs.Math.ListN.{length-set}
use Rattle.std.proofs.lemmas.List.{set-get_or}
use Rattle.std.proofs.Math.Seq.{set_out}
use borrow.Author.Tests.{eqb-true, eqb-false, lt-ltb, le-ltb, ltb-true, ltb-false}
use Rattle.base_octets.specs.Choice.{pick, split}
use Rattle.base_octets.specs.Sums.{sum_of}
use Rattle.base_octets.specs.Search.{first_of, first_most}
use Rattle.unit_tunnel.specs.Numbering.{places}
use Rattle.unit_sharing.specs.Sharing.{admits}
use Rattle.unit_session.specs.declared.Session.{Session}
use Rattle.unit_session.specs.declared.Opening.{Opening}
use Rattle.unit_session.specs.Session.{is_free, has_id, freed, opened, blank_at}
use Rattle.unit_table.specs.declared.Node.{Node}
use Rattle.unit_table.specs.Rules.{keeps_rules, Rules, rules_of, live}
use Rattle.unit_table.specs.Change.{nobody, changed_at, rules-freed, changed_out}
use Rattle.unit_table.specs.Find.{found_in}
use Rattle.unit_table.specs.Room.{free_place, place_free}
use Rattle.step_keys.specs.Survey.{weight_of}
use Rattle.unit_plan.specs.Plan.{parties_four}
use Rattle.wire_requests.specs.declared.Create as C
use Rattle.call_own.specs.declared.Span.{Span}
use Rattle.call_own.specs.Outcome.{Outcome, outcome, no_places, one_place, two_places, changing}
use Rattle.call_control.specs.Echoes.{heard_node, stored_plan}
use Rattle.wire_messages.specs.Types.{create_reply_type}
use Rattle.call_control.specs.Amends.{cause_taken}
use Rattle.call_control.specs.Creates.{opening_of, accepted_taken, no_room, opened_at, shared, is_repeat, settled_at, opened_places}
use Rattle.step_control.specs.declared.Basis.{Basis}
use Rattle.step_control.specs.declared.Concerned.{Concerned}
use Rattle.step_control.specs.declared.Verdict.{Verdict}
use Rattle.step_control.specs.declared.Verdict.TheVariants as Y
use Rattle.step_control.specs.Step.{repeats_at, room_for, verdict_of, opens_at, concerned_of, concerned_with, TakenWith, unmoved_on, full_on, entered_on, open_by, open_on}
use Rattle.step_control.specs.Places.{free_then, room_then}

-- the answer with the Recovery stored, and with the two records put back in their places
unfoldable pub placed_two : Node → Concerned → List Session → TakenWith → Outcome
placed_two node p l m = outcome
    (record { number = m.answer.number; size = m.answer.size; node = heard_node m.answer.heard node; span = m.answer.span })
    (set (set l p.old m.answer.old) p.new m.answer.new)
    m.reply

-- a record opened says nothing of what it was but its use
pub opened-freed : (o : Opening) (s : Session) → opened o (freed s) ≡ opened o s
unfolding opened freed blank_at
opened-freed o s = refl

opened_then : (o : Opening) (l : List Session) (p q : ℕ) → opened o (get_or (changed_at freed p l) q nobody) ≡ opened o (get_or l q nobody)
unfolding changed_at
opened_then o l p q = split (eqb p q)
    (λ e. let z = eqb-true p q e in rw (← z) same)
    (λ e. rw (get_or-set_other l p q (freed (get_or l p nobody)) nobody (λ z. eqb-false p q e (sym z))))
  where
    same : opened o (get_or (set l p (freed (get_or l p nobody))) p nobody) ≡ opened o (get_or l p nobody)
    same = split (ltb p (length l))
        (λ e. rw (get_or-set_same l p (freed (get_or l p nobody)) nobody (ltb-true p (length l) e)) (opened-freed o (get_or l p nobody)))
        (λ e. rw (set_out l p (freed (get_or l p nobody)) (ltb-false p (length l) e)))

-- both records put back as they were
pub stays : (l : List Session) (p q : ℕ) → set (set l p (get_or l p nobody)) q (get_or l q nobody) ≡ l
stays l p q = rw (set-get_or l p nobody) (set-get_or l q nobody)

-- ---- a Create, once Recovery is heard, on a table that keeps its rules; whatever was lent
module _ (node : Node) (l : List Session) (k : keeps_rules node l ≡ true) (c : C.Create) (seq : ℕ) (g : Basis)
    (old : g.old ≡ first_of (has_id c.imsi c.ebi) l) (free : g.free ≡ first_of is_free l)
    (counts : g.counts ≡ sum_of weight_of l) (reply : List ℕ) (node₀ : Node) (t₀ : List Session) where
  abbrev s : Session
  s = get_or l g.old nobody

  abbrev then' : List Session
  then' = changed_at freed g.old l

  abbrev after : Node
  after = heard_node c.recovery node

  abbrev verdict : Verdict
  verdict = verdict_of g node c seq s

  -- the two records by what is opened, and what that comes to
  abbrev concerned_at : Verdict → Concerned
  concerned_at v = concerned_with g l v

  abbrev comes : Verdict → Outcome
  comes v = placed_two node (concerned_at v) l (open_on c seq node (concerned_at v) reply)

  abbrev o : Opening
  o = opening_of c seq

  rules : Rules node.plan node.echo node.next l
  rules = rules_of node l k

  rules_then : Rules node.plan node.echo node.next then'
  rules_then = rules-freed node.plan node.echo node.next l rules g.old

  inside : g.old ≤ length l
  inside = rw old (first_most (has_id c.imsi c.ebi) l)

  room : room_for node.plan g.counts s c.point ≡ admits node.plan (live then') c.point
  room =
      let n = rules.size in
      rw counts (room_then l g.old inside (omega arith) node.plan c.point (parties_four node.plan rules.planned))

  -- ---- the three ways that it can go
  repeat_same : changing no_places (accepted_taken seq g.old s after l reply) ≡ comes Y.Still
  unfolding accepted_taken open_on open_by opens_at concerned_of unmoved_on placed_two
  repeat_same = rw (stays l g.old places, stored_plan c.recovery node)

  entered_same : (q : ℕ)
      → changing (two_places g.old q) (accepted_taken seq q (opened o (get_or then' q nobody)) after (changed_at (opened o) q then') reply) ≡ comes (Y.Opens q)
  unfolding accepted_taken open_on open_by opens_at concerned_of entered_on placed_two changed_at
  entered_same q = rw (opened_then o l g.old q, stored_plan c.recovery node)

  full_same : changing (one_place g.old) (cause_taken create_reply_type c.control seq no_room after then' reply) ≡ comes Y.Full
  unfolding cause_taken open_on open_by opens_at concerned_of full_on placed_two changed_at
  full_same =
      let n = rules.size in
      let m = length-set l g.old (freed s) in
      rw (set_out (set l g.old (freed s)) places (get_or l places nobody) (omega arith))

  -- ---- which way: the sharing rule, and the place
  verdict_repeat : repeats_at g.old c seq s ≡ true → verdict ≡ Y.Still
  unfolding verdict_of
  verdict_repeat r = rw r

  verdict_in_lem : repeats_at g.old c seq s ≡ false → admits node.plan (live then') c.point ≡ true → verdict ≡ Y.Opens (first_of is_free then')
  unfolding verdict_of
  verdict_in_lem r a = rw (r, room ∙ a, free) (ap (λ (q : ℕ). Y.Opens q) (sym (free_then l g.old inside)))

  verdict_out : repeats_at g.old c seq s ≡ false → admits node.plan (live then') c.point ≡ false → verdict ≡ Y.Full
  unfolding verdict_of
  verdict_out r a = rw (r, room ∙ a)

  place_in : admits node.plan (live then') c.point ≡ true → first_of is_free then' < length then'
  unfolding free_place
  place_in a = place_free node.plan node.echo node.next then' rules_then c.point a

  shared_in : admits node.plan (live then') c.point ≡ true
      → shared c seq after then' node₀ t₀ reply
      ≡ accepted_taken seq (first_of is_free then') (opened o (get_or then' (first_of is_free then') nobody)) after
      (changed_at (opened o) (first_of is_free then') then') reply
  unfolding shared opened_at found_in
  shared_in a = rw (stored_plan c.recovery node, a, lt-ltb (first_of is_free then') (length then') (place_in a))

  shared_out : admits node.plan (live then') c.point ≡ false
      → shared c seq after then' node₀ t₀ reply ≡ cause_taken create_reply_type c.control seq no_room after then' reply
  unfolding shared
  shared_out a = rw (stored_plan c.recovery node, a)

  -- the places where it is no repeat
  abbrev spread : Span
  spread = pick (admits node.plan (live then') c.point) (two_places g.old (first_of is_free then')) (one_place g.old)

  shared_same : repeats_at g.old c seq s ≡ false → changing spread (shared c seq after then' node₀ t₀ reply) ≡ comes verdict
  shared_same r = split (admits node.plan (live then') c.point)
      (λ a. rw a (ap (changing (two_places g.old (first_of is_free then'))) (shared_in a) ∙ entered_same (first_of is_free then') ∙ ap (λ (v : Verdict). comes v) (sym (verdict_in_lem r a))))
      (λ a. rw a (ap (changing (one_place g.old)) (shared_out a) ∙ full_same ∙ ap (λ (v : Verdict). comes v) (sym (verdict_out r a))))

  -- ---- whether there is such a session
  met : ltb g.old (length l) ≡ true → repeats_at g.old c seq s ≡ is_repeat c seq s
  unfolding repeats_at
  met e = let n = rules.size in let h = ltb-true g.old (length l) e in rw (lt-ltb g.old places (omega arith))

  unmet : ltb g.old (length l) ≡ false → repeats_at g.old c seq s ≡ false
  unfolding repeats_at
  unmet e = let n = rules.size in let h = ltb-false g.old (length l) e in rw (le-ltb g.old places (omega arith))

  found_at : ltb g.old (length l) ≡ true → found_in (has_id c.imsi c.ebi) l ≡ Some g.old
  unfolding found_in
  found_at e = rw (← old, e)

  found_no : ltb g.old (length l) ≡ false → found_in (has_id c.imsi c.ebi) l ≡ None
  unfolding found_in
  found_no e = rw (← old, e)

  pub settled_same : changing (opened_places c seq node l g.old) (settled_at (found_in (has_id c.imsi c.ebi) l) c seq after l node₀ t₀ reply) ≡ comes verdict
  unfolding settled_at opened_places
  settled_same = split (ltb g.old (length l))
      (λ e. rw (found_at e, e)
      (split (is_repeat c seq s)
      (λ r. let t = met e ∙ r in rw r (repeat_same ∙ ap (λ (v : Verdict). comes v) (sym (verdict_repeat t))))
      (λ r. rw r (shared_same (met e ∙ r)))))
      (λ e. rw (found_no e, e)
      (ap (λ (x : List Session). changing spread (shared c seq after x node₀ t₀ reply))
      (sym (changed_out freed g.old l (ltb-false g.old (length l) e)))
      ∙ shared_same (unmet e)))
