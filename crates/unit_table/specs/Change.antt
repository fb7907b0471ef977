-- A change of one record or of all, and what only takes away keeps every rule: proved once, for freeing, closing, moving, ticking,
-- Recovery and giving up alike.
-- Assumes nothing.
use Rattle.std.specs.Prelude.{◌≡◌, ℕ, ◌<◌, ◌≤◌, true, ◌≢◌, List, map, length, get_or, ◌==◌, slice_index_or, slice_set}
use Rattle.std.proofs.Common.{◌∙◌, arith, eqb-true}
use Rattle.std.proofs.Math.ListN.{length-set}
use Rattle.std.proofs.lemmas.List.{length-map}
use Rattle.std.proofs.Math.Seq.{set_out, get_or-set_same, get_or-set_other}
use Rattle.std.proofs.lemmas.Bool.{eqb-false}
use mir.Val.{bool_byte}
use Rattle.base_octets.specs.Choice.{split}
use Rattle.base_octets.specs.Every.{every, every-at, every_set, every_map}
use Rattle.base_octets.specs.Places.{any_default}
use Rattle.base_octets.specs.Sums.{count_of, sum_set_most, sum_map_most}
use Rattle.unit_plan.specs.declared.Plan.{Plan}
use Rattle.unit_plan.specs.Limits.{parties}
use Rattle.unit_sharing.specs.Sharing.{guarantee_at, ceiling_at, within_less}
use Rattle.unit_session.specs.declared.OwnRequest.{OwnRequest}
use Rattle.unit_session.specs.declared.Session.{Session}
use Rattle.unit_session.specs.Session.{is_on, has_id, waits_for, record_ok, blank_at, freed, ticked}
use Rattle.unit_session.specs.Keep.{Lighter, ok_blank, ok_freed, ok_ticked, lighter_freed, lighter_ticked}
use Rattle.unit_table.specs.Rules.{live_on, live, bounds_of, Rules}

-- a record that nobody ever took; what is read of a place that there is not
abbrev pub nobody : Session
nobody = blank_at 0

-- one record changed, every other as it was; a place that there is not changes nothing
unfoldable pub changed_at : (Session → Session) → ℕ → List Session → List Session
changed_at f i l = slice_set l i (f (slice_index_or l i nobody))

-- ---- laws of one change
module _ (f : Session → Session) (i : ℕ) (l : List Session) where
  pub length_changed : length (changed_at f i l) ≡ length l
  unfolding changed_at
  length_changed = length-set l i (f (slice_index_or l i nobody))

  pub changed_out : length l ≤ i → changed_at f i l ≡ l
  unfolding changed_at
  changed_out h = set_out l i (f (slice_index_or l i nobody)) h

  pub changed_here : (d : Session) → i < length l → slice_index_or (changed_at f i l) i d ≡ f (slice_index_or l i d)
  unfolding changed_at
  changed_here d h = get_or-set_same l i (f (slice_index_or l i nobody)) d h ∙ rw (any_default l i nobody d h)

  pub changed_other : (j : ℕ) (d : Session) → j ≢ i → slice_index_or (changed_at f i l) j d ≡ slice_index_or l j d
  unfolding changed_at
  changed_other j d n = get_or-set_other l i j (f (slice_index_or l i nobody)) d n

-- what is at a place is as it was, or changed if it is that one
pub at_changed : (P : Session → Type 0) (f : Session → Session) (l : List Session) (i j : ℕ) → i < length l
    → P (slice_index_or l i nobody) → (i ≡ j → P (f (slice_index_or l i nobody))) → P (slice_index_or (changed_at f j l) i nobody)
at_changed P f l i j h a b =
    split (i == j)
    (λ t. let e = eqb-true i j t in
    let q : get_or (changed_at f j l) i nobody ≡ f (slice_index_or l i nobody) = rw (← e) (changed_here f i l nobody h) in
    rw q (b e))
    (λ t. rw (changed_other f j l i nobody (eqb-false i j t)) a)

-- ---- fewer of everything
pub record Less (m l : List Session) : Type 0 where
  pub ons : (a : ℕ) → live_on a m ≤ live_on a l
  pub ids : (imsi ebi : ℕ) → count_of (has_id imsi ebi) m ≤ count_of (has_id imsi ebi) l
  pub waits : (k : ℕ) → count_of (waits_for k) m ≤ count_of (waits_for k) l

pub less_set : (l : List Session) (i : ℕ) (s d : Session) → Lighter s (slice_index_or l i d) → Less (slice_set l i s) l
unfolding live_on
less_set l i s d w = record {
  ons = λ a. sum_set_most (λ x. bool_byte (is_on a x)) l i s d (w.ons a);
  ids = λ m e. sum_set_most (λ x. bool_byte (has_id m e x)) l i s d (w.ids m e);
  waits = λ k. sum_set_most (λ x. bool_byte (waits_for k x)) l i s d (w.waits k);
}

pub less_map : (f : Session → Session) (l : List Session) → ((s : Session) → Lighter (f s) s) → Less (map f l) l
unfolding live_on
less_map f l w = record {
  ons = λ a. sum_map_most (λ x. bool_byte (is_on a x)) f l (λ s. (w s).ons a);
  ids = λ m e. sum_map_most (λ x. bool_byte (has_id m e x)) f l (λ s. (w s).ids m e);
  waits = λ k. sum_map_most (λ x. bool_byte (waits_for k x)) f l (λ s. (w s).waits k);
}

-- ---- what keeps the rules
module _ (p : Plan) (echo : OwnRequest) (next : ℕ) (l : List Session) (r : Rules p echo next l) where
  pub rules_less : (m : List Session) → length m ≡ length l → every (record_ok (bounds_of p)) m ≡ true → Less m l → Rules p echo next m
  rules_less m n e w = record {
    planned = r.planned;
    size = n ∙ r.size;
    each = e;
    once = λ i b. let a = r.once i b in let d = w.ids i b in omega arith;
    within = within_less (parties p) (guarantee_at p) (ceiling_at p) (live l) (live m) (λ a h. w.ons a) r.within;
    echoes = r.echoes;
    counted = r.counted;
    waits = λ k. let a = r.waits k in let d = w.waits k in omega arith;
  }

  -- the record of any place keeps its rules
  pub record_ok_lem : (i : ℕ) → record_ok (bounds_of p) (slice_index_or l i nobody) ≡ true
  record_ok_lem i = every-at (record_ok (bounds_of p)) l i nobody r.each (ok_blank (bounds_of p) 0 (omega arith))

  -- one record put in the place of another that weighs as much or more
  pub rules-set : (i : ℕ) (s : Session) → record_ok (bounds_of p) s ≡ true → Lighter s (slice_index_or l i nobody) → Rules p echo next (slice_set l i s)
  rules-set i s e w =
      rules_less (slice_set l i s) (length-set l i s) (every_set (record_ok (bounds_of p)) l i s r.each e) (less_set l i s nobody w)

  pub rules-map : (f : Session → Session) → ((s : Session) → record_ok (bounds_of p) s ≡ true → record_ok (bounds_of p) (f s) ≡ true)
      → ((s : Session) → Lighter (f s) s) → Rules p echo next (map f l)
  rules-map f e w = rules_less (map f l) (length-map l f) (every_map (record_ok (bounds_of p)) f l e r.each) (less_map f l w)

  pub rules-freed : (i : ℕ) → Rules p echo next (changed_at freed i l)
  unfolding changed_at
  rules-freed i = rules-set i (freed (slice_index_or l i nobody)) (ok_freed (bounds_of p) (slice_index_or l i nobody) (record_ok_lem i)) (lighter_freed (slice_index_or l i nobody))

  pub rules_all_freed : Rules p echo next (map freed l)
  rules_all_freed = rules-map freed (λ s e. ok_freed (bounds_of p) s e) lighter_freed

  pub rules-ticked : Rules p echo next (map (ticked p.sends) l)
  unfolding bounds_of
  rules-ticked = rules-map (ticked p.sends) (λ s e. ok_ticked (bounds_of p) s e) (λ s. lighter_ticked s p.sends)
