-- That what specs/Sent.antt says holds, and what that rests on.
-- Assumes nothing.
use Rattle.std.specs.Prelude.{ℕ, suc, ◌+◌, ◌%◌, ◌<◌, true, false, ◌&&◌, List, [], ◌∷◌, ◌++◌, ◌≡◌, refl, length, eqb, Some, None, Option}
use Rattle.std.proofs.Common.{append_assoc, sym, add-zero, add-suc, suc-add, arith, length-append, le-leb, ltb-true}
use Rattle.std.proofs.Math.Seq.{take-append_seam, drop-append-add}
use Rattle.base_octets.specs.Choice.{split, and_left, and_right}
use Rattle.base_octets.specs.Every.{every}
use Rattle.base_octets.specs.BigEndian.{number_of, octets_of, number_back}
use Rattle.wire_fields.specs.declared.Field.{Field}
use Rattle.wire_fields.specs.Walk.{found, part, fields_from, over_from, fields_of, overruns}
use Rattle.wire_fields.specs.Search.{find, first_in}
use Rattle.promise_demands.specs.Sent.{Sent, fits, sent_octets, first_sent, SentIsFound}

-- ---- the walk over the octets of fields: one field after the other
-- where the fields stand, from a place on
unfoldable laid : List Sent → ℕ → List Field
laid [] at = []
laid (f ∷ l) at =
    record { kind = f.kind; instance = f.fourth % 16; found = found (at + 4) (length f.value) } ∷ laid l (at + 4 + length f.value)

-- the octets before a value, and the length that they state
unfoldable before : Sent → List ℕ
before f = f.kind ∷ octets_of 2 (length f.value) ++ (f.fourth ∷ [])

stated : (n : ℕ) → n < 65536 → number_of (octets_of 2 n) ≡ n
stated n h = number_back 2 n h

skip_value : (v s : List ℕ) (at : ℕ) → fields_from (v ++ s) (length v) at ≡ fields_from s 0 (at + length v)
unfolding fields_from
skip_value [] s at = rw add-zero
skip_value (x ∷ v) s at = rw (add-suc, ← suc-add) (skip_value v s (suc at))

skip_over : (v s : List ℕ) → over_from (v ++ s) (length v) ≡ over_from s 0
unfolding over_from
skip_over [] s = refl
skip_over (x ∷ v) s = skip_over v s

fit : (f : Sent) → fits f ≡ true → length f.value < 65536
unfolding fits
fit f e = ltb-true (length f.value) 65536 e

fields_laid : (l : List Sent) (at : ℕ) → every fits l ≡ true → fields_from (sent_octets l) 0 at ≡ laid l at
unfolding fields_from sent_octets laid every octets_of
fields_laid [] at e = refl
fields_laid (f ∷ l) at e =
    let n = stated (length f.value) (fit f (and_left (fits f) (every fits l) e)) in
    let t = le-leb (length f.value) (length (f.value ++ sent_octets l)) (simp length-append (omega arith)) in
    rw (n, t, skip_value f.value (sent_octets l) (at + 4), fields_laid l (at + 4 + length f.value) (and_right (fits f) (every fits l) e))

over-laid : (l : List Sent) → every fits l ≡ true → over_from (sent_octets l) 0 ≡ false
unfolding over_from sent_octets every octets_of
over-laid [] e = refl
over-laid (f ∷ l) e =
    let n = stated (length f.value) (fit f (and_left (fits f) (every fits l) e)) in
    rw (n, skip_over f.value (sent_octets l)) (over-laid l (and_right (fits f) (every fits l) e))

-- ---- the search: what is first in the list is found, behind whatever stands before the list
record Lies (front : List ℕ) (l : List Sent) (kind inst : ℕ) (v : List ℕ) : Type 0 where
  pub start : ℕ
  pub found : first_in (laid l (length front)) kind inst ≡ Some (record { start = start; size = length v })
  pub octets : part (front ++ sent_octets l) start (length v) ≡ v

none_not : {A : Type 0} (v : List ℕ) → ◌≡◌ {A = Option (List ℕ)} None (Some v) → A
none_not v e = let z : ◌≡◌ {A = ℕ} 0 1 = cc in absurd (omega arith)

-- the octets in front and those of the first field, as one front
past : (front : List ℕ) (f : Sent) (l : List Sent) → (front ++ (before f ++ f.value)) ++ sent_octets l ≡ front ++ sent_octets (f ∷ l)
unfolding sent_octets before octets_of
past front f l = simp append_assoc

past_length : (front : List ℕ) (f : Sent) → length (front ++ (before f ++ f.value)) ≡ length front + 4 + length f.value
unfolding before octets_of
past_length front f = simp length-append (omega arith)

value_there : (front : List ℕ) (f : Sent) (l : List Sent) → part (front ++ sent_octets (f ∷ l)) (length front + 4) (length f.value) ≡ f.value
unfolding sent_octets octets_of
value_there front f l = rw (drop-append-add front (sent_octets (f ∷ l)) 4) (take-append_seam f.value (sent_octets l))

lies : (l : List Sent) (front : List ℕ) (kind inst : ℕ) (v : List ℕ) → first_sent l kind inst ≡ Some v → Lies front l kind inst v
unfolding first_sent first_in laid
lies [] front kind inst v e = none_not v e
lies (f ∷ l) front kind inst v e = split (eqb f.kind kind && eqb (f.fourth % 16) inst) here (later (λ g h. lies l g kind inst v h))
  where
    here : (eqb f.kind kind && eqb (f.fourth % 16) inst) ≡ true → Lies front (f ∷ l) kind inst v
    here t =
        let g : Some f.value ≡ Some v = rw t at e in
        let k : f.value ≡ v = cc in
        record {
          start = length front + 4;
          found = rw (t, k);
          octets = rw (← k) (value_there front f l);
        }

    later : ((g : List ℕ) → first_sent l kind inst ≡ Some v → Lies g l kind inst v) → (eqb f.kind kind && eqb (f.fourth % 16) inst) ≡ false
        → Lies front (f ∷ l) kind inst v
    later r t =
        let g : first_sent l kind inst ≡ Some v = rw t at e in
        let q = r (front ++ (before f ++ f.value)) g in
        record {
          start = q.start;
          found = rw (t, ← past_length front f) q.found;
          octets = rw (← past front f l) q.octets;
        }

first-lacks : (l : List Sent) (at kind inst : ℕ) → first_sent l kind inst ≡ None → first_in (laid l at) kind inst ≡ None
unfolding first_sent first_in laid
first-lacks [] at kind inst e = refl
first-lacks (f ∷ l) at kind inst e =
    split (eqb f.kind kind && eqb (f.fourth % 16) inst)
    (λ t. none_not f.value (sym (rw t at e)))
    (λ t. rw t (first-lacks l (at + 4 + length f.value) kind inst (rw t at e)))

pub sent_is_found : SentIsFound
unfolding SentIsFound find fields_of overruns
sent_is_found l e = record {
  whole = over-laid l e;
  held = λ kind inst v h.
      let q = lies l [] kind inst v h in
      record { start = q.start; found = rw (fields_laid l 0 e) q.found; octets = q.octets };
  missing = λ kind inst h. rw (fields_laid l 0 e) (first-lacks l 0 kind inst h);
}
