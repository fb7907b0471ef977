-- The field that counts: of equal type and instance the first. Unknown fields are skipped, and a known type of another instance
-- is an unknown field.
-- Assumes nothing.
use Rattle.std.specs.Prelude.{ℕ, zero, suc, ◌+◌, ◌%◌, ◌≤◌, Bool, true, false, ◌&&◌, List, [], ◌∷◌, ◌++◌, ◌≡◌, refl, length, take, drop, get_or, eqb, leb, Option, Some, None}
use Rattle.std.proofs.Common.{ap, ◌∙◌, suc-add, arith, length-append, eqb-true}
use Rattle.base_octets.specs.Choice.{pick, split, and_left, and_right, tests}
use Rattle.base_octets.specs.BigEndian.{number_of}
use Rattle.wire_fields.specs.Walk.{Field, found, part, fields_from, fields_of, fields_at, size_at, fields_start, fields_next}
use Rattle.wire_fields.specs.declared.Found.{Found}

-- whether a field is of a type and an instance
unfoldable pub named : Field → ℕ → ℕ → Bool
named f kind inst = eqb f.kind kind && eqb f.instance inst

unfoldable pub first_in : List Field → ℕ → ℕ → Option Found
first_in [] kind inst = None
first_in (f ∷ l) kind inst = pick (eqb f.kind kind && eqb f.instance inst) (Some f.found) (first_in l kind inst)

unfoldable pub find : List ℕ → ℕ → ℕ → Option Found
find s kind inst = first_in (fields_of s) kind inst

-- ---- a search in the words of a walk
pub find_start : (s : List ℕ) (kind inst : ℕ) → find s kind inst ≡ first_in (fields_at s 0) kind inst
unfolding find
find_start s kind inst = rw (fields_start s)

-- the whole field at place p
abbrev pub whole_at : List ℕ → ℕ → Field
whole_at s p = record { kind = get_or s p 0; instance = get_or s (p + 3) 0 % 16; found = found (p + 4) (size_at s p) }

module _ (s : List ℕ) (p kind inst : ℕ) where
  pub first_none : fields_at s p ≡ [] → first_in (fields_at s p) kind inst ≡ None
  unfolding first_in
  first_none e = rw e

  pub first_here : p + 4 ≤ length s → p + 4 + size_at s p ≤ length s → named (whole_at s p) kind inst ≡ true
      → first_in (fields_at s p) kind inst ≡ Some (found (p + 4) (size_at s p))
  unfolding first_in named
  first_here h g e = rw (fields_next s p h g, e)

  pub first-later : p + 4 ≤ length s → p + 4 + size_at s p ≤ length s → named (whole_at s p) kind inst ≡ false
      → first_in (fields_at s p) kind inst ≡ first_in (fields_at s (p + 4 + size_at s p)) kind inst
  unfolding first_in named
  first-later h g e = rw (fields_next s p h g, e)

-- ---- what is found stands there: type, length, instance, and behind them the value, whole
pub record Stands (l : List ℕ) (at kind inst start size : ℕ) : Type 0 where
  pub front : List ℕ
  pub high : ℕ
  pub low : ℕ
  pub fourth : ℕ
  pub back : List ℕ
  pub octets : l ≡ front ++ (kind ∷ high ∷ low ∷ fourth ∷ back)
  pub place : at + length front + 4 ≡ start
  pub stated : number_of (high ∷ low ∷ []) ≡ size
  pub instance : fourth % 16 ≡ inst
  pub whole : size ≤ length back

never : {A : Type 0} → ◌≡◌ {A = ℕ} 0 1 → A
never z = absurd (omega arith)

stands_later : (x : ℕ) (l : List ℕ) (at kind inst a n : ℕ) → Stands l (suc at) kind inst a n → Stands (x ∷ l) at kind inst a n
stands_later x l at kind inst a n r =
    record {
      front = x ∷ r.front;
      high = r.high;
      low = r.low;
      fourth = r.fourth;
      back = r.back;
      octets = ap (λ (m : List ℕ). x ∷ m) r.octets;
      place = let p = r.place in omega arith;
      stated = r.stated;
      instance = r.instance;
      whole = r.whole;
    }

first_stands : (l : List ℕ) (skip at kind inst : ℕ) (f : Found) → first_in (fields_from l skip at) kind inst ≡ Some f → Stands l at kind inst f.start f.size
unfolding first_in fields_from
first_stands [] skip at kind inst f e = never (cc)
first_stands (x ∷ l) (suc skip) at kind inst f e = stands_later x l at kind inst f.start f.size (first_stands l skip (suc at) kind inst f e)
first_stands (t ∷ []) zero at kind inst f e = never (cc)
first_stands (t ∷ x ∷ []) zero at kind inst f e = never (cc)
first_stands (t ∷ x ∷ y ∷ []) zero at kind inst f e = never (cc)
first_stands (t ∷ x ∷ y ∷ i ∷ l) zero at kind inst f e =
    split (leb (number_of (x ∷ y ∷ [])) (length l))
    (λ h. split (eqb t kind && eqb (i % 16) inst) (here h) (later h (λ g. first_stands l (number_of (x ∷ y ∷ [])) (at + 4) kind inst f g)))
    (λ h. let g : None ≡ Some f = rw h at e in never (cc))
  where
    here : leb (number_of (x ∷ y ∷ [])) (length l) ≡ true → (eqb t kind && eqb (i % 16) inst) ≡ true → Stands (t ∷ x ∷ y ∷ i ∷ l) at kind inst f.start f.size
    here h k =
        let g : Some (found (at + 4) (number_of (x ∷ y ∷ []))) ≡ Some f = rw (h, k) at e in
        let ea : at + 4 ≡ f.start = cc in
        let en : number_of (x ∷ y ∷ []) ≡ f.size = cc in
        let ek : t ≡ kind = eqb-true t kind (and_left (eqb t kind) (eqb (i % 16) inst) k) in
        record {
          front = [];
          high = x;
          low = y;
          fourth = i;
          back = l;
          octets = rw ek;
          place = omega arith;
          stated = en;
          instance = eqb-true (i % 16) inst (and_right (eqb t kind) (eqb (i % 16) inst) k);
          whole = omega (arith, tests);
        }

    later : leb (number_of (x ∷ y ∷ [])) (length l) ≡ true → (first_in (fields_from l (number_of (x ∷ y ∷ [])) (at + 4)) kind inst ≡ Some f → Stands l (at + 4) kind inst f.start f.size)
        → (eqb t kind && eqb (i % 16) inst) ≡ false → Stands (t ∷ x ∷ y ∷ i ∷ l) at kind inst f.start f.size
    later h r k =
        let g : first_in (fields_from l (number_of (x ∷ y ∷ [])) (at + 4)) kind inst ≡ Some f = rw (h, k) at e in
        let q : at + 4 ≡ suc (suc (suc (suc at))) = omega arith in
        let d : Stands l (suc (suc (suc (suc at)))) kind inst f.start f.size = rw q at (r g) in
        stands_later t (x ∷ y ∷ i ∷ l) at kind inst f.start f.size
        (stands_later x (y ∷ i ∷ l) (suc at) kind inst f.start f.size
        (stands_later y (i ∷ l) (suc (suc at)) kind inst f.start f.size
        (stands_later i l (suc (suc (suc at))) kind inst f.start f.size d)))

pub find_stands : (s : List ℕ) (kind inst : ℕ) (f : Found) → find s kind inst ≡ Some f → Stands s 0 kind inst f.start f.size
unfolding find fields_of
find_stands s kind inst f e = first_stands s 0 0 kind inst f e

-- so the value lies within the octets
pub find_within : (s : List ℕ) (kind inst : ℕ) (f : Found) → find s kind inst ≡ Some f → f.start + f.size ≤ length s
find_within s kind inst f e =
    let r = find_stands s kind inst f e in
    let l : length s ≡ length r.front + suc (suc (suc (suc (length r.back)))) = ap length r.octets ∙ simp length-append in
    omega arith

behind-front : (front : List ℕ) (k x y i : ℕ) (back : List ℕ) → drop (length front + 4) (front ++ (k ∷ x ∷ y ∷ i ∷ back)) ≡ back
behind-front [] k x y i back = refl
behind-front (f ∷ front) k x y i back = rw suc-add (behind-front front k x y i back)

behind : (front : List ℕ) (k x y i : ℕ) (back s : List ℕ) (a : ℕ) → s ≡ front ++ (k ∷ x ∷ y ∷ i ∷ back) → 0 + length front + 4 ≡ a → drop a s ≡ back
behind front k x y i back s a e p = let q : a ≡ length front + 4 = omega arith in rw (q, e) (behind-front front k x y i back)

-- and what is handed on are those octets, no other
pub find_value : (s : List ℕ) (kind inst : ℕ) (f : Found) (e : find s kind inst ≡ Some f) → part s f.start f.size ≡ take f.size (find_stands s kind inst f e).back
find_value s kind inst f e =
    let r = find_stands s kind inst f e in
    ap (take f.size) (behind r.front kind r.high r.low r.fourth r.back s f.start r.octets r.place)
