-- Finding: the place of the session that has something, or none. By tunnel number a session is found by the number of its place in
-- its present use, by address by that of its place; that both are arithmetic is a law, not the definition.
-- Assumes nothing.
use Rattle.std.specs.Prelude.{◌≡◌, ℕ, zero, suc, ◌+◌, ◌<◌, ◌≤◌, Bool, true, false, not, ◌&&◌, ltb, leb, List, [], ◌∷◌, length, get_or, drop, ◌==◌, nat_eq, nat_le, nat_lt, slice_index_or, refl, Option, Some, None}
use Rattle.std.proofs.Math.Path.{sym}
use Rattle.std.proofs.Common.{◌∙◌, arith}
use Rattle.std.proofs.Math.ListN.{get_or-eq_default}
use mir.Val.{bool_byte}
use borrow.Author.Tests.{not-true, eqb-true, eq-eqb, leb-true, le-leb, lt-ltb, le-ltb, ltb-true, ltb-false}
use Rattle.base_octets.specs.Choice.{pick, split, impossible, and_left, and_right, tests}
use Rattle.base_octets.specs.Search.{first_of, first_passes}
use Rattle.base_octets.specs.Sums.{count_of, sum_holds_two}
use Rattle.unit_tunnel.specs.Numbering.{places, base, control_offset, user_offset, control_fits, user_fits}
use Rattle.unit_tunnel.specs.declared.Holder.{Holder}
use Rattle.unit_tunnel.specs.Tunnel.{number_at, held_at, holder_of, number_holder, held_same, holder_held}
use Rattle.unit_plan.specs.Address.{address_of, place_of, place_of_address, address_of_place}
use Rattle.unit_session.specs.declared.Session.{Session}
use Rattle.unit_session.specs.Session.{is_free, blank_at}
use Rattle.unit_table.specs.Change.{nobody}

-- ---- by what a record says
-- the lowest place that passes
unfoldable pub found_in : (Session → Bool) → List Session → Option ℕ
found_in p l = pick (nat_lt (first_of p l) (length l)) (Some (first_of p l)) None

-- ---- by its place and what the record there says: the lowest from place i on that passes
unfoldable pub first_from : (ℕ → Session → Bool) → ℕ → List Session → Option ℕ
first_from p i [] = None
first_from p i (s ∷ l) = pick (p i s) (Some i) (first_from p (suc i) l)

-- by tunnel number: the session at place i, live or closing, is in that very use; a use of 0 has no numbers
unfoldable pub bears : ℕ → ℕ → ℕ → Session → Bool
bears offset n i s = not (is_free s) && nat_le 1 s.usage && number_at offset s.usage i == n

unfoldable pub owner_of : ℕ → ℕ → List Session → Option ℕ
owner_of offset n l = first_from (bears offset n) 0 l

-- by address: the session at place i, live or closing, has it
unfoldable pub dwells : ℕ → ℕ → ℕ → Session → Bool
dwells pool a i s = not (is_free s) && address_of pool i == a

unfoldable pub addressee_of : ℕ → ℕ → List Session → Option ℕ
addressee_of pool a l = first_from (dwells pool a) 0 l

-- whether a record is taken, and in this use
abbrev pub taken_in : Session → ℕ → Bool
taken_in s usage = not (is_free s) && s.usage == usage

-- whoever holds the number by its arithmetic, if the place is there, is taken, and is in that use
unfoldable pub held_in : Option Holder → List Session → Option ℕ
held_in None l = None
held_in (Some h) l = pick (nat_lt h.place (length l) && taken_in (slice_index_or l h.place nobody) h.usage) (Some h.place) None

-- ---- the same from one record, for the kind of numbers that begins at an offset
-- the place that a holder names: one that there is not, where there is no holder
unfoldable pub named_place : Option Holder → ℕ
named_place None = places
named_place (Some h) = h.place

unfoldable pub place_named : ℕ → ℕ → ℕ
place_named offset teid = named_place (holder_of offset teid)

abbrev pub control_place : ℕ → ℕ
control_place teid = place_named control_offset teid

abbrev pub user_place : ℕ → ℕ
user_place teid = place_named user_offset teid

unfoldable pub owned_by : Option Holder → Session → Bool
owned_by None s = false
owned_by (Some h) s = taken_in s h.usage

unfoldable pub has_number : ℕ → Session → ℕ → Bool
has_number offset s teid = owned_by (holder_of offset teid) s

abbrev pub has_control : Session → ℕ → Bool
has_control s teid = has_number control_offset s teid

abbrev pub has_user : Session → ℕ → Bool
has_user s teid = has_number user_offset s teid

-- the place that was found, or one that there is not
unfoldable pub place_found : Option ℕ → List Session → ℕ
place_found (Some i) l = i
place_found None l = length l

-- ---- laws of the search
module _ (p : Session → Bool) (l : List Session) where
  module _ (i : ℕ) (came : first_of p l ≡ i + first_of p (drop i l)) where
    pub found_none : length l ≤ i → found_in p l ≡ None
    unfolding found_in
    found_none h = rw (le-ltb (first_of p l) (length l) (omega arith))

  -- what is found is there and passes
  pub found_is : (i : ℕ) → found_in p l ≡ Some i → (i < length l) × ((i ≡ first_of p l) × (p (slice_index_or l i nobody) ≡ true))
  unfolding found_in
  found_is i e = split (nat_lt (first_of p l) (length l)) there none
    where
      there : ltb (first_of p l) (length l) ≡ true → (i < length l) × ((i ≡ first_of p l) × (p (slice_index_or l i nobody) ≡ true))
      there t =
          let h = ltb-true (first_of p l) (length l) t in
          let f : Some (first_of p l) ≡ Some i = rw t at e in
          let k : first_of p l ≡ i = cc in
          (rw (← k) h, (sym k, rw (← k) (first_passes p l nobody h)))

      none : ltb (first_of p l) (length l) ≡ false → (i < length l) × ((i ≡ first_of p l) × (p (slice_index_or l i nobody) ≡ true))
      none t = let f : None ≡ Some i = rw t at e in let z : ◌≡◌ {A = ℕ} 0 1 = cc in absurd (omega arith)

-- where one passes at most, what passes is what is found
pub found_only : (p : Session → Bool) (l : List Session) (i j : ℕ) → count_of p l ≤ 1 → i < length l → j < length l
    → p (slice_index_or l i nobody) ≡ true → p (slice_index_or l j nobody) ≡ true → i ≡ j
found_only p l i j c h k e f =
    split (nat_lt i j)
    (λ t. let z = rw (e, f) at (sum_holds_two (λ x. bool_byte (p x)) l i j nobody (ltb-true i j t) k) in absurd (omega arith))
    (λ t. split (nat_lt j i)
    (λ u. let z = rw (e, f) at (sum_holds_two (λ x. bool_byte (p x)) l j i nobody (ltb-true j i u) h) in absurd (omega arith))
    (λ u. omega (arith, tests)))

-- ---- laws of the search by place
first_nowhere : (p : ℕ → Session → Bool) (i : ℕ) (l : List Session) → ((j : ℕ) → j < length l → p (i + j) (slice_index_or l j nobody) ≡ false) → first_from p i l ≡ None
unfolding first_from
first_nowhere p i [] h = refl
first_nowhere p i (s ∷ l) h =
    let z : i + 0 ≡ i = omega arith in
    let e : p i s ≡ false = rw z at (h 0 (omega arith)) in
    rw e (first_nowhere p (suc i) l (λ j q. let y : suc i + j ≡ i + suc j = omega arith in rw y (h (suc j) (omega arith))))

first_there : (p : ℕ → Session → Bool) (i k : ℕ) (l : List Session) → k < length l → p (i + k) (slice_index_or l k nobody) ≡ true
    → ((j : ℕ) → j < k → p (i + j) (slice_index_or l j nobody) ≡ false) → first_from p i l ≡ Some (i + k)
unfolding first_from
first_there p i k [] h e f = absurd (omega arith)
first_there p i zero (s ∷ l) h e f =
    let z : i + 0 ≡ i = omega arith in
    let b : p i s ≡ true = rw z at e in
    rw (b, z)
first_there p i (suc k) (s ∷ l) h e f =
    let z : i + 0 ≡ i = omega arith in
    let b : p i s ≡ false = rw z at (f 0 (omega arith)) in
    let y : i + suc k ≡ suc i + k = omega arith in
    rw (b, y) (first_there p (suc i) k l (omega arith) (rw y at e) (λ j q. let x : suc i + j ≡ i + suc j = omega arith in rw x (f (suc j) (omega arith))))

first_passing : (p : ℕ → Session → Bool) (i k : ℕ) (l : List Session) → first_from p i l ≡ Some k
    → (j : ℕ) × (k ≡ i + j) × (j < length l) × (p k (slice_index_or l j nobody) ≡ true)
unfolding first_from
first_passing p i k [] e = let z : ◌≡◌ {A = ℕ} 0 1 = cc in absurd (omega arith)
first_passing p i k (s ∷ l) e =
    split (p i s)
    (λ t. let f : Some i ≡ Some k = rw t at e in let g : i ≡ k = cc in (0, omega arith, omega arith, rw (← g) t))
    (λ t. let r = first_passing p (suc i) k l (rw t at e) in
    let h = r.1 in
    let q = r.2 in
    (suc r.0, omega arith, omega arith, r.3))

-- what is found is there and passes
pub first_is : (p : ℕ → Session → Bool) (k : ℕ) (l : List Session) → first_from p 0 l ≡ Some k → (k < length l) × (p k (slice_index_or l k nobody) ≡ true)
first_is p k l e =
    let r = first_passing p 0 k l e in
    let h = r.1 in
    let j : r.0 ≡ k = omega arith in
    (rw j at r.2, rw j at r.3)

-- where one place alone can pass, its record tells: what is found is that place if it passes, and nothing else is
pub first_only : (p : ℕ → Session → Bool) (l : List Session) (k : ℕ) → ((j : ℕ) → j < length l → p j (slice_index_or l j nobody) ≡ true → j ≡ k)
    → first_from p 0 l ≡ pick (nat_lt k (length l) && p k (slice_index_or l k nobody)) (Some k) None
first_only p l k only = split (nat_lt k (length l) && p k (slice_index_or l k nobody)) there none
  where
    zero_add : (j : ℕ) → 0 + j ≡ j
    zero_add j = omega arith

    there : (nat_lt k (length l) && p k (slice_index_or l k nobody)) ≡ true → first_from p 0 l ≡ pick (nat_lt k (length l) && p k (slice_index_or l k nobody)) (Some k) None
    there t =
        let h = ltb-true k (length l) (and_left (nat_lt k (length l)) (p k (slice_index_or l k nobody)) t) in
        let e = and_right (nat_lt k (length l)) (p k (slice_index_or l k nobody)) t in
        rw t (first_there p 0 k l h (rw (zero_add k) e)
        (λ j q. rw (zero_add j) (split (p j (slice_index_or l j nobody)) (λ y. let w = only j (omega arith) y in absurd (omega arith)) (λ y. y)))
        ∙ rw (zero_add k))

    none : (nat_lt k (length l) && p k (slice_index_or l k nobody)) ≡ false → first_from p 0 l ≡ pick (nat_lt k (length l) && p k (slice_index_or l k nobody)) (Some k) None
    none t =
        rw t (first_nowhere p 0 l
        (λ j q. rw (zero_add j) (split (p j (slice_index_or l j nobody)) (λ y. impossible (clash j q y)) (λ y. y))))
      where
        clash : (j : ℕ) → j < length l → p j (slice_index_or l j nobody) ≡ true → false ≡ true
        clash j q y =
            let w = only j q y in
            let x : p k (slice_index_or l k nobody) ≡ true = rw (← w) y in
            sym t ∙ rw (lt-ltb k (length l) (rw (← w) q), x)

-- ---- laws of the look-up by number
-- the look-up by arithmetic is one of the one record; a place that there is not is nobody's
held_one : (h : Option Holder) (l : List Session) → held_in h l ≡ pick (owned_by h (slice_index_or l (named_place h) nobody)) (Some (named_place h)) None
unfolding held_in owned_by named_place blank_at is_free
held_one None l = refl
held_one (Some h) l =
    split (nat_lt h.place (length l))
    (λ e. rw e)
    (λ e. rw (e, get_or-eq_default l nobody (ltb-false h.place (length l) e)))

pub held_yes : (place usage : ℕ) (l : List Session) → place < length l → taken_in (slice_index_or l place nobody) usage ≡ true
    → held_in (held_at place usage) l ≡ Some place
unfolding held_in
held_yes place usage l h e = rw (lt-ltb place (length l) h, e)

-- only a taken record is anybody's
owned_taken : (h : Option Holder) (s : Session) → owned_by h s ≡ true → is_free s ≡ false
unfolding owned_by
owned_taken (Some h) s e = not-true (is_free s) (and_left (not (is_free s)) (s.usage == h.usage) e)
owned_taken None s e = impossible e

pub control_taken_lem : (s : Session) (teid : ℕ) → has_control s teid ≡ true → is_free s ≡ false
unfolding has_number
control_taken_lem s teid = owned_taken (holder_of control_offset teid) s

-- who bears a number holds it
bears_held : (offset n j : ℕ) (s : Session) → offset + places ≤ base → j < places → bears offset n j s ≡ true
    → (holder_of offset n ≡ held_at j s.usage) × (not (is_free s) ≡ true)
unfolding bears
bears_held offset n j s fits h e =
    let a : not (is_free s) ≡ true = search (and_left, and_right) in
    let u : leb 1 s.usage ≡ true = search (and_left, and_right) in
    let q : nat_eq (number_at offset s.usage j) n ≡ true = search (and_left, and_right) in
    (rw (← eqb-true (number_at offset s.usage j) n q) (number_holder offset s.usage j fits h (leb-true 1 s.usage u)), a)

-- nobody bears a number that nobody holds; only its holder bears one that is held
module _ (offset n : ℕ) (l : List Session) (fits : offset + places ≤ base) (size : length l ≤ places) where
  unheld : holder_of offset n ≡ None → (j : ℕ) → j < length l → bears offset n j (slice_index_or l j nobody) ≡ false
  unheld e j h =
      split (bears offset n j (slice_index_or l j nobody))
      (λ t. let f = (bears_held offset n j (slice_index_or l j nobody) fits (omega arith) t).0 in
      let g : ◌≡◌ {A = Option Holder} None (held_at j (get_or l j nobody).usage) = sym e ∙ f in
      let z : ◌≡◌ {A = ℕ} 0 1 = cc in
      absurd (omega arith))
      (λ t. t)

  module _ (place usage : ℕ) (e : holder_of offset n ≡ held_at place usage) where
    sole : (j : ℕ) → j < length l → bears offset n j (slice_index_or l j nobody) ≡ true → j ≡ place
    sole j h t =
        let f = bears_held offset n j (slice_index_or l j nobody) fits (omega arith) t in
        sym (held_same place j usage (get_or l j nobody).usage (sym e ∙ f.0)).0

    -- the holder bears it where its record is taken and in that use
    theirs : (s : Session) → bears offset n place s ≡ taken_in s usage
    unfolding bears
    theirs s =
        split (taken_in s usage)
        (λ t.
        let g = holder_held offset n place usage e in
        let a = and_left (not (is_free s)) (s.usage == usage) t in
        let b = eqb-true s.usage usage (and_right (not (is_free s)) (s.usage == usage) t) in
        rw (a, b, le-leb 1 usage g.used, eq-eqb (number_at offset usage place) n g.number, eq-eqb usage usage refl))
        (λ t. split (bears offset n place s) (λ y. impossible (clash y t)) (λ y. y ∙ sym t))
      where
        clash : bears offset n place s ≡ true → taken_in s usage ≡ false → false ≡ true
        clash y t =
            let p = (holder_held offset n place usage e).place_in in
            let f = bears_held offset n place s fits p y in
            let b = sym (held_same place place usage s.usage (sym e ∙ f.0)).1 in
            sym t ∙ rw (f.1, eq-eqb s.usage usage b)

pub owner_is : (offset n : ℕ) (l : List Session) → offset + places ≤ base → length l ≤ places → owner_of offset n l ≡ held_in (holder_of offset n) l
unfolding owner_of held_in
owner_is offset n l fits size = look (holder_of offset n) refl
  where
    look : (h : Option Holder) → holder_of offset n ≡ h → first_from (bears offset n) 0 l ≡ held_in h l
    look None e = first_nowhere (bears offset n) 0 l (λ j q. let x : 0 + j ≡ j = omega arith in rw x (unheld offset n l fits size e j q))
    look (Some h) e =
        first_only (bears offset n) l h.place (sole offset n l fits size h.place h.usage e)
        ∙ rw (theirs offset n l fits size h.place h.usage e (slice_index_or l h.place nobody))

-- so one record tells the owner: that of the place which the number names
module _ (teid : ℕ) (l : List Session) (size : length l ≤ places) where
  pub owner_control : owner_of control_offset teid l ≡ pick (has_control (slice_index_or l (control_place teid) nobody) teid) (Some (control_place teid)) None
  unfolding place_named has_number
  owner_control = owner_is control_offset teid l control_fits size ∙ held_one (holder_of control_offset teid) l

  pub owner_user : owner_of user_offset teid l ≡ pick (has_user (slice_index_or l (user_place teid) nobody) teid) (Some (user_place teid)) None
  unfolding place_named has_number
  owner_user = owner_is user_offset teid l user_fits size ∙ held_one (holder_of user_offset teid) l

-- ---- laws of the look-up by address: one record tells the session that has it
dwells-at : (pool a i : ℕ) (s : Session) → dwells pool a i s ≡ true → address_of pool i ≡ a
unfolding dwells
dwells-at pool a i s e = eqb-true (address_of pool i) a (and_right (not (is_free s)) (address_of pool i == a) e)

dwells-live : (pool a : ℕ) (s : Session) → place_of pool a < places → dwells pool a (place_of pool a) s ≡ not (is_free s)
unfolding dwells
dwells-live pool a s h = split (is_free s) (λ e. rw e) (λ e. rw (e, eq-eqb (address_of pool (place_of pool a)) a (address_of_place pool a h)))

module _ (pool a : ℕ) (l : List Session) (size : length l ≤ places) where
  addressee_sole : (j : ℕ) → j < length l → dwells pool a j (slice_index_or l j nobody) ≡ true → j ≡ place_of pool a
  addressee_sole j h e =
      let f = dwells-at pool a j (slice_index_or l j nobody) e in
      rw (← f) (sym (place_of_address pool j (omega arith)))

  pub addressee_is : addressee_of pool a l ≡ pick (not (is_free (slice_index_or l (place_of pool a) nobody))) (Some (place_of pool a)) None
  unfolding addressee_of blank_at is_free
  addressee_is =
      first_only (dwells pool a) l (place_of pool a) addressee_sole
      ∙ split (nat_lt (place_of pool a) (length l))
      (λ e. rw (e, dwells-live pool a (slice_index_or l (place_of pool a) nobody) (let h = ltb-true (place_of pool a) (length l) e in omega arith)))
      (λ e. rw (e, get_or-eq_default l nobody (ltb-false (place_of pool a) (length l) e)))
