-- Names of access points: compared octet by octet, as the APN value is sent. Everything that asks whether two names are one,
-- or whose a name is, asks this file.
-- Assumes nothing.
use Rattle.std.specs.Prelude.{ℕ, ◌<◌, min, Bool, true, false, not, List, [], ◌∷◌, ◌≡◌, refl, length, take, get_or, ltb, leb, Option, Some, None}
use Rattle.std.proofs.Common.{sym, ◌∙◌, take_all}
use native.Mathlib.Omega.{arith}
use Rattle.std.specs.List.{list_all}
use borrow.Author.Tests.{ltb-true}
use Rattle.base_octets.specs.Choice.{pick, split, impossible, tests}
use Rattle.base_octets.specs.Every.{every, every_rest, every_all, rest_pair}
use Rattle.base_octets.specs.Search.{first_of, first_passes}
use Rattle.base_octets.specs.Same.{same_octets, same_equal}
use Rattle.unit_plan.specs.declared.AccessPoint.{AccessPoint}
use Rattle.unit_plan.specs.Limits.{longest_name}

unfoldable pub name_of : AccessPoint → List ℕ
name_of a = take a.size a.name

unfoldable pub same_name : List ℕ → List ℕ → Bool
same_name a b = same_octets a b

-- whether a name, as it came in a datagram, is the access point's
unfoldable pub goes_by : List ℕ → AccessPoint → Bool
goes_by d a = same_name (name_of a) d

unfoldable pub unlike : AccessPoint → AccessPoint → Bool
unlike a b = not (goes_by (name_of b) a)

-- no two of them have one name
unfoldable pub names_differ : List AccessPoint → Bool
names_differ l = every_rest (λ a r. every (unlike a) r) l

-- the access point that a name is of, by its number, or none
unfoldable pub named_in : List AccessPoint → List ℕ → Option ℕ
named_in l d = pick (ltb (first_of (goes_by d) l) (length l)) (Some (first_of (goes_by d) l)) None

-- ---- laws: names that both match a third match each other
pub same_name_equal : (a b : List ℕ) → same_name a b ≡ true → a ≡ b
unfolding same_name
same_name_equal a b e = same_equal a b e

pub goes_by_both : (d : List ℕ) (a b : AccessPoint) → goes_by d a ≡ true → goes_by d b ≡ true → goes_by (name_of b) a ≡ true
unfolding goes_by
goes_by_both d a b e f = rw (same_name_equal (name_of b) d f) e

-- ---- the part of the name's array that counts
pub name-part : (a : AccessPoint) (n : ℕ) → length a.name ≡ longest_name → n ≡ min a.size longest_name → take n a.name ≡ name_of a
unfolding name_of
name-part a n l e =
    split (leb a.size longest_name)
    (λ t. let k : n ≡ a.size = omega (arith, tests) in rw k)
    (λ t. let k : n ≡ longest_name = omega (arith, tests) in rw k (take_all longest_name a.name (omega arith) ∙ sym (take_all a.size a.name (omega (arith, tests)))))

-- ---- names compared one by one with those after them
pub none_differ : (l : List AccessPoint) → length l ≡ 0 → names_differ l ≡ true
unfolding names_differ every_rest
none_differ [] h = refl
none_differ (a ∷ l) h = absurd (omega arith)

module _ (l : List AccessPoint) (a : AccessPoint) (r : List AccessPoint) (is : l ≡ a ∷ r) where
  pub first_clashes : list_all (unlike a) r ≡ false → names_differ l ≡ false
  unfolding names_differ every_rest
  first_clashes e = let f = rw every_all at e in rw (is, f)

  pub first_differs : list_all (unlike a) r ≡ true → names_differ l ≡ names_differ r
  unfolding names_differ every_rest
  first_differs e = let f = rw every_all at e in rw (is, f)

-- ---- whose a name is
pub named_is : (l : List AccessPoint) (d : List ℕ) (i : ℕ) (x : AccessPoint) → named_in l d ≡ Some i → (i < length l) × (goes_by d (get_or l i x) ≡ true)
unfolding named_in
named_is l d i x e = split (ltb (first_of (goes_by d) l) (length l)) found none
  where
    found : ltb (first_of (goes_by d) l) (length l) ≡ true → (i < length l) × (goes_by d (get_or l i x) ≡ true)
    found t =
        let h = ltb-true (first_of (goes_by d) l) (length l) t in
        let f : Some (first_of (goes_by d) l) ≡ Some i = rw t at e in
        let k : first_of (goes_by d) l ≡ i = cc in
        (rw (← k) h, rw (← k) (first_passes (goes_by d) l x h))

    none : ltb (first_of (goes_by d) l) (length l) ≡ false → (i < length l) × (goes_by d (get_or l i x) ≡ true)
    none t = let f : ◌≡◌ {A = Option ℕ} None (Some i) = rw t at e in let z : ◌≡◌ {A = ℕ} 0 1 = cc in absurd (omega arith)

-- where names differ, a name is of one access point at most
clash : (l : List AccessPoint) (d : List ℕ) (i j : ℕ) (x : AccessPoint) → names_differ l ≡ true → i < j → j < length l
    → goes_by d (get_or l i x) ≡ true → goes_by d (get_or l j x) ≡ true → false ≡ true
unfolding names_differ unlike
clash l d i j x n h k e f =
    let u : not (goes_by (name_of (get_or l j x)) (get_or l i x)) ≡ true = rest_pair unlike l i j x n h k in
    rw (goes_by_both d (get_or l i x) (get_or l j x) e f) at u

pub named_once : (l : List AccessPoint) (d : List ℕ) (i j : ℕ) (x : AccessPoint) → names_differ l ≡ true → i < length l → j < length l
    → goes_by d (get_or l i x) ≡ true → goes_by d (get_or l j x) ≡ true → i ≡ j
named_once l d i j x n h k e f =
    split (ltb i j) (λ t. impossible (clash l d i j x n (ltb-true i j t) k e f))
    (λ t. split (ltb j i) (λ r. impossible (clash l d j i x n (ltb-true j i r) h f e)) (λ r. omega (arith, tests)))
