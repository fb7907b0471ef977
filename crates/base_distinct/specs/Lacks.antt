-- A key that is not among others: the laws of a search, and of a loop that goes from the last key to the first and asks of each whether it
-- is among those behind it.
-- Assumes nothing.
use Rattle.std.specs.Prelude.{ℕ, ◌+◌, ◌-◌, ◌<◌, ◌≤◌, Bool, true, false, List, [], ◌∷◌, ◌≡◌, refl, length, drop, get_or, eqb}
use Rattle.std.proofs.Math.Bool.{not}
use Rattle.std.specs.List.{list_any}
use Rattle.std.proofs.Common.{sym, ◌∙◌, arith, eq-eqb, ne_eqb, eqb-true}
use Rattle.std.proofs.lemmas.Bool.{eqb-false}
use Rattle.base_octets.specs.Choice.{split}
use Rattle.base_octets.specs.Every.{every, every_agree, every_stop, every_on, every_end, rest_stop, rest_on, rest_end, rest_fails}
use Rattle.base_distinct.specs.Apart.{none_clash, pairwise, same_key}

-- x is not in l
unfoldable pub lacks : ℕ → List ℕ → Bool
lacks x l = every (λ y. not (eqb x y)) l

-- ---- a search that has come to place i
module _ (x : ℕ) (l : List ℕ) (i : ℕ) where
  pub lacks_hit : i < length l → x ≡ get_or l i 0 → lacks x (drop i l) ≡ false
  unfolding lacks
  lacks_hit h e = every_stop l i (λ y. not (eqb x y)) 0 h (rw (eq-eqb x (get_or l i 0) e))

  pub lacks_on : i < length l → (x ≡ get_or l i 0 → ⊥) → lacks x (drop i l) ≡ lacks x (drop (i + 1) l)
  unfolding lacks
  lacks_on h e = every_on l i (λ y. not (eqb x y)) 0 h (rw (ne_eqb x (get_or l i 0) e))

  pub lacks_end : length l ≤ i → lacks x (drop i l) ≡ true
  unfolding lacks
  lacks_end h = every_end l i (λ y. not (eqb x y)) h

-- a key that is not 0 clashes with none where it is not there; 0 with none at all
pub none_same : (x : ℕ) (l : List ℕ) → (x ≡ 0 → ⊥) → none_clash same_key x l ≡ lacks x l
unfolding none_clash same_key lacks
none_same x l h = every_agree (λ y. not (same_key x y)) (λ y. not (eqb x y)) l (λ y. rw (ne_eqb x 0 h))

pub none_zero : (l : List ℕ) → none_clash same_key 0 l ≡ true
unfolding none_clash same_key every
none_zero [] = refl
none_zero (y ∷ l) = none_zero l

-- ---- it is what `contains` tells, of a key
lacks_none : (x : ℕ) (l : List ℕ) → not (list_any (λ y. eqb y x) l) ≡ lacks x l
unfolding lacks every
lacks_none x [] = refl
lacks_none x (y ∷ l) = split (eqb y x) (λ e. rw (e, eq-eqb x y (sym (eqb-true y x e)))) (λ e. rw (e, ne_eqb x y (λ q. eqb-false y x e (sym q)), lacks_none x l))

pub absent_zero : (x : ℕ) (l : List ℕ) → x ≡ 0 → eqb x 0 ≡ none_clash same_key x l
absent_zero x l e = rw e (sym (none_zero l))

pub absent_rest : (x : ℕ) (l : List ℕ) (r : Bool) → (x ≡ 0 → ⊥) → r ≡ list_any (λ y. eqb y x) l → not r ≡ none_clash same_key x l
absent_rest x l r h e = rw e (lacks_none x l ∙ sym (none_same x l h))

-- ---- a loop from the end down, going from place i to the place before it
module _ (l : List ℕ) (i : ℕ) (some : 0 < i) (inside : i ≤ length l) where
  place : i - 1 + 1 ≡ i
  place = omega arith

  pub back_clash : none_clash same_key (get_or l (i - 1) 0) (drop i l) ≡ false → pairwise same_key l ≡ false
  unfolding pairwise
  back_clash e = rest_fails (none_clash same_key) (i - 1) l (rest_stop l (i - 1) (none_clash same_key) 0 (omega arith) (rw place e))

  pub back_on : none_clash same_key (get_or l (i - 1) 0) (drop i l) ≡ true → pairwise same_key (drop i l) ≡ true → pairwise same_key (drop (i - 1) l) ≡ true
  unfolding pairwise
  back_on e d = rest_on l (i - 1) (none_clash same_key) 0 (omega arith) (rw place e) ∙ rw place d

pub pairwise_end : {A : Type 0} (clash : A → A → Bool) (l : List A) (i : ℕ) → length l ≤ i → pairwise clash (drop i l) ≡ true
unfolding pairwise
pairwise_end clash l i h = rest_end l i (none_clash clash) h

-- what clashes from a place on clashes in the whole
pub pairwise_fails : (l : List ℕ) (i : ℕ) → pairwise same_key (drop i l) ≡ false → pairwise same_key l ≡ false
unfolding pairwise
pairwise_fails l i e = rest_fails (none_clash same_key) i l e
