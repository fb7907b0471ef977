-- Chains by which a key is compared with few others. Keys have numbers: number j is at place j - 1. Each key lies in the chain of its slot:
-- heads has, for each slot, the number of the first key of its chain, links for each key the number of the next; a number past the last
-- key ends the chain. 0, which is no key, lies in none. What is needed of a slot is only that the same key has the same one.
-- Assumes nothing.
use Rattle.std.specs.Prelude.{ℕ, ◌+◌, ◌-◌, ◌*◌, ◌/◌, ◌%◌, ◌<◌, ◌≤◌, true, false, List, ◌≡◌, refl, length, drop, get_or, set, replicate, eqb}
use Rattle.std.proofs.Common.{sym, ◌∙◌, ap, arith, get_or-set_same, get_or-set_other, eqb-true}
use Rattle.std.proofs.lemmas.List.{get_or-replicate}
use Rattle.std.proofs.lemmas.Bool.{eqb-false}
use Rattle.std.proofs.lemmas.Nat.{mod_below}
use Rattle.base_octets.specs.Choice.{split}
use Rattle.base_distinct.specs.Lacks.{lacks, lacks_hit, lacks_on, lacks_end}

-- ---- slots, so many: bits of a product, by which near keys and evenly spaced ones come apart
unfoldable pub slot_of : ℕ → ℕ → ℕ
slot_of n x = x % 4294967296 * 1023530803 / (4294967296 / n) % n

pub slot_small : (n x : ℕ) → 0 < n → slot_of n x < n
unfolding slot_of
slot_small n x h = mod_below _ n h

-- those of few keys, and of many, in figures
unfoldable pub few_slot : ℕ → ℕ
few_slot x = x % 4294967296 * 1023530803 / 16777216 % 256

unfoldable pub many_slot : ℕ → ℕ
many_slot x = x % 4294967296 * 1023530803 / 2097152 % 2048

pub few_slot_is : (x : ℕ) → few_slot x ≡ slot_of 256 x
unfolding few_slot slot_of
few_slot_is x = refl

pub many_slot_is : (x : ℕ) → many_slot x ≡ slot_of 2048 x
unfolding many_slot slot_of
many_slot_is x = refl

pub few_slot_small : (x : ℕ) → few_slot x < 256
few_slot_small x = rw few_slot_is (slot_small 256 x (omega arith))

pub many_slot_small : (x : ℕ) → many_slot x < 2048
many_slot_small x = rw many_slot_is (slot_small 2048 x (omega arith))

-- the key with number j
abbrev pub key_at : List ℕ → ℕ → ℕ
key_at l j = get_or l (j - 1) 0

-- ---- whoever looks for x among the keys behind number i may go on with number v
pub record Ahead (slot : ℕ → ℕ) (l : List ℕ) (x i v : ℕ) : Type 0 where
  pub behind : i < v
  pub some : v ≤ length l → key_at l v ≡ 0 → ⊥
  pub same : v ≤ length l → slot (key_at l v) ≡ slot x
  pub rest : lacks x (drop i l) ≡ lacks x (drop (v - 1) l)

-- ---- a search that goes from link to link and has come to number v
pub record Search (slot : ℕ → ℕ) (l links : List ℕ) (x v : ℕ) : Type 0 where
  pub room : length l < length links
  pub begun : 0 < v
  pub some : v ≤ length l → key_at l v ≡ 0 → ⊥
  pub same : v ≤ length l → slot (key_at l v) ≡ slot x
  pub next : (j : ℕ) → v ≤ j → j ≤ length l → (key_at l j ≡ 0 → ⊥) → slot (key_at l j) ≡ slot x → Ahead slot l x j (get_or links j 0)

module _ (slot : ℕ → ℕ) (l links : List ℕ) (x v : ℕ) (s : Search slot l links x v) where
  pub search_hit : v ≤ length l → x ≡ key_at l v → lacks x (drop (v - 1) l) ≡ false
  search_hit h e = let b = s.begun in lacks_hit x l (v - 1) (omega arith) e

  pub search_end : length l < v → lacks x (drop (v - 1) l) ≡ true
  search_end h = lacks_end x l (v - 1) (omega arith)

  module _ (inside : v ≤ length l) where
    ahead : Ahead slot l x v (get_or links v 0)
    ahead = s.next v (omega arith) inside (s.some inside) (s.same inside)

    pub search_less : v < get_or links v 0
    search_less = ahead.behind

    pub search_rest : (x ≡ key_at l v → ⊥) → lacks x (drop (v - 1) l) ≡ lacks x (drop (get_or links v 0 - 1) l)
    search_rest e = let b = s.begun in let p : v - 1 + 1 ≡ v = omega arith in (rw p at (lacks_on x l (v - 1) (omega arith) e)) ∙ ahead.rest

    pub search_on : Search slot l links x (get_or links v 0)
    search_on =
        record {
          room = s.room;
          begun = let b = ahead.behind in omega arith;
          some = ahead.some;
          same = ahead.same;
          next = λ j q. let b = ahead.behind in s.next j (omega arith);
        }

-- ---- the chains of the keys behind number i; nothing is linked up to number i
pub record Chained (slot : ℕ → ℕ) (none : ℕ) (l heads links : List ℕ) (i : ℕ) : Type 0 where
  pub first : (x : ℕ) → (x ≡ 0 → ⊥) → Ahead slot l x i (get_or heads (slot x) 0)
  pub next : (x j : ℕ) → (x ≡ 0 → ⊥) → i < j → j ≤ length l → (key_at l j ≡ 0 → ⊥) → slot (key_at l j) ≡ slot x → Ahead slot l x j (get_or links j 0)
  pub blank : (j : ℕ) → j ≤ i → get_or links j 0 ≡ none

module _ (slot : ℕ → ℕ) (none : ℕ) (l : List ℕ) (past : length l < none) where
  pub chained_none : (m n : ℕ) → ((x : ℕ) → slot x < m) → length l < n → Chained slot none l (replicate m none) (replicate n none) (length l)
  chained_none m n small room =
      record {
        first = λ x h. rw (get_or-replicate m (slot x) none 0 (small x)) (ended x);
        next = λ x j h a b. absurd (omega arith);
        blank = λ j h. get_or-replicate n j none 0 (omega arith);
      }
    where
      ended : (x : ℕ) → Ahead slot l x (length l) none
      ended x =
          record {
            behind = past;
            some = λ h. absurd (omega arith);
            same = λ h. absurd (omega arith);
            rest = lacks_end x l (length l) (omega arith) ∙ sym (lacks_end x l (none - 1) (omega arith));
          }

  module _ (heads links : List ℕ) (i : ℕ) (c : Chained slot none l heads links i) where
    pub chained_search : (x : ℕ) → (x ≡ 0 → ⊥) → length l < length links → Search slot l links x (get_or heads (slot x) 0)
    chained_search x h room =
        let a = c.first x h in
        let b = a.behind in
        record {
          room = room;
          begun = omega arith;
          some = a.some;
          same = a.same;
          next = λ j q. c.next x j h (omega arith);
        }

    pub chained_rest : (x : ℕ) → (x ≡ 0 → ⊥) → lacks x (drop i l) ≡ lacks x (drop (get_or heads (slot x) 0 - 1) l)
    chained_rest x h = (c.first x h).rest

    -- no key behind has the slot
    pub chained_new : (x : ℕ) → (x ≡ 0 → ⊥) → get_or heads (slot x) 0 ≡ none → lacks x (drop i l) ≡ true
    chained_new x h e = chained_rest x h ∙ rw e (lacks_end x l (none - 1) (omega arith))

    module _ (begun : 0 < i) (inside : i ≤ length l) where
      -- what is ahead of number i is ahead of the number before it, for a key other than number i
      earlier : (x v : ℕ) → (x ≡ key_at l i → ⊥) → Ahead slot l x i v → Ahead slot l x (i - 1) v
      earlier x v e a =
          let b = a.behind in
          let p : i - 1 + 1 ≡ i = omega arith in
          record {
            behind = omega arith;
            some = a.some;
            same = a.same;
            rest = (rw p at (lacks_on x l (i - 1) (omega arith) e)) ∙ a.rest;
          }

      pub chained_skip : key_at l i ≡ 0 → Chained slot none l heads links (i - 1)
      chained_skip e =
          record {
            first = λ x h. earlier x (get_or heads (slot x) 0) (λ q. h (q ∙ e)) (c.first x h);
            next = λ x j h a b k. split (eqb j i) (λ t. absurd (k (rw (eqb-true j i t) e))) (λ t. let n = eqb-false j i t in c.next x j h (omega arith) b k);
            blank = λ j h. c.blank j (omega arith);
          }

      module _ (key : key_at l i ≡ 0 → ⊥) (b : slot (key_at l i) < length heads) where
        abbrev at : ℕ
        at = slot (key_at l i)

        chained_more : (links' : List ℕ) → get_or links' i 0 ≡ get_or heads (slot (key_at l i)) 0 → ((j : ℕ) → (j ≡ i → ⊥) → get_or links' j 0 ≡ get_or links j 0)
            → Chained slot none l (set heads (slot (key_at l i)) i) links' (i - 1)
        chained_more links' one others =
            record {
              first = λ x h. split (eqb (slot x) at) (λ t. mine x (eqb-true (slot x) at t)) (λ t. theirs x h (eqb-false (slot x) at t));
              next = λ x j h a b k q. split (eqb j i) (λ t. own x j h q (eqb-true j i t)) (λ t. let n = eqb-false j i t in rw (others j n) (c.next x j h (omega arith) b k q));
              blank = λ j h. others j (λ q. omega arith) ∙ c.blank j (omega arith);
            }
          where
            mine : (x : ℕ) → slot x ≡ at → Ahead slot l x (i - 1) (get_or (set heads at i) (slot x) 0)
            mine x e =
                rw (e, get_or-set_same heads at i 0 b)
                record {
                  behind = omega arith;
                  some = λ h. key;
                  same = λ h. sym e;
                  rest = refl;
                }

            theirs : (x : ℕ) → (x ≡ 0 → ⊥) → (slot x ≡ at → ⊥) → Ahead slot l x (i - 1) (get_or (set heads at i) (slot x) 0)
            theirs x h e = rw (get_or-set_other heads at (slot x) i 0 e) (earlier x (get_or heads (slot x) 0) (λ q. e (ap slot q)) (c.first x h))

            own : (x j : ℕ) → (x ≡ 0 → ⊥) → slot (key_at l j) ≡ slot x → j ≡ i → Ahead slot l x j (get_or links' j 0)
            own x j h q e =
                let q' : at ≡ slot x = rw e at q in
                rw (e, one, q') (c.first x h)

        pub chained_linked : i < length links → Chained slot none l (set heads (slot (key_at l i)) i) (set links i (get_or heads (slot (key_at l i)) 0)) (i - 1)
        chained_linked r =
            chained_more (set links i (get_or heads at 0)) (get_or-set_same links i (get_or heads at 0) 0 r) (λ j n. get_or-set_other links i j (get_or heads at 0) 0 n)

        pub chained_alone : get_or heads (slot (key_at l i)) 0 ≡ none → Chained slot none l (set heads (slot (key_at l i)) i) links (i - 1)
        chained_alone e = chained_more links (c.blank i (omega arith) ∙ sym e) (λ j n. refl)
