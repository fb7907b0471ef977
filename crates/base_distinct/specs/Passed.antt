-- The pass over keys from the last to the first, by chains: what is known where the keys behind number i are passed, and how that goes on
-- to the number before. h is the slot of key number i.
-- Assumes nothing.
use Rattle.std.specs.Prelude.{ℕ, ◌-◌, ◌<◌, ◌≤◌, true, false, List, ◌≡◌, length, drop, get_or, set, replicate}
use Rattle.std.proofs.Common.{◌∙◌, arith, length-set}
use Rattle.std.proofs.lemmas.List.{length-replicate}
use Rattle.base_distinct.specs.Apart.{none_clash, pairwise, same_key}
use Rattle.base_distinct.specs.Chains.{key_at, Search, Chained, chained_none, chained_search, chained_rest, chained_new, chained_skip, chained_linked, chained_alone}
use Rattle.base_distinct.specs.Lacks.{lacks, none_same, none_zero, back_clash, back_on, pairwise_end}

-- m slots, n links, of which the number none ends a chain
pub record PassedKeys (slot : ℕ → ℕ) (none m n : ℕ) (l heads links : List ℕ) (i : ℕ) : Type 0 where
  pub inside : i ≤ length l
  pub slots : length heads ≡ m
  pub room : length links ≡ n
  pub apart : pairwise same_key (drop i l) ≡ true
  pub chains : Chained slot none l heads links i

module _ (slot : ℕ → ℕ) (none m n : ℕ) (small : (x : ℕ) → slot x < m) (l : List ℕ) (past : length l < none) (fits : length l < n) where
  pub passed_none : PassedKeys slot none m n l (replicate m none) (replicate n none) (length l)
  passed_none =
      record {
        inside = omega arith;
        slots = length-replicate {A = ℕ} m none;
        room = length-replicate {A = ℕ} n none;
        apart = pairwise_end same_key l (length l) (omega arith);
        chains = chained_none slot none l past m n small fits;
      }

  module _ (heads links : List ℕ) (i : ℕ) (p : PassedKeys slot none m n l heads links i) where
    pub passed_all : i ≡ 0 → pairwise same_key l ≡ true
    passed_all e = rw e at p.apart

    module _ (begun : 0 < i) where
      pub passed_skip : key_at l i ≡ 0 → PassedKeys slot none m n l heads links (i - 1)
      passed_skip e =
          record {
            inside = let b = p.inside in omega arith;
            slots = p.slots;
            room = p.room;
            apart = back_on l i begun p.inside (rw e (none_zero (drop i l))) p.apart;
            chains = chained_skip slot none l past heads links i p.chains begun p.inside e;
          }

      module _ (key : key_at l i ≡ 0 → ⊥) (h : ℕ) (e : h ≡ slot (key_at l i)) where
        -- the chain that the key is looked for in, and what is found
        pub passed_search : Search slot l links (key_at l i) (get_or heads h 0)
        passed_search = let r = p.room in rw e (chained_search slot none l past heads links i p.chains (key_at l i) key (omega arith))

        seen : none_clash same_key (key_at l i) (drop i l) ≡ lacks (key_at l i) (drop (get_or heads h 0 - 1) l)
        seen = none_same (key_at l i) (drop i l) key ∙ rw e (chained_rest slot none l past heads links i p.chains (key_at l i) key)

        pub passed_clash : lacks (key_at l i) (drop (get_or heads h 0 - 1) l) ≡ false → pairwise same_key l ≡ false
        passed_clash f = back_clash l i begun p.inside (seen ∙ f)

        inside_slots : slot (key_at l i) < length heads
        inside_slots = let s = small (key_at l i) in let r = p.slots in omega arith

        pub passed_linked : lacks (key_at l i) (drop (get_or heads h 0 - 1) l) ≡ true → PassedKeys slot none m n l (set heads h i) (set links i (get_or heads h 0)) (i - 1)
        passed_linked f =
            record {
              inside = let b = p.inside in omega arith;
              slots = simp length-set p.slots;
              room = simp length-set p.room;
              apart = back_on l i begun p.inside (seen ∙ f) p.apart;
              chains = let b = p.inside in let r = p.room in rw e (chained_linked slot none l past heads links i p.chains begun p.inside key inside_slots (omega arith));
            }

        pub passed_alone : get_or heads h 0 ≡ none → PassedKeys slot none m n l (set heads h i) links (i - 1)
        passed_alone f =
            record {
              inside = let b = p.inside in omega arith;
              slots = simp length-set p.slots;
              room = p.room;
              apart =
                  back_on l i begun p.inside (none_same (key_at l i) (drop i l) key ∙ chained_new slot none l past heads links i p.chains (key_at l i) key (rw e at f)) p.apart;
              chains = rw e (chained_alone slot none l past heads links i p.chains begun p.inside key inside_slots (rw e at f));
            }
