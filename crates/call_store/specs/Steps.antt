-- A way to compute the calls with the store: what is asked of it, what is asked of the records, and what becomes of the store after them. Nothing here
-- is to be believed: the laws show that these steps are the definitions in Stored.
-- Assumes nothing.
use Rattle.std.specs.Prelude.{ℕ, ◌%◌, Bool, not, ◌&&◌, ◌||◌, List, [], map, ◌≡◌, refl, length, get_or, ltb, leb, Option, Some, None}
use Rattle.std.proofs.Math.Bool.{true, false}
use Rattle.std.proofs.Common.{sym, ◌∙◌, arith}
use Rattle.std.proofs.Math.Dec.{eqb}
use borrow.Author.Tests.{le-ltb, not-true}
use Rattle.base_octets.specs.Number.{taken, rules_broken}
use Rattle.base_octets.specs.Choice.{pick, split, and_left, and_right, impossible}
use Rattle.base_octets.specs.Overlay.{overlay}
use Rattle.base_octets.specs.Places.{map_first, map_all}
use Rattle.wire_messages.specs.Types.{modify_type, delete_type}
use Rattle.wire_header.specs.Header.{kind_of, teid_of}
use Rattle.wire_header.specs.Gate.{gate_of}
use Rattle.unit_tunnel.specs.Numbering.{places}
use Rattle.unit_session.specs.declared.Session.{Session}
use Rattle.unit_table.specs.declared.Node.{Node}
use Rattle.unit_table.specs.Rules.{keeps_rules}
use Rattle.unit_store.specs.Row.{store_rows, number_in, octets_in, life_taken, row_of}
use Rattle.unit_store.specs.Store.{store_ok, pushed, sound_of}
use Rattle.call_own.specs.Outcome.{least_reply}
use Rattle.call_asked.specs.declared.Asked.{Asked}
use Rattle.call_asked.specs.declared.Asked.TheVariants as A
use Rattle.call_store.specs.declared.Query.{Query}
use Rattle.call_store.specs.declared.Ask.{Ask}
use Rattle.call_store.specs.Stored.{keeps, asks_store, head_asked, kept_place, kept_for, is_kept}

abbrev pub query_of : List ℕ → Query
query_of d = record { head = head_asked d; teid = teid_of d }

unfoldable pub ask_of : List (List ℕ) → List ℕ → Ask
ask_of w d = record {
  sound = store_ok w;
  query = pick {A = Option Query} (asks_store d) (Some (query_of d)) None;
  at = pick {A = ℕ} (asks_store d) (kept_place d w) (length w);
}

unfoldable pub is_found : List (List ℕ) → Ask → Bool
is_found w k = ltb k.at (length w)

unfoldable pub wish_of : List (List ℕ) → Ask → Asked → Asked
wish_of w k a = pick k.sound (pick (is_found w k) (A.Silent (number_in (get_or w k.at []))) a) (A.Silent rules_broken)

-- the length of the reply, the reply buffer, and the store
pub record Settled : Type 0 where
  pub size : ℕ
  pub reply : List ℕ
  pub store : List (List ℕ)

abbrev pub settled : ℕ → List ℕ → List (List ℕ) → Settled
settled size reply w = record { size = size; reply = reply; store = w }

abbrev pub settled_again : List ℕ → List ℕ → List (List ℕ) → Settled
settled_again r reply w = settled (length (octets_in r)) (overlay (octets_in r) reply) w

-- the reply that was answered is kept
unfoldable pub kept_after : List (List ℕ) → Query → ℕ → ℕ → List ℕ → List (List ℕ)
kept_after w q number size reply = pushed (row_of q.head q.teid number (size % 256) reply) w

-- what the store is asked for, where it answers or keeps the answer: nothing is refused before it is asked
unfoldable pub told : ℕ → Bool → Ask → Option Query
told room kept k = pick {A = Option Query} (leb least_reply room && kept && k.sound) k.query None

abbrev pub settled_by : List (List ℕ) → Ask → Option Query → ℕ → ℕ → List ℕ → Settled
settled_by w k None number size reply = settled size reply w
settled_by w k (Some q) number size reply =
    pick (is_found w k) (settled_again (get_or w k.at []) reply w) (settled size reply (kept_after w q number size reply))

unfoldable pub settled_of : List (List ℕ) → Ask → Bool → Bool → ℕ → ℕ → List ℕ → Settled
settled_of w k kept all number size reply =
    pick all (settled size reply (map_first (life_taken true) store_rows w))
    (settled_by w k (told (length reply) kept k) number size reply)

-- ---- fresh: what it goes by
unfoldable pub count_with : ℕ → ℕ → ℕ
count_with count rows = pick {A = ℕ} (eqb rows store_rows) count 0

unfoldable pub cleared_rows : ℕ → ℕ
cleared_rows count = pick {A = ℕ} (eqb count places) store_rows 0

-- ---- laws
-- the rules by how the store stands
module _ (node : Node) (t : List Session) (w : List (List ℕ)) where
  pub keeps_by : store_ok w ≡ true → keeps node t w ≡ keeps_rules node t
  unfolding keeps
  keeps_by e = rw e (split (keeps_rules node t) (λ k. rw k) (λ k. rw k))

  pub keeps-not : store_ok w ≡ false → keeps node t w ≡ false
  unfolding keeps
  keeps-not e = rw e (split (keeps_rules node t) (λ k. rw k) (λ k. rw k))

  -- in the words of the code
  pub keeps_broken : (sound : Bool) → sound ≡ store_ok w → sound ≡ false → false ≡ keeps node t w
  keeps_broken sound e f = sym (keeps-not (sym e ∙ f))

  pub keeps_whole : (sound kept : Bool) → sound ≡ store_ok w → sound ≡ true → kept ≡ keeps_rules node t → kept ≡ keeps node t w
  keeps_whole sound kept e f k = k ∙ sym (keeps_by (sym e ∙ f))

of_both : (a b : Bool) → (not a && not b) ≡ false → (a || b) ≡ true
of_both true b e = refl
of_both false true e = refl
of_both false false e = impossible (sym e)

-- all rows of a store that keeps its rules
pub rows_all : (f : List ℕ → List ℕ) (w : List (List ℕ)) → store_ok w ≡ true → map_first f store_rows w ≡ map f w
rows_all f w e = map_all f store_rows w (let n = (sound_of w e).size in omega arith)

-- who asks the store, by the type first
module _ (d : List ℕ) (kind number : ℕ) (e : kind ≡ kind_of d) where
  pub asks_not : (not (eqb kind modify_type) && not (eqb kind delete_type)) ≡ true → false ≡ asks_store d
  unfolding asks_store
  asks_not n =
      let a : eqb (kind_of d) modify_type ≡ false = not-true (eqb (kind_of d) modify_type) (rw e at (and_left (not (eqb kind modify_type)) (not (eqb kind delete_type)) n)) in
      let b : eqb (kind_of d) delete_type ≡ false = not-true (eqb (kind_of d) delete_type) (rw e at (and_right (not (eqb kind modify_type)) (not (eqb kind delete_type)) n)) in
      rw (a, b) (split (eqb (gate_of d) taken) (λ g. rw g) (λ g. rw g))

  pub asks_then : (not (eqb kind modify_type) && not (eqb kind delete_type)) ≡ false → number ≡ gate_of d → eqb number taken ≡ asks_store d
  unfolding asks_store
  asks_then n g =
      rw (g, of_both (eqb (kind_of d) modify_type) (eqb (kind_of d) delete_type) (rw e at n))
      (split (eqb (gate_of d) taken) (λ q. rw q) (λ q. rw q))

-- what becomes of the store, case by case
module _ (w : List (List ℕ)) (k : Ask) (kept all : Bool) (number size : ℕ) (reply : List ℕ) where
  pub settled_all : all ≡ true → settled_of w k kept all number size reply ≡ settled size reply (map_first (life_taken true) store_rows w)
  unfolding settled_of
  settled_all e = rw e

  module _ (e : all ≡ false) where
    pub settled_alone : told (length reply) kept k ≡ None → settled_of w k kept all number size reply ≡ settled size reply w
    unfolding settled_of
    settled_alone t = rw (e, t)

    module _ (q : Query) (t : told (length reply) kept k ≡ Some q) where
      pub settled_again_lem : is_found w k ≡ true → settled_of w k kept all number size reply ≡ settled_again (get_or w k.at []) reply w
      unfolding settled_of
      settled_again_lem f = rw (e, t, f)

      pub settled_kept : is_found w k ≡ false → settled_of w k kept all number size reply ≡ settled size reply (kept_after w q number size reply)
      unfolding settled_of
      settled_kept f = rw (e, t, f)

-- what is asked for, case by case
module _ (w : List (List ℕ)) (d : List ℕ) where
  pub found_kept : is_kept d w ≡ true → is_found w (ask_of w d) ≡ true
  unfolding is_kept is_found ask_of
  found_kept e = let a = and_left (asks_store d) (ltb (kept_place d w) (length w)) e in rw a (and_right (asks_store d) (ltb (kept_place d w) (length w)) e)

  pub asks_kept : is_kept d w ≡ true → asks_store d ≡ true
  unfolding is_kept
  asks_kept e = and_left (asks_store d) (ltb (kept_place d w) (length w)) e

  pub found_not : is_kept d w ≡ false → is_found w (ask_of w d) ≡ false
  unfolding is_kept is_found ask_of
  found_not e = split (asks_store d) (λ a. rw a (rw a at e)) (λ a. rw a (le-ltb (length w) (length w) (omega arith)))

  pub place_kept : asks_store d ≡ true → get_or w (ask_of w d).at [] ≡ kept_for d w
  unfolding ask_of
  place_kept a = rw a

  -- the store is asked: the rules are kept, and the reply buffer is not short
  module _ (room : ℕ) (kept : Bool) where
    pub told_yes : leb least_reply room ≡ true → kept ≡ true → store_ok w ≡ true → told room kept (ask_of w d) ≡ pick {A = Option Query} (asks_store d) (Some (query_of d)) None
    unfolding told ask_of
    told_yes b k s = rw (b, k, s)

    pub told-short : leb least_reply room ≡ false → told room kept (ask_of w d) ≡ None
    unfolding told
    told-short b = rw b

    pub told_broken : kept ≡ false → told room kept (ask_of w d) ≡ None
    unfolding told
    told_broken k = split (leb least_reply room) (λ b. rw (b, k)) (λ b. rw b)

    pub told_unsound : store_ok w ≡ false → told room kept (ask_of w d) ≡ None
    unfolding told ask_of
    told_unsound s = split (leb least_reply room) (λ b. split kept (λ k. rw (b, k, s)) (λ k. rw (b, k))) (λ b. rw b)

  asked_sound : store_ok w ≡ true → (ask_of w d).sound ≡ true
  unfolding ask_of
  asked_sound s = s

  pub wish_broken : (a : Asked) → store_ok w ≡ false → wish_of w (ask_of w d) a ≡ A.Silent rules_broken
  unfolding wish_of ask_of
  wish_broken a s = rw s

  module _ (a : Asked) (s : store_ok w ≡ true) where
    pub wish_kept : is_kept d w ≡ true → wish_of w (ask_of w d) a ≡ A.Silent (number_in (kept_for d w))
    unfolding wish_of is_found number_in
    wish_kept e =
        let t : (ask_of w d).sound ≡ true = asked_sound s in
        let f = found_kept e in
        let p = place_kept (asks_kept e) in
        rw (t, f, p)

    pub wish_anew : is_kept d w ≡ false → wish_of w (ask_of w d) a ≡ a
    unfolding wish_of is_found
    wish_anew e =
        let t : (ask_of w d).sound ≡ true = asked_sound s in
        let f = found_not e in
        rw (t, f)
