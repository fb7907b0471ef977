-- The control call on lent records, step by step, is its definition on the lent list.
-- Assumes nothing.
use Rattle.std.specs.Prelude.{ℕ, ◌%◌, Bool, true, ◌&&◌, ◌≡◌, refl, length, ltb, Option, Some, None}
use Rattle.std.proofs.Math.Bool.{false}
use mathlib.Core.List.{List, map}
use native.Mathlib.Omega.{arith}
use Rattle.std.proofs.Math.Path.{sym, ap}
use Rattle.std.proofs.Common.{◌∙◌, ltb-true, ltb-false, le-leb}
use Rattle.std.proofs.Math.Dec.{leb}
use Rattle.std.proofs.lemmas.Bool.{lt-leb}
use Rattle.base_octets.specs.Number.{reply_short, rules_broken}
use Rattle.base_octets.specs.Choice.{pick, split}
use Rattle.unit_session.specs.declared.Session.{Session}
use Rattle.unit_table.specs.declared.Node.{Node}
use Rattle.unit_table.specs.Rules.{keeps_rules}
use Rattle.call_own.specs.Outcome.{Outcome, outcome, bare, no_reply, least_reply}
use Rattle.call_control.specs.Control.{restarts_in, asked_taken, control_asked}
use Rattle.call_own.specs.declared.Answer.{Answer}
use Rattle.step_check.specs.Summary.{stands_by, stands_kept}
use Rattle.lent_check.specs.Kept.{checked_of, checked_how, checked_packed, checked_old, checked_free}
use Rattle.call_asked.specs.declared.Asked.{Asked}
use Rattle.call_asked.specs.declared.Asked.TheVariants as A
use Rattle.call_asked.specs.Asked.{asked_of}
use Rattle.call_asked.specs.Sound.{AskedSound, asked_sound}
use Rattle.unit_store.specs.Row.{number_in, octets_in, life_taken}
use Rattle.unit_store.specs.Store.{store_ok, emptied}
use Rattle.call_store.specs.declared.Query.{Query}
use Rattle.call_store.specs.declared.Ask.{Ask}
use Rattle.call_store.specs.Stored.{stored, asks_store, kept_for, is_kept, store_after, taken_stored, control_stored}
use Rattle.call_store.specs.Answers.{asked_fits, asked_still}
use Rattle.call_store.specs.Steps.{keeps_by, keeps-not, query_of, ask_of, is_found, wish_of, kept_after, rows_all, told, Settled, settled, settled_again, settled_of, settled_all, settled_alone, settled_again_lem, settled_kept, found_kept, asks_kept, found_not, place_kept, told_yes, told-short, told_broken, told_unsound, wish_broken, wish_kept, wish_anew}
use Rattle.step_control.specs.declared.Basis.{Basis}
use Rattle.step_control.specs.declared.Concerned.{Concerned}
use Rattle.step_control.specs.declared.Taken.{Taken}
use Rattle.step_control.specs.Step.{restarts_now, key_of, basis_of, concerned_of, concerned_in, taken_with, taken_on, node_after, concerned_put, changed_places, placed_concerned}
use Rattle.step_whole.specs.Basis.{CheckTold, Sees}
use Rattle.step_whole.proofs.Basis.{basis_sees}
use Rattle.step_whole.specs.Whole.{InPlace}
use Rattle.step_whole.proofs.Whole.{control_same}

-- what is seen of lent records is what is gone by
checked_told : (node : Node) (key : ℕ) (l : List Session) → CheckTold node key l (checked_of node key l)
checked_told node key l = record {
  how = ap stands_by (checked_how node key l) ∙ stands_kept node l;
  counts = λ k. checked_packed node key l k;
  old = λ k a. checked_old node key l k a;
  free = λ k a. checked_free node key l k a;
}

-- what of an answer goes back by value
unfoldable pub taken_answer : Node → Concerned → Taken → ℕ → Answer
taken_answer node p o size = record { number = o.number; size = size; node = node_after o node; span = changed_places p o }

-- an answer with another length of the reply
abbrev replying : ℕ → Answer → Answer
replying size a = record { number = a.number; size = size; node = a.node; span = a.span }

-- the two records that are concerned
unfoldable pub basis_lent : Node → List Session → Asked → ℕ → Basis
basis_lent node l a room = basis_of (checked_of node (key_of a) l) node a room

unfoldable pub concerned_lent : Node → List Session → Asked → ℕ → Concerned
concerned_lent node l a room = concerned_in (basis_lent node l a room) node l a

unfoldable placed_lent : Node → List Session → Asked → Concerned → List ℕ → Outcome
placed_lent node l a p reply = placed_concerned node p l (taken_on node a p reply)

-- ---- in the words of the code
placed_lent_lem : (node : Node) (l zs : List Session) (a : Asked) (p : Concerned) (reply after : List ℕ) (o : Taken) (r : Answer)
    → taken_with o after ≡ taken_on node a p reply → zs ≡ concerned_put l p o → r ≡ taken_answer node p o o.size
    → outcome r zs after ≡ placed_lent node l a p reply
unfolding placed_lent placed_concerned taken_answer
placed_lent_lem node l zs a p reply after o r e-o e-zs e-r = rw (e-r, e-zs, ← e-o)

-- ---- in place as on all
module _ (node : Node) (l : List Session) (reply : List ℕ) (a : Asked) (sound : AskedSound node.plan a) where
  sees : Sees node l a (length reply) (basis_lent node l a (length reply))
  unfolding basis_lent
  sees = basis_sees node l (checked_of node (key_of a) l) a (length reply) sound (checked_told node (key_of a) l)

  placed_whole : placed_lent node l a (concerned_lent node l a (length reply)) reply ≡ control_asked node l a reply
  unfolding placed_lent concerned_lent InPlace
  placed_whole = sym (control_same node l a reply (basis_lent node l a (length reply)) sees)

  concerned_kept : (concerned_lent node l a (length reply)).kept ≡ keeps_rules node l
  unfolding concerned_lent concerned_in concerned_of
  concerned_kept = sees.kept

  concerned_all : (concerned_lent node l a (length reply)).all ≡ (keeps_rules node l && restarts_now (length reply) a node)
  unfolding concerned_lent concerned_in concerned_of
  concerned_all = sees.all

-- what is left to ask of the records is sound
wish_sound : (node : Node) (w : List (List ℕ)) (k : Ask) (d : List ℕ) → AskedSound node.plan (wish_of w k (asked_of node d))
unfolding wish_of AskedSound is_found
wish_sound node w k d =
    split k.sound
    (λ s. split (is_found w k) (λ f. rw (s, f) tt) (λ f. rw (s, f) (asked_sound node d)))
    (λ s. rw s tt)

-- ---- with the store
off : (b : Bool) → (b && false) ≡ false
off true = refl
off false = refl

silent_asked : (node : Node) (l : List Session) (reply : List ℕ) (n : ℕ) → asked_taken node l (A.Silent n) reply ≡ no_reply n node l reply
unfolding asked_taken
silent_asked node l reply n = refl

-- nobody restarts whose datagram is answered by a number alone
now_silent : (node : Node) (room n : ℕ) → restarts_now room (A.Silent n) node ≡ false
unfolding restarts_now restarts_in
now_silent node room n = split (ltb room least_reply) (λ b. rw b) (λ b. rw b)

module _ (node : Node) (l zs : List Session) (w ws : List (List ℕ)) (d reply mid after : List ℕ) (left r : Answer) (size : ℕ) (long : length mid ≡ length reply) where
  abbrev wish : Asked
  wish = wish_of w (ask_of w d) (asked_of node d)

  abbrev Comes : Type 0
  Comes = stored (outcome r zs after) ws ≡ control_stored node l w d reply

  module _ (kept all : Bool) (e-k : kept ≡ keeps_rules node l) (e-a : all ≡ (keeps_rules node l && restarts_now (length reply) wish node))
      (e-o : outcome left zs mid ≡ control_asked node l wish reply) (e-r : r ≡ replying size left)
      (e-s : settled size after ws ≡ settled_of w (ask_of w d) kept all left.number left.size mid) where
    -- what the records came to stands, with another store or the same
    left_with : (x : Outcome) (v : List (List ℕ)) → outcome left zs mid ≡ x → settled_of w (ask_of w d) kept all left.number left.size mid ≡ settled left.size mid v
        → stored (outcome r zs after) ws ≡ stored x v
    left_with x v e f =
        let g : settled size after ws ≡ settled left.size mid v = e-s ∙ f in
        let n : size ≡ left.size = ap (λ (y : Settled). y.size) g in
        let a : r ≡ left = e-r ∙ rw n in
        let b : after ≡ mid = ap (λ (y : Settled). y.reply) g in
        let c : ws ≡ v = ap (λ (y : Settled). y.store) g in
        rw (a, b, c, ← e)

    not_all : restarts_now (length reply) wish node ≡ false → all ≡ false
    not_all e = e-a ∙ rw e (off (keeps_rules node l))

    came_short : ltb (length reply) least_reply ≡ true → Comes
    unfolding control_stored restarts_now
    came_short b =
        let t : leb least_reply (length mid) ≡ false = rw long (lt-leb least_reply (length reply) (ltb-true (length reply) least_reply b)) in
        rw b (left_with (no_reply reply_short node l reply) w (rw b at e-o) (settled_alone w (ask_of w d) kept all left.number left.size mid (not_all (rw b)) (told-short w d (length mid) kept t)))

    module _ (b : ltb (length reply) least_reply ≡ false) where
      roomy : leb least_reply (length mid) ≡ true
      roomy = rw long (le-leb least_reply (length reply) (ltb-false (length reply) least_reply b))

      came_unsound : store_ok w ≡ false → Comes
      unfolding control_stored
      came_unsound s =
          let v : wish ≡ A.Silent rules_broken = wish_broken w d (asked_of node d) s in
          let o : outcome left zs mid ≡ no_reply rules_broken node l reply = rw (b, v) at e-o ∙ split (keeps_rules node l) (λ k. rw k (silent_asked node l reply rules_broken)) (λ k. rw k) in
          let a : all ≡ false = not_all (rw v (now_silent node (length reply) rules_broken)) in
          rw (b, keeps-not node l w s) (left_with (no_reply rules_broken node l reply) w o (settled_alone w (ask_of w d) kept all left.number left.size mid a (told_unsound w d (length mid) kept s)))

      module _ (s : store_ok w ≡ true) where
        came_broken : keeps_rules node l ≡ false → Comes
        unfolding control_stored
        came_broken k =
            let o : outcome left zs mid ≡ no_reply rules_broken node l reply = rw (b, k) at e-o in
            let a : all ≡ false = e-a ∙ rw k in
            rw (b, keeps_by node l w s, k) (left_with (no_reply rules_broken node l reply) w o (settled_alone w (ask_of w d) kept all left.number left.size mid a (told_broken w d (length mid) kept (e-k ∙ k))))

        module _ (k : keeps_rules node l ≡ true) where
          asked_for : told (length mid) kept (ask_of w d) ≡ pick {A = Option Query} (asks_store d) (Some (query_of d)) None
          asked_for = told_yes w d (length mid) kept roomy (e-k ∙ k) s

          came-again : is_kept d w ≡ true → Comes
          unfolding control_stored taken_stored no_reply
          came-again e =
              let n = number_in (kept_for d w) in
              let v : wish ≡ A.Silent n = wish_kept w d (asked_of node d) s e in
              let o : outcome left zs mid ≡ no_reply n node l reply = rw (b, k, v) at e-o ∙ silent_asked node l reply n in
              let a : all ≡ false = not_all (rw v (now_silent node (length reply) n)) in
              let g = e-s ∙ settled_again_lem w (ask_of w d) kept all left.number left.size mid a (query_of d) (asked_for ∙ rw (asks_kept w d e)) (found_kept w d e) in
              let i : left ≡ bare n node = ap (λ (y : Outcome). y.answer) o in
              let j : zs ≡ l = ap (λ (y : Outcome). y.table) o in
              let m : mid ≡ reply = ap (λ (y : Outcome). y.reply) o in
              let p = place_kept w d (asks_kept w d e) in
              let h : settled size after ws ≡ settled_again (kept_for d w) reply w = g ∙ rw (m, p) in
              let x : r ≡ replying (length (octets_in (kept_for d w))) (bare n node) = e-r ∙ rw (ap (λ (y : Settled). y.size) h, i) in
              let y = ap (λ (y : Settled). y.reply) h in
              let z = ap (λ (y : Settled). y.store) h in
              rw (b, keeps_by node l w s, k, e, x, y, z, j)

          module _ (e : is_kept d w ≡ false) where
            same : wish ≡ asked_of node d
            same = wish_anew w d (asked_of node d) s e

            comes : outcome left zs mid ≡ asked_taken node l (asked_of node d) reply
            comes = rw (b, k, same) at e-o

            freed : all ≡ restarts_in (asked_of node d) node
            unfolding restarts_now
            freed = e-a ∙ rw (k, b, same)

            -- its reply is kept
            came-kept : asks_store d ≡ true → Comes
            unfolding control_stored taken_stored store_after kept_after ask_of
            came-kept a =
                let o = comes in
                let f : all ≡ false = freed ∙ asked_still node d a in
                let z = (asked_fits node l reply d a).size in
                let i : left ≡ (asked_taken node l (asked_of node d) reply).answer = ap (λ (y : Outcome). y.answer) o in
                let m : mid ≡ (asked_taken node l (asked_of node d) reply).reply = ap (λ (y : Outcome). y.reply) o in
                let q : (asked_taken node l (asked_of node d) reply).answer.size % 256 ≡ (asked_taken node l (asked_of node d) reply).answer.size = omega arith in
                let v : kept_after w (query_of d) left.number left.size mid ≡ store_after node d (asked_taken node l (asked_of node d) reply) w = rw (a, i, m, q) in
                rw (b, keeps_by node l w s, k, e)
                (left_with (asked_taken node l (asked_of node d) reply) (store_after node d (asked_taken node l (asked_of node d) reply) w) o
                (settled_kept w (ask_of w d) kept all left.number left.size mid f (query_of d) (asked_for ∙ rw a) (found_not w d e) ∙ ap (λ (y : List (List ℕ)). settled left.size mid y) v))

            -- it is none whose reply is kept
            came-other : asks_store d ≡ false → Comes
            unfolding control_stored taken_stored store_after emptied
            came-other a =
                rw (b, keeps_by node l w s, k, e, a)
                (split (restarts_in (asked_of node d) node)
                (λ f. rw f (left_with (asked_taken node l (asked_of node d) reply) (map (life_taken true) w) comes
                (settled_all w (ask_of w d) kept all left.number left.size mid (freed ∙ f) ∙ ap (λ (y : List (List ℕ)). settled left.size mid y) (rows_all (life_taken true) w s))))
                (λ f. rw f (left_with (asked_taken node l (asked_of node d) reply) w comes
                (settled_alone w (ask_of w d) kept all left.number left.size mid (freed ∙ f) (asked_for ∙ rw a)))))

            came-anew : Comes
            came-anew = split (asks_store d) came-kept came-other

    control_comes : Comes
    control_comes =
        split (ltb (length reply) least_reply) came_short
        (λ b. split (store_ok w)
        (λ s. split (keeps_rules node l)
        (λ k. split (is_kept d w) (came-again b s k) (came-anew b s k))
        (came_broken b s))
        (came_unsound b))

-- ---- in the words of the code
pub control_lent : (node : Node) (l zs : List Session) (w ws : List (List ℕ)) (d reply mid after : List ℕ) (asked v : Asked) (k : Ask) (p : Concerned) (o : Taken) (size : ℕ) (r : Answer)
    → asked ≡ asked_of node d → k ≡ ask_of w d → v ≡ wish_of w k asked → p ≡ concerned_lent node l v (length reply) → taken_with o mid ≡ taken_on node v p reply
    → length mid ≡ length reply → zs ≡ concerned_put l p o → settled size after ws ≡ settled_of w k p.kept p.all o.number o.size mid
    → r ≡ taken_answer node p o size → stored (outcome r zs after) ws ≡ control_stored node l w d reply
unfolding taken_answer
control_lent node l zs w ws d reply mid after asked v k p o size r e-a e-k e-v e-p e-o long e-z e-s e-r =
    control_comes node l zs w ws d reply mid after (taken_answer node p o o.size) r size long p.kept p.all
    (rw (e-p, is) (concerned_kept node l reply u sound))
    (rw (e-p, is) (concerned_all node l reply u sound))
    (placed_lent_lem node l zs v p reply mid o (taken_answer node p o o.size) e-o e-z refl ∙ rw (e-p, is) (placed_whole node l reply u sound))
    e-r (rw e-k at e-s)
  where
    u : Asked
    u = wish_of w (ask_of w d) (asked_of node d)

    is : v ≡ u
    is = e-v ∙ rw (e-k, e-a)

    sound : AskedSound node.plan u
    sound = wish_sound node w (ask_of w d) d
