-- The steps of fresh on lent records are fresh on the lent list.
-- Assumes nothing.
use Rattle.std.specs.Prelude.{ℕ, List, [], false, ◌≡◌, refl, length, replicate, eqb}
use Rattle.std.proofs.Common.{ap, ◌∙◌, arith, eqb-true}
use Rattle.base_octets.specs.Choice.{pick, split}
use Rattle.base_octets.specs.Places.{map_first, map_none, map_all, map_same}
use Rattle.unit_tunnel.specs.Numbering.{places}
use Rattle.unit_plan.specs.declared.Plan.{Plan}
use Rattle.unit_session.specs.declared.Session.{Session}
use Rattle.unit_table.specs.declared.Change.{Change}
use Rattle.unit_table.specs.declared.Change.TheVariants.{Blank}
use Rattle.unit_table.specs.Become.{changed_by}
use Rattle.unit_table.specs.Change.{nobody}
use Rattle.call_own.specs.declared.Answer.{Answer}
use Rattle.call_own.specs.Outcome.{outcome, no_reply}
use Rattle.call_own.specs.Calls.{fresh_held, fresh_of, fresh_by}
use Rattle.unit_store.specs.Row.{store_rows, blank_row, blanked}
use Rattle.call_store.specs.Stored.{stored, empty_store, fresh_stored}
use Rattle.call_store.specs.Steps.{count_with, cleared_rows}
use Rattle.lent_records.specs.Records.{whole_of, whole_none, whole_all}

nothing_whole : eqb 0 places ≡ false
unfolding places
nothing_whole = refl

all_blank : (l : List Session) (n : ℕ) → n ≡ length l → map_first (changed_by Blank) n l ≡ replicate (length l) nobody
unfolding changed_by
all_blank l n e = map_all (changed_by Blank) n l (omega arith) ∙ map_same nobody l

records_fresh : (p : Plan) (l zs : List Session) (count n : ℕ) (c : Change) (r : Answer)
    → count ≡ length l → n ≡ whole_of count → c ≡ Blank → zs ≡ map_first (changed_by c) n l → r ≡ fresh_by count p
    → outcome r zs [] ≡ fresh_of p l
unfolding fresh_of fresh_by fresh_held no_reply
records_fresh p l zs count n c r e-k e-n e-c e-z e-r =
    split (eqb (length l) places)
    (λ q. rw (e-r, e-z, e-c, e-k, q, all_blank l n (e-n ∙ ap whole_of e-k ∙ whole_all (length l) q), eqb-true (length l) places q))
    (λ q. rw (e-r, e-z, e-k, q, e-n, e-k, whole_none (length l) q, map_none (changed_by c) l))

-- every row is zero
rows_blank : (w : List (List ℕ)) → length w ≡ store_rows → map_first blanked store_rows w ≡ empty_store
unfolding blanked empty_store
rows_blank w e = map_all blanked store_rows w (omega arith) ∙ map_same blank_row w ∙ rw e

pub lent_fresh : (p : Plan) (l zs : List Session) (w ws : List (List ℕ)) (count n rows : ℕ) (c : Change) (r : Answer)
    → count ≡ count_with (length l) (length w) → n ≡ whole_of count → c ≡ Blank → zs ≡ map_first (changed_by c) n l
    → rows ≡ cleared_rows count → ws ≡ map_first blanked rows w → r ≡ fresh_by count p
    → stored (outcome r zs []) ws ≡ fresh_stored p l w
unfolding fresh_stored count_with cleared_rows fresh_by no_reply
lent_fresh p l zs w ws count n rows c r e-k e-n e-c e-z e-m e-w e-r =
    split (eqb (length w) store_rows)
    (λ q. let k : count ≡ length l = rw (e-k, q) in
    let o : outcome r zs [] ≡ fresh_of p l = records_fresh p l zs count n c r k e-n e-c e-z e-r in
    let v : ws ≡ pick (eqb (length l) places) empty_store w = e-w ∙ rw (e-m, k) (split (eqb (length l) places) (λ b. rw b (rows_blank w (eqb-true (length w) store_rows q))) (λ b. rw b (map_none blanked w))) in
    rw (q, o, v))
    (λ q. let k : count ≡ 0 = rw (e-k, q) in
    let z = nothing_whole in
    rw (q, e-r, e-z, e-n, e-w, e-m, k, z, whole_none 0 z, map_none (changed_by c) l, map_none blanked w))
