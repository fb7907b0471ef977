-- The check of a whole table, read off the survey, is what the rules say.
-- Assumes nothing.
use Rattle.std.specs.Prelude.{ℕ, zero, suc, ◌+◌, ◌*◌, ◌/◌, ◌%◌, ◌<◌, ◌≤◌, Bool, true, false, not, ◌&&◌, List, [], ◌∷◌, map, ◌≡◌, refl, length, get_or, eqb, leb, ltb}
use Rattle.std.proofs.Common.{sym, ◌∙◌, ap, arith, eqb-true, eq-eqb, ne_eqb}
use Rattle.std.proofs.lemmas.Bool.{eqb-false}
use mir.Val.{bool_byte}
use Rattle.base_octets.specs.Choice.{split, and_left, and_right, and_no, tests}
use Rattle.base_octets.specs.Every.{every, every_rest}
use Rattle.base_octets.specs.Sums.{sum_of, count_most}
use Rattle.unit_tunnel.specs.Numbering.{places}
use Rattle.unit_plan.specs.Plan.{accepted, parties_four}
use Rattle.unit_sharing.specs.Sharing.{within_ok, within_agree}
use Rattle.base_distinct.specs.Apart.{none_clash, pairwise, same_key, none_keys, pairwise_keys}
use Rattle.unit_session.specs.declared.OwnRequest.{OwnRequest}
use Rattle.unit_session.specs.declared.Session.{Session}
use Rattle.unit_session.specs.declared.Bounds.{Bounds}
use Rattle.unit_session.specs.OwnRequest.{last_number, request_ok, awaits}
use Rattle.unit_session.specs.Session.{is_free, is_on, has_id, record_ok, held_ok, read_ok, imsis}
use Rattle.unit_session.specs.Keep.{live_of}
use Rattle.unit_table.specs.declared.Node.{Node}
use Rattle.unit_table.specs.Rules.{live_on, live, bounds_of, same_id, same_wait, requests, keeps_rules}
use Rattle.step_keys.specs.Survey.{Survey, key_of, wait_of, point_unit, weight_of, awaits_none, waits_of, no_survey, survey_of, and_yes, imsi_part, second_unit, third_unit, fourth_unit}

-- four counts out of one number
unfoldable pub unpacked_of : ℕ → List ℕ
unpacked_of c = c % 65536 ∷ c / 65536 % 65536 ∷ c / 65536 / 65536 % 65536 ∷ c / 65536 / 65536 / 65536 % 65536 ∷ []

-- ---- keys clash where sessions do
pub known_id : (b : Bounds) (s : Session) → record_ok b s ≡ true → is_free s ≡ false → (s.imsi < 1000000000000000) × ((5 ≤ s.ebi) × (s.ebi ≤ 15))
unfolding held_ok read_ok imsis
known_id b s e n =
    let h = (live_of b s e n).held in
    let i : ltb s.imsi 1000000000000000 ≡ true = search (and_left, and_right) depth 9 in
    let l : leb 5 s.ebi ≡ true = search (and_left, and_right) depth 9 in
    let m : leb s.ebi 15 ≡ true = search (and_left, and_right) depth 9 in
    (omega (arith, tests), (omega (arith, tests), omega (arith, tests)))

pub same_key_lem : (b : Bounds) (x y : Session) → record_ok b x ≡ true → record_ok b y ≡ true → same_key (key_of x) (key_of y) ≡ same_id x y
unfolding key_of same_key same_id has_id
same_key_lem b x y e f = split (is_free x) free taken
  where
    free : is_free x ≡ true → same_key (key_of x) (key_of y) ≡ same_id x y
    free n = rw n

    taken : is_free x ≡ false → same_key (key_of x) (key_of y) ≡ same_id x y
    taken n =
        let i = known_id b x e n in
        let z : eqb (x.imsi % imsi_part * 256 + x.ebi) 0 ≡ false = ne_eqb (x.imsi % imsi_part * 256 + x.ebi) 0 (λ q. omega arith) in
        split (is_free y)
        (λ m. rw (n, m, z))
        (λ m. let j = known_id b y f m in rw (n, m, z)
        (split (eqb y.imsi x.imsi)
        (λ t. let a = eqb-true y.imsi x.imsi t in split (eqb y.ebi x.ebi)
        (λ u. let c = eqb-true y.ebi x.ebi u in rw (t, u, eq-eqb (x.imsi % imsi_part * 256 + x.ebi) (y.imsi % imsi_part * 256 + y.ebi) (omega arith)))
        (λ u. let c = eqb-false y.ebi x.ebi u in rw (t, u, ne_eqb (x.imsi % imsi_part * 256 + x.ebi) (y.imsi % imsi_part * 256 + y.ebi) (λ q. omega arith))))
        (λ t. let a = eqb-false y.imsi x.imsi t in rw (t, ne_eqb (x.imsi % imsi_part * 256 + x.ebi) (y.imsi % imsi_part * 256 + y.ebi) (λ q. omega arith)))))

pub same_wait_key : (r q : OwnRequest) → same_key (wait_of r) (wait_of q) ≡ same_wait r q
unfolding wait_of same_key same_wait awaits
same_wait_key r q =
    split (eqb r.sends 0)
    (λ n. rw n)
    (λ n. let z : eqb (r.number + 1) 0 ≡ false = ne_eqb (r.number + 1) 0 (λ y. omega arith) in
    split (eqb q.sends 0)
    (λ m. rw (n, m, z))
    (λ m. rw (n, m, z)
    (split (eqb q.number r.number)
    (λ t. let a = eqb-true q.number r.number t in rw (t, eq-eqb (r.number + 1) (q.number + 1) (omega arith)))
    (λ t. let a = eqb-false q.number r.number t in rw (t, ne_eqb (r.number + 1) (q.number + 1) (λ y. omega arith))))))

-- ---- counts come out of the packed sum
weight_is : (s : Session) → weight_of s ≡ bool_byte (is_on 0 s) + second_unit * bool_byte (is_on 1 s) + third_unit * bool_byte (is_on 2 s) + fourth_unit * bool_byte (is_on 3 s)
unfolding weight_of point_unit is_on
weight_is s =
    split (is_free s) (λ n. rw n (omega arith))
    (λ n. split (eqb s.point 0) (λ e. rw (n, eqb-true s.point 0 e) (omega arith))
    (λ e. split (eqb s.point 1) (λ f. rw (n, eqb-true s.point 1 f) (omega arith))
    (λ f. split (eqb s.point 2) (λ g. rw (n, eqb-true s.point 2 g) (omega arith))
    (λ g. split (eqb s.point 3) (λ h. rw (n, eqb-true s.point 3 h) (omega arith)) (λ h. rw (n, e, f, g, h) (omega arith))))))

pub packed : (l : List Session) → sum_of weight_of l ≡ live_on 0 l + second_unit * live_on 1 l + third_unit * live_on 2 l + fourth_unit * live_on 3 l
unfolding sum_of live_on
packed [] = omega arith
packed (s ∷ l) = let w = weight_is s in let r = packed l in omega arith

low : (c u r : ℕ) → c ≡ u + 65536 * r → u < 65536 → (c % 65536 ≡ u) × (c / 65536 ≡ r)
low c u r e h = (omega arith, omega arith)

live_most : (a : ℕ) (l : List Session) → live_on a l ≤ length l
unfolding live_on
live_most a l = count_most (is_on a) l

pub unpacked_at : (l : List Session) → length l ≤ 65535 → (a : ℕ) → a < 4 → get_or (unpacked_of (sum_of weight_of l)) a 0 ≡ live_on a l
unfolding unpacked_of
unpacked_at l n a h = pick_out a h
  where
    r2 : ℕ
    r2 = live_on 2 l + 65536 * live_on 3 l

    r1 : ℕ
    r1 = live_on 1 l + 65536 * r2

    s0 : (sum_of weight_of l % 65536 ≡ live_on 0 l) × (sum_of weight_of l / 65536 ≡ r1)
    s0 = let p = packed l in let m = live_most 0 l in low (sum_of weight_of l) (live_on 0 l) r1 (omega arith) (omega arith)

    s1 : (sum_of weight_of l / 65536 % 65536 ≡ live_on 1 l) × (sum_of weight_of l / 65536 / 65536 ≡ r2)
    s1 = let m = live_most 1 l in low (sum_of weight_of l / 65536) (live_on 1 l) r2 s0.1 (omega arith)

    s2 : (sum_of weight_of l / 65536 / 65536 % 65536 ≡ live_on 2 l) × (sum_of weight_of l / 65536 / 65536 / 65536 ≡ live_on 3 l)
    s2 = let m = live_most 2 l in low (sum_of weight_of l / 65536 / 65536) (live_on 2 l) (live_on 3 l) s1.1 (omega arith)

    s3 : sum_of weight_of l / 65536 / 65536 / 65536 % 65536 ≡ live_on 3 l
    s3 = let m = live_most 3 l in let e = s2.1 in omega arith

    pick_out : (b : ℕ) → b < 4 → get_or (unpacked_of (sum_of weight_of l)) b 0 ≡ live_on b l
    pick_out zero k = s0.0
    pick_out (suc zero) k = s1.0
    pick_out (suc (suc zero)) k = s2.0
    pick_out (suc (suc (suc zero))) k = s3
    pick_out (suc (suc (suc (suc b)))) k = absurd (omega arith)

-- ---- the whole
waits_are : (l : List Session) → map wait_of (map (λ s. s.own) l) ≡ map (λ s. wait_of s.own) l
waits_are [] = refl
waits_are (s ∷ l) = ap (λ (m : List ℕ). wait_of s.own ∷ m) (waits_are l)

all_any : {A : Type 0} (l : List A) → every (λ x. true) l ≡ true
unfolding every
all_any [] = refl
all_any (x ∷ l) = all_any l

-- the awaited numbers of echo and places differ where their keys do
pub waits_keys : (echo : OwnRequest) (l : List Session)
    → (none_clash same_key (wait_of echo) (waits_of l) && pairwise same_key (waits_of l)) ≡ pairwise same_wait (requests echo l)
unfolding requests pairwise every_rest waits_of
waits_keys echo l =
    rw (
      ← waits_are l,
      none_keys same_wait wait_of (λ r. true) (λ r q e f. same_wait_key r q) echo (map (λ s. s.own) l) refl (all_any (map (λ s. s.own) l)),
    )
    (ap (λ (t : Bool). none_clash same_wait echo (map (λ s. s.own) l) && t)
    (pairwise_keys same_wait wait_of (λ r. true) (λ r q e f. same_wait_key r q) (map (λ s. s.own) l) (all_any (map (λ s. s.own) l))))

-- ---- where no place awaits a number none is awaited twice, whatever the echo does
silent_none : (r : OwnRequest) (l : List Session) → every awaits_none l ≡ true → none_clash same_wait r (map (λ s. s.own) l) ≡ true
unfolding none_clash every awaits_none same_wait awaits
silent_none r [] e = refl
silent_none r (s ∷ l) e =
    let q : eqb s.own.sends 0 ≡ true = and_left (awaits_none s) (every awaits_none l) e in
    rw (q, and_no (not (eqb r.sends 0))) (silent_none r l (and_right (awaits_none s) (every awaits_none l) e))

silent-places : (l : List Session) → every awaits_none l ≡ true → pairwise same_wait (map (λ s. s.own) l) ≡ true
unfolding pairwise every_rest every
silent-places [] e = refl
silent-places (s ∷ l) e = let r = and_right (awaits_none s) (every awaits_none l) e in rw (silent_none s.own l r) (silent-places l r)

pub silent_waits : (echo : OwnRequest) (l : List Session) → every awaits_none l ≡ true → pairwise same_wait (requests echo l) ≡ true
unfolding requests pairwise every_rest
silent_waits echo l e = rw (silent_none echo l e) (silent-places l e)

-- what the check computes, from the survey on, but for the awaited numbers
unfoldable pub survey_keeps : Node → Survey → Bool
survey_keeps node v =
    v.good
    && pairwise same_key v.keys
    && within_ok node.plan (λ a. get_or (unpacked_of v.counts) a 0)
    && request_ok node.plan.interval node.plan.resend node.plan.sends node.echo
    && leb node.next last_number

pub refused_plan : (node : Node) (l : List Session) → accepted node.plan ≡ false → keeps_rules node l ≡ false
unfolding keeps_rules
refused_plan node l e = rw e

places_few : places ≤ 65535
unfolding places
places_few = omega arith

no_good : no_survey.good ≡ false
unfolding no_survey
no_good = refl

-- the rules are what is checked and that the awaited numbers differ
pub survey_is : (node : Node) (l : List Session) → accepted node.plan ≡ true → length l ≡ places
    → (survey_keeps node (survey_of (bounds_of node.plan) l) && pairwise same_wait (requests node.echo l)) ≡ keeps_rules node l
unfolding survey_keeps keeps_rules survey_of
survey_is node l a n = split (every (record_ok (bounds_of node.plan)) l) good bad
  where
    bad : every (record_ok (bounds_of node.plan)) l ≡ false
        → (survey_keeps node (survey_of (bounds_of node.plan) l) && pairwise same_wait (requests node.echo l)) ≡ keeps_rules node l
    bad e = rw (e, no_good, a, eq-eqb (length l) places n)

    size : length l ≤ 65535
    size = let m = places_few in omega arith

    good : every (record_ok (bounds_of node.plan)) l ≡ true
        → (survey_keeps node (survey_of (bounds_of node.plan) l) && pairwise same_wait (requests node.echo l)) ≡ keeps_rules node l
    good e =
        rw (
          e,
          a,
          eq-eqb (length l) places n,
          pairwise_keys same_id key_of (record_ok (bounds_of node.plan)) (same_key_lem (bounds_of node.plan)) l e,
          within_agree node.plan (λ b. get_or (unpacked_of (sum_of weight_of l)) b 0) (live l)
              (λ b h. let f = parties_four node.plan a in unpacked_at l size b (omega arith)),
        )

pub survey_bad : (node : Node) (l : List Session) → accepted node.plan ≡ true → length l ≡ places
    → (survey_of (bounds_of node.plan) l).good ≡ false → keeps_rules node l ≡ false
unfolding survey_keeps
survey_bad node l a n g = sym (survey_is node l a n) ∙ rw g

-- a quiet survey leaves nothing to compare: either every record is good and none awaits, or the check fails anyway
pub survey_quiet : (node : Node) (l : List Session) → accepted node.plan ≡ true → length l ≡ places
    → (survey_of (bounds_of node.plan) l).quiet ≡ true → survey_keeps node (survey_of (bounds_of node.plan) l) ≡ keeps_rules node l
unfolding survey_keeps survey_of
survey_quiet node l a n q = sym (split (every (record_ok (bounds_of node.plan)) l) good bad) ∙ survey_is node l a n
  where
    bad : every (record_ok (bounds_of node.plan)) l ≡ false
        → (survey_keeps node (survey_of (bounds_of node.plan) l) && pairwise same_wait (requests node.echo l)) ≡ survey_keeps node (survey_of (bounds_of node.plan) l)
    bad e = rw (e, no_good)

    good : every (record_ok (bounds_of node.plan)) l ≡ true
        → (survey_keeps node (survey_of (bounds_of node.plan) l) && pairwise same_wait (requests node.echo l)) ≡ survey_keeps node (survey_of (bounds_of node.plan) l)
    good e = rw (silent_waits node.echo l (rw e at q)) (and_yes (survey_keeps node (survey_of (bounds_of node.plan) l)))
