-- The summary of the digests of a table. The whole check made from it is what the rules say.
-- Assumes nothing.
use Rattle.std.specs.Prelude.{◌≡◌, ℕ, ◌≤◌, Bool, true, false, not, ◌&&◌, List, [], ◌∷◌, map, length, ◌==◌, nat_eq, nat_le, slice_index}
use Rattle.std.proofs.Math.Path.{refl, sym}
use Rattle.std.proofs.Common.{◌∙◌}
use borrow.Author.Tests.{eqb-true, eq-eqb, not-true, not-false}
use Rattle.base_octets.specs.Choice.{pick, split, impossible, and_left, and_right, and_no}
use Rattle.base_octets.specs.Every.{every}
use Rattle.base_octets.specs.Sums.{sum_of, sum_of_map, sum_agree}
use Rattle.unit_tunnel.specs.Numbering.{places}
use Rattle.unit_plan.specs.Plan.{accepted}
use Rattle.unit_sharing.specs.Sharing.{within_ok}
use Rattle.base_distinct.specs.Apart.{none_clash, pairwise, same_key}
use Rattle.unit_session.specs.declared.Session.{Session}
use Rattle.unit_session.specs.declared.Bounds.{Bounds}
use Rattle.unit_session.specs.OwnRequest.{last_number, request_ok}
use Rattle.unit_session.specs.Session.{is_due, record_ok}
use Rattle.unit_table.specs.declared.Node.{Node}
use Rattle.unit_table.specs.Rules.{bounds_of, keeps_rules, rules_of}
use Rattle.step_keys.specs.Survey.{key_of, wait_of, weight_of, awaits_none, waits_of, no_survey, survey_of}
use Rattle.unit_plan.specs.Plan.{parties_four}
use Rattle.step_keys.specs.Check.{unpacked_of, waits_keys, survey_keeps, survey_is, survey_bad, survey_quiet}
use Rattle.step_check.specs.declared.Summary.{Summary}
use Rattle.step_check.specs.declared.Standing.{Standing}
use Rattle.step_check.specs.declared.Standing.TheVariants.{Broken, Quiet, Awaiting}
use Rattle.step_check.specs.declared.Findings.{Findings}
use Rattle.step_check.specs.declared.Checked.{Checked}
use Rattle.step_check.specs.Digest.{digest_of, key_in, weight_in, quiet_in, idle_in, good_in, key_in_lem, quiet_in_lem, idle_in_lem, weight_in_lem, good_in_lem}

unfoldable pub no_summary : Summary
no_summary = record { good = false; quiet = false; idle = false; counts = 0 }

unfoldable pub summary_of : List ℕ → Summary
summary_of ds =
    pick (pairwise same_key (map key_in ds))
    (record { good = every good_in ds; quiet = every quiet_in ds; idle = every idle_in ds; counts = sum_of weight_in ds })
    no_summary

unfoldable pub waiting_of : Summary → Bool
waiting_of g = g.good && not g.quiet

-- the check from the packed counts on, but for the awaited numbers
unfoldable pub from_counts : Node → ℕ → Bool
from_counts node counts =
    within_ok node.plan (λ a. slice_index (unpacked_of counts) a)
    && request_ok node.plan.interval node.plan.resend node.plan.sends node.echo
    && nat_le node.next last_number

-- every rule but that awaited numbers differ, and that
unfoldable pub kept_but : ℕ → Node → Summary → Bool
kept_but count node g = pick (accepted node.plan && count == places && g.good) (from_counts node g.counts) false

unfoldable pub waits_apart : Node → List ℕ → Bool
waits_apart node waits = none_clash same_key (wait_of node.echo) waits && pairwise same_key waits

unfoldable pub kept_of : ℕ → Node → Summary → List ℕ → Bool
kept_of count node g waits =
    pick (accepted node.plan && count == places && g.good)
    (pick g.quiet (from_counts node g.counts) (from_counts node g.counts && (none_clash same_key (wait_of node.echo) waits && pairwise same_key waits)))
    false

-- a rule is broken; or all are kept, and no place awaits a number, or one does
unfoldable pub standing_of : ℕ → Node → Summary → List ℕ → Standing
standing_of count node g waits = pick {A = Standing} (kept_of count node g waits) (pick {A = Standing} g.quiet Quiet Awaiting) Broken

-- with what was read for it
unfoldable pub checked_as : Standing → Findings → Checked
checked_as how findings = record { how = how; findings = findings }

-- the two ways to it
pub quiet_way : (count : ℕ) (node : Node) (g : Summary) (waits : List ℕ) → waiting_of g ≡ false → pick {A = Standing} (kept_but count node g) Quiet Broken ≡ standing_of count node g waits
unfolding kept_but standing_of kept_of waiting_of
quiet_way count node g waits e = split g.good
    (λ h. let q : g.quiet ≡ true = not-false g.quiet (rw h at e) in rw (h, q))
    (λ h. rw (h, and_no (accepted node.plan && count == places)))

pub awaiting_way : (count : ℕ) (node : Node) (g : Summary) (waits : List ℕ) → waiting_of g ≡ true
    → pick {A = Standing} (kept_but count node g && waits_apart node waits) Awaiting Broken ≡ standing_of count node g waits
unfolding kept_but waits_apart standing_of kept_of waiting_of
awaiting_way count node g waits e =
    let h = and_left g.good (not g.quiet) e in
    let q = not-true g.quiet (and_right g.good (not g.quiet) e) in
    rw (h, q) (split (accepted node.plan && count == places && true) (λ f. rw f) (λ f. rw f))

-- the same of a list of records
unfoldable pub stands_of : Node → List Session → Standing
stands_of node l = pick {A = Standing} (keeps_rules node l) (pick {A = Standing} (every awaits_none l) Quiet Awaiting) Broken

unfoldable pub stands_by : Standing → Bool
stands_by Broken = false
stands_by Quiet = true
stands_by Awaiting = true

-- how a table stands, by a number
unfoldable pub standing_by : ℕ → Standing
standing_by n = pick {A = Standing} (n == 0) Broken (pick {A = Standing} (n == 1) Quiet Awaiting)

-- a place awaits a number
unfoldable pub awaits : Standing → Bool
awaits Broken = false
awaits Quiet = false
awaits Awaiting = true

-- every number has its answer: by 0 a rule is broken, by any other all are kept
pub stands_numbered : (n : ℕ) → stands_by (standing_by n) ≡ not (n == 0)
unfolding stands_by standing_by
stands_numbered n = split (n == 0) (λ z. rw z) (λ z. split (n == 1) (λ o. rw (z, o)) (λ o. rw (z, o)))

pub stands_kept : (node : Node) (l : List Session) → stands_by (stands_of node l) ≡ keeps_rules node l
unfolding stands_by stands_of
stands_kept node l = split (keeps_rules node l) (λ k. split (every awaits_none l) (λ q. rw (k, q)) (λ q. rw (k, q))) (λ k. rw k)

-- ---- the digests of a list of records
module _ (b : Bounds) where
  goods : (l : List Session) → every good_in (map (digest_of b) l) ≡ every (record_ok b) l
  unfolding every
  goods [] = refl
  goods (s ∷ l) = rw (good_in_lem b s, goods l)

  quiets : (l : List Session) → every (record_ok b) l ≡ true → every quiet_in (map (digest_of b) l) ≡ every awaits_none l
  unfolding every
  quiets [] e = refl
  quiets (s ∷ l) e = rw (quiet_in_lem b s (and_left (record_ok b s) (every (record_ok b) l) e), quiets l (and_right (record_ok b s) (every (record_ok b) l) e))

  idles : (l : List Session) → every (record_ok b) l ≡ true → every idle_in (map (digest_of b) l) ≡ every (λ s. not (is_due s)) l
  unfolding every
  idles [] e = refl
  idles (s ∷ l) e = rw (idle_in_lem b s (and_left (record_ok b s) (every (record_ok b) l) e), idles l (and_right (record_ok b s) (every (record_ok b) l) e))

  keys : (l : List Session) → every (record_ok b) l ≡ true → map key_in (map (digest_of b) l) ≡ map key_of l
  unfolding every
  keys [] e = refl
  keys (s ∷ l) e = rw (key_in_lem b s (and_left (record_ok b s) (every (record_ok b) l) e), keys l (and_right (record_ok b s) (every (record_ok b) l) e))

  weights : b.parties ≤ 4 → (l : List Session) → every (record_ok b) l ≡ true → sum_of weight_in (map (digest_of b) l) ≡ sum_of weight_of l
  weights four l e = sum_of_map weight_in (digest_of b) l ∙ sum_agree (record_ok b) (λ s. weight_in (digest_of b s)) weight_of l e (λ s ok. weight_in_lem b s ok four)

-- ---- what the summary of the digests comes to, the plan accepted and the places there
module _ (node : Node) (l : List Session) (waits : List ℕ) (planned : accepted node.plan ≡ true) (size : length l ≡ places) where
  abbrev b : Bounds
  b = bounds_of node.plan

  abbrev seen : Summary
  seen = summary_of (map (digest_of b) l)

  few : b.parties ≤ 4
  unfolding bounds_of
  few = parties_four node.plan planned

  -- a record that breaks the rules
  bad_seen : every (record_ok b) l ≡ false → seen.good ≡ false
  unfolding summary_of no_summary
  bad_seen e = split (pairwise same_key (map key_in (map (digest_of b) l))) (λ p. rw (p, goods b l, e)) (λ p. rw p)

  bad_rules : every (record_ok b) l ≡ false → keeps_rules node l ≡ false
  unfolding survey_of no_survey
  bad_rules e = survey_bad node l planned size (rw e)

  module _ (each : every (record_ok b) l ≡ true) where
    good_seen : seen ≡ pick (pairwise same_key (map key_of l)) (record { good = true; quiet = every awaits_none l; idle = every (λ s. not (is_due s)) l; counts = sum_of weight_of l }) no_summary
    unfolding summary_of
    good_seen = rw (keys b l each, goods b l, quiets b l each, idles b l each, weights b few l each, each)

    -- a key twice
    twice_seen : pairwise same_key (map key_of l) ≡ false → seen.good ≡ false
    unfolding no_summary
    twice_seen p = rw (good_seen, p)

    twice_rules : pairwise same_key (map key_of l) ≡ false → keeps_rules node l ≡ false
    unfolding survey_of survey_keeps
    twice_rules p = sym (survey_is node l planned size) ∙ rw (each, p)

    module _ (apart : pairwise same_key (map key_of l) ≡ true) where
      apart_seen : seen ≡ record { good = true; quiet = every awaits_none l; idle = every (λ s. not (is_due s)) l; counts = sum_of weight_of l }
      apart_seen = good_seen ∙ rw apart

      same_check : from_counts node seen.counts ≡ survey_keeps node (survey_of b l)
      unfolding from_counts survey_keeps survey_of
      same_check = rw (apart_seen, each, apart)

      quiet-rules : every awaits_none l ≡ true → from_counts node seen.counts ≡ keeps_rules node l
      unfolding survey_of
      quiet-rules q = same_check ∙ survey_quiet node l planned size (rw (each, q))

      awaiting_rules : waits ≡ waits_of l → (from_counts node seen.counts && (none_clash same_key (wait_of node.echo) waits && pairwise same_key waits)) ≡ keeps_rules node l
      awaiting_rules w = rw (same_check, w, waits_keys node.echo l) (survey_is node l planned size)

      kept_apart : (waiting_of seen ≡ true → waits ≡ waits_of l) → kept_of (length l) node seen waits ≡ keeps_rules node l
      unfolding kept_of waiting_of
      kept_apart f =
          let g : seen.good ≡ true = rw apart_seen in
          let q : seen.quiet ≡ every awaits_none l = rw apart_seen in
          rw (planned, eq-eqb (length l) places size, g, q)
          (split (every awaits_none l) (λ e. rw e (quiet-rules e)) (λ e. rw e (awaiting_rules (f (rw (g, q, e))))))

  -- where the rules are kept, quiet is said of every record
  pub quiet_seen : keeps_rules node l ≡ true → seen.quiet ≡ every awaits_none l
  quiet_seen k = split (every (record_ok b) l)
      (λ e. split (pairwise same_key (map key_of l)) (λ p. rw (apart_seen e p)) (λ p. impossible (sym (twice_rules e p) ∙ k)))
      (λ e. impossible (sym (bad_rules e) ∙ k))

  -- and so are what is due and the packed counts
  pub idle_seen : keeps_rules node l ≡ true → seen.idle ≡ every (λ s. not (is_due s)) l
  idle_seen k = split (every (record_ok b) l)
      (λ e. split (pairwise same_key (map key_of l)) (λ p. rw (apart_seen e p)) (λ p. impossible (sym (twice_rules e p) ∙ k)))
      (λ e. impossible (sym (bad_rules e) ∙ k))

  pub packed_seen : keeps_rules node l ≡ true → seen.counts ≡ sum_of weight_of l
  packed_seen k = split (every (record_ok b) l)
      (λ e. split (pairwise same_key (map key_of l)) (λ p. rw (apart_seen e p)) (λ p. impossible (sym (twice_rules e p) ∙ k)))
      (λ e. impossible (sym (bad_rules e) ∙ k))

  kept_none : seen.good ≡ false → keeps_rules node l ≡ false → kept_of (length l) node seen waits ≡ keeps_rules node l
  unfolding kept_of
  kept_none g r = rw (g, r, and_no (accepted node.plan && length l == places))

  kept_sized : (waiting_of seen ≡ true → waits ≡ waits_of l) → kept_of (length l) node seen waits ≡ keeps_rules node l
  kept_sized f = split (every (record_ok b) l)
      (λ e. split (pairwise same_key (map key_of l)) (λ p. kept_apart e p f) (λ p. kept_none (twice_seen e p) (twice_rules e p)))
      (λ e. kept_none (bad_seen e) (bad_rules e))

-- the check from the digests of the records, and from the awaited numbers where one is awaited, is what the rules say
pub kept_is : (node : Node) (l : List Session) (ds waits : List ℕ)
    → (length l ≡ places → ds ≡ map (digest_of (bounds_of node.plan)) l)
    → (length l ≡ places → waiting_of (summary_of ds) ≡ true → waits ≡ waits_of l)
    → kept_of (length l) node (summary_of ds) waits ≡ keeps_rules node l
unfolding kept_of keeps_rules
kept_is node l ds waits d w = split (accepted node.plan)
    (λ a. split (length l == places)
    (λ e. let n = eqb-true (length l) places e in let q = d n in rw q (kept_sized node l waits a n (rw q at (w n))))
    (λ e. kept_other e))
    (λ a. kept_refused a)
  where
    kept_other : nat_eq (length l) places ≡ false → kept_of (length l) node (summary_of ds) waits ≡ keeps_rules node l
    kept_other e = rw (e, and_no (accepted node.plan))

    kept_refused : accepted node.plan ≡ false → kept_of (length l) node (summary_of ds) waits ≡ keeps_rules node l
    kept_refused a = rw a

pub standing_is : (node : Node) (l : List Session) (ds waits : List ℕ)
    → (length l ≡ places → ds ≡ map (digest_of (bounds_of node.plan)) l)
    → (length l ≡ places → waiting_of (summary_of ds) ≡ true → waits ≡ waits_of l)
    → standing_of (length l) node (summary_of ds) waits ≡ stands_of node l
unfolding standing_of stands_of
standing_is node l ds waits d w = rw (kept_is node l ds waits d w) (split (keeps_rules node l)
    (λ k. let r = rules_of node l k in rw (k, d r.size, quiet_seen node l waits r.planned r.size k))
    (λ k. rw k))
