-- The check on lent records, step by step, finds how they stand.
-- Assumes nothing.
use Rattle.std.specs.Prelude.{ℕ, Bool, false, not, ◌&&◌, ◌≡◌, eqb}
use Rattle.std.proofs.Math.Bool.{true}
use mathlib.Core.List.{List, [], ◌∷◌, map}
use Rattle.std.proofs.Math.Path.{refl, ap}
use Rattle.std.proofs.Common.{sym, ◌∙◌}
use Rattle.std.proofs.Math.ListN.{length, replicate}
use Rattle.base_octets.specs.Choice.{pick, split, and_left, and_right}
use Rattle.base_octets.specs.Every.{every}
use Rattle.base_octets.specs.Search.{first_of}
use Rattle.base_octets.specs.Sums.{sum_of}
use Rattle.unit_tunnel.specs.Numbering.{places}
use Rattle.unit_session.specs.declared.Session.{Session}
use Rattle.unit_session.specs.declared.Bounds.{Bounds}
use Rattle.unit_table.specs.declared.Node.{Node}
use Rattle.unit_session.specs.Session.{is_due}
use Rattle.unit_table.specs.Rules.{bounds_of, keeps_rules, rules_of}
use Rattle.step_keys.specs.Survey.{wait_of, waits_of, weight_of, awaits_none}
use Rattle.step_check.specs.declared.Findings.{Findings}
use Rattle.step_check.specs.declared.Checked.{Checked}
use Rattle.step_check.specs.declared.Standing.{Standing}
use Rattle.step_check.specs.declared.Standing.TheVariants.{Broken, Quiet, Awaiting}
use Rattle.step_check.specs.Digest.{digest_of}
use Rattle.step_check.specs.Summary.{summary_of, waiting_of, kept_but, waits_apart, standing_of, checked_as, awaits, stands_of, quiet_way, awaiting_way, standing_is, idle_seen, packed_seen}
use Rattle.step_check.specs.Findings.{findings_of, key_place, free_in, due_in}
use Rattle.lent_check.specs.Read.{read_of, read_all}

-- what the check finds of the records: how they stand, and what their digests say
unfoldable pub checked_of : Node → ℕ → List Session → Checked
checked_of node key l = record { how = stands_of node l; findings = findings_of key (read_of (digest_of (bounds_of node.plan)) true l) }

pub checked_how : (node : Node) (key : ℕ) (l : List Session) → (checked_of node key l).how ≡ stands_of node l
unfolding checked_of
checked_how node key l = refl

-- the numbers read of the records, and what was asked for them
module _ (node : Node) (key : ℕ) (l : List Session) (b : Bounds) (findings : Findings) (wanted : Bool) (waits : List ℕ)
    (e-b : b ≡ bounds_of node.plan) (e-d : findings ≡ findings_of key (read_of (digest_of b) true l)) (e-w : wanted ≡ waiting_of findings.summary)
    (e-a : waits ≡ read_of (λ z. wait_of z.own) wanted l) where
  abbrev ds : List ℕ
  ds = read_of (digest_of b) true l

  digested : length l ≡ places → ds ≡ map (digest_of (bounds_of node.plan)) l
  digested n = rw e-b (read_all (digest_of (bounds_of node.plan)) l n)

  glanced : findings.summary ≡ summary_of ds
  unfolding findings_of
  glanced = rw e-d

  waited : length l ≡ places → waiting_of (summary_of ds) ≡ true → waits ≡ waits_of l
  unfolding waits_of
  waited n w = let t : wanted ≡ true = e-w ∙ rw glanced w in e-a ∙ rw t (read_all (λ z. wait_of z.own) l n)

  standing_lent : standing_of (length l) node findings.summary waits ≡ stands_of node l
  standing_lent = rw glanced (standing_is node l ds waits digested waited)

  -- on the two ways
  pub checked_apart : wanted ≡ true → checked_as (pick {A = Standing} (kept_but (length l) node findings.summary && waits_apart node waits) Awaiting Broken) findings ≡ checked_of node key l
  unfolding checked_as checked_of
  checked_apart t = let s = awaiting_way (length l) node findings.summary waits (sym e-w ∙ t) ∙ standing_lent in rw (s, e-d, e-b)

  pub checked_calm : wanted ≡ false → checked_as (pick {A = Standing} (kept_but (length l) node findings.summary) Quiet Broken) findings ≡ checked_of node key l
  unfolding checked_as checked_of
  checked_calm f = let s = quiet_way (length l) node findings.summary waits (sym e-w ∙ f) ∙ standing_lent in rw (s, e-d, e-b)

-- ---- what is seen of records that keep the rules
module _ (node : Node) (key : ℕ) (l : List Session) (kept : keeps_rules node l ≡ true) where
  abbrev b : Bounds
  b = bounds_of node.plan

  whole_findings : (checked_of node key l).findings ≡ findings_of key (map (digest_of b) l)
  unfolding checked_of
  whole_findings = rw (read_all (digest_of b) l (rules_of node l kept).size)

  pub checked_idle : (checked_of node key l).findings.summary.idle ≡ every (λ s. not (is_due s)) l
  unfolding findings_of
  checked_idle = let r = rules_of node l kept in rw whole_findings (idle_seen node l [] r.planned r.size kept)

  pub checked_packed : (checked_of node key l).findings.summary.counts ≡ sum_of weight_of l
  unfolding findings_of
  checked_packed = let r = rules_of node l kept in rw whole_findings (packed_seen node l [] r.planned r.size kept)

  -- the places: that of a key and the first free one, where a key is asked for, and the first whose request is due
  pub checked_old : eqb key 0 ≡ false → (checked_of node key l).findings.old ≡ key_place (map (digest_of b) l) key
  unfolding findings_of
  checked_old k = rw (whole_findings, k)

  pub checked_free : eqb key 0 ≡ false → (checked_of node key l).findings.free ≡ free_in (map (digest_of b) l)
  unfolding findings_of
  checked_free k = rw (whole_findings, k)

  pub checked_due : (checked_of node key l).findings.summary.idle ≡ false → (checked_of node key l).findings.due ≡ first_of due_in (map (digest_of b) l)
  unfolding findings_of
  checked_due i = let e = rw whole_findings at i in rw (whole_findings, e)

  pub checked_undue : (checked_of node key l).findings.summary.idle ≡ true → (checked_of node key l).findings.due ≡ places
  unfolding findings_of
  checked_undue i = let e = rw whole_findings at i in rw (whole_findings, e)

  -- where no number is awaited every key is 0
  quiet_waits : (m : List Session) → every awaits_none m ≡ true → replicate (length m) 0 ≡ waits_of m
  unfolding waits_of wait_of every awaits_none
  quiet_waits [] e = refl
  quiet_waits (s ∷ m) e = rw (and_left (awaits_none s) (every awaits_none m) e) (ap (λ (t : List ℕ). 0 ∷ t) (quiet_waits m (and_right (awaits_none s) (every awaits_none m) e)))

  -- none is read where none is awaited
  unread : every awaits_none l ≡ true → read_of (λ z. wait_of z.own) false l ≡ waits_of l
  unfolding read_of places
  unread e = let n : length l ≡ places = (rules_of node l kept).size in ap (λ (k : ℕ). replicate k 0) (sym n) ∙ quiet_waits l e

  whole : read_of (λ z. wait_of z.own) true l ≡ waits_of l
  unfolding waits_of
  whole = read_all (λ z. wait_of z.own) l (rules_of node l kept).size

  -- what they await, read where one awaits a number
  pub checked_waits : (awaiting : Bool) → awaiting ≡ awaits (checked_of node key l).how → read_of (λ z. wait_of z.own) awaiting l ≡ waits_of l
  unfolding checked_of stands_of awaits
  checked_waits awaiting e = split (every awaits_none l) (λ q. rw (e, kept, q) (unread q)) (λ q. rw (e, kept, q) whole)
