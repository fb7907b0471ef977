-- What a Recovery value of the exchange says beside the one that is stored: restart counters are compared modulo 256, as TS 23.007
-- does.
-- Assumes nothing.
use Rattle.std.specs.Prelude.{◌≡◌, ℕ, ◌+◌, ◌-◌, ◌%◌, ◌^◌, ◌<◌, ◌≤◌, Bool, true, false, ◌&&◌, ◌==◌, nat_le, refl}
use Rattle.std.proofs.Common.{arith}
use mir.Val.{bool_byte}
use borrow.Author.Tests.{eq-eqb, ne_eqb, le-leb, lt-leb}
use Rattle.base_octets.specs.Choice.{pick, split, and_left, and_right, tests}
use Rattle.unit_table.specs.declared.Node.{Node}
use Rattle.unit_table.specs.declared.Judged.{Judged}
use Rattle.unit_table.specs.declared.Judged.TheVariants as J

-- received minus stored, modulo 256
unfoldable pub turned : ℕ → ℕ → ℕ
turned received stored = (received + 256 - stored) % 256

-- the most that the value after a restart is ahead of the stored one
unfoldable pub most_ahead : ℕ
most_ahead = 127

-- 0: same; 1 to 127: restarted; 128 to 255: late
unfoldable pub judged : ℕ → Judged
judged d = pick (d == 0) J.Same (pick (nat_le d most_ahead) J.Restarted J.Late)

-- by a node: the first value is stored, as the same one is
unfoldable pub judged_by : Node → ℕ → Judged
judged_by node value = pick (node.heard == 0) J.Same (judged (turned value node.recovery))

-- which of the three it is
unfoldable pub is_same : Judged → Bool
is_same J.Same = true
is_same J.Restarted = false
is_same J.Late = false

unfoldable pub is_restarted : Judged → Bool
is_restarted J.Same = false
is_restarted J.Restarted = true
is_restarted J.Late = false

unfoldable pub is_late : Judged → Bool
is_late J.Same = false
is_late J.Restarted = false
is_late J.Late = true

-- the value stored
unfoldable pub hearing : ℕ → Node → Node
hearing value node = record { plan = node.plan; echo = node.echo; next = node.next; heard = 1; recovery = value }

-- ---- laws
-- in the words of the code: what gives received with stored added to it
pub turned_is : (d received stored : ℕ) → d < 256 → stored < 256 → (d + stored) % 2 ^ 8 ≡ received → d ≡ turned received stored
unfolding turned
turned_is d received stored h k e = omega arith

pub judged_same : (d : ℕ) → d ≡ 0 → judged d ≡ J.Same
unfolding judged
judged_same d h = rw (eq-eqb d 0 h)

pub judged_restarted : (d : ℕ) → 1 ≤ d → d ≤ most_ahead → judged d ≡ J.Restarted
unfolding judged
judged_restarted d h k = rw (ne_eqb d 0 (λ z. omega arith), le-leb d most_ahead k)

pub judged_late : (d : ℕ) → most_ahead < d → judged d ≡ J.Late
unfolding judged most_ahead
judged_late d h = rw (ne_eqb d 0 (λ z. omega arith), lt-leb d 127 h)

-- a difference is one of 256, and each of these is in one of the three ranges and in no other
pub turned_most : (received stored : ℕ) → turned received stored < 256
unfolding turned
turned_most received stored = omega arith

pub same_range : (d : ℕ) → is_same (judged d) ≡ (d == 0)
unfolding judged is_same
same_range d = split (d == 0) (λ e. rw e) (λ e. split (nat_le d most_ahead) (λ f. rw (e, f)) (λ f. rw (e, f)))

pub restarted_range : (d : ℕ) → is_restarted (judged d) ≡ nat_le 1 d && nat_le d 127
unfolding judged is_restarted most_ahead
restarted_range d =
    split (d == 0) (λ e. rw (e, lt-leb 1 d (omega (arith, tests))))
    (λ e. let h = le-leb 1 d (omega (arith, tests)) in split (nat_le d 127) (λ f. rw (e, f, h)) (λ f. rw (e, f, h)))

pub late_range : (d : ℕ) → d < 256 → is_late (judged d) ≡ nat_le 128 d && nat_le d 255
unfolding judged is_late most_ahead
late_range d h =
    split (d == 0) (λ e. rw (e, lt-leb 128 d (omega (arith, tests))))
    (λ e. split (nat_le d 127) (λ f. rw (e, f, lt-leb 128 d (omega (arith, tests)))) (λ f. rw (e, f, le-leb 128 d (omega (arith, tests)), le-leb d 255 (omega arith))))

pub ranges : (d : ℕ) → d < 256 → bool_byte (d == 0) + bool_byte (nat_le 1 d && nat_le d 127) + bool_byte (nat_le 128 d && nat_le d 255) ≡ 1
unfolding is_same is_restarted is_late
ranges d h = rw (← same_range d, ← restarted_range d, ← late_range d h) (one (judged d))
  where
    one : (j : Judged) → bool_byte (is_same j) + bool_byte (is_restarted j) + bool_byte (is_late j) ≡ 1
    one J.Same = refl
    one J.Restarted = refl
    one J.Late = refl

-- so a node with a stored value judges by the range
module _ (node : Node) (value : ℕ) (stored : 1 ≤ node.heard) where
  pub same_by : turned value node.recovery ≡ 0 → judged_by node value ≡ J.Same
  unfolding judged_by judged
  same_by h = rw (ne_eqb node.heard 0 (λ z. omega arith), eq-eqb (turned value node.recovery) 0 h)

  pub restarted_by : 1 ≤ turned value node.recovery → turned value node.recovery ≤ 127 → judged_by node value ≡ J.Restarted
  unfolding judged_by judged most_ahead
  restarted_by h k =
      rw (ne_eqb node.heard 0 (λ z. omega arith), ne_eqb (turned value node.recovery) 0 (λ z. omega arith), le-leb (turned value node.recovery) 127 k)

  pub late_by : 128 ≤ turned value node.recovery → judged_by node value ≡ J.Late
  unfolding judged_by judged most_ahead
  late_by h =
      rw (ne_eqb node.heard 0 (λ z. omega arith), ne_eqb (turned value node.recovery) 0 (λ z. omega arith), lt-leb (turned value node.recovery) 127 (omega arith))

-- a value that was stored is the same when it comes again
pub same_again : (value : ℕ) (node : Node) → judged_by (hearing value node) value ≡ J.Same
unfolding judged_by hearing judged turned
same_again value node = let z : (value + 256 - value) % 256 ≡ 0 = omega arith in rw z

-- the value before a restart is late after it
pub turned-back : (received stored : ℕ) → received < 256 → stored < 256
    → is_restarted (judged (turned received stored)) ≡ true → is_late (judged (turned stored received)) ≡ true
unfolding turned
turned-back received stored h k e =
    let d = rw (restarted_range (turned received stored)) at e in
    let a = and_left (nat_le 1 (turned received stored)) (nat_le (turned received stored) 127) d in
    let b = and_right (nat_le 1 (turned received stored)) (nat_le (turned received stored) 127) d in
    let m = turned_most stored received in
    rw (late_range (turned stored received) m, le-leb 128 (turned stored received) (omega (arith, tests)), le-leb (turned stored received) 255 (omega arith))
