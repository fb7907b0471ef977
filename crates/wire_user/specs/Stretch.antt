-- The walk over the extension headers in stretches of a few headers each, so that how deep the calls go is not the sender's choice.
-- Assumes nothing.
use Prim.Native.Nat.{ℕ, zero, suc, ◌+◌, ◌-◌, ◌<◌, ◌≤◌}
use Rattle.std.specs.Prelude.{true, false, ◌||◌, List, ◌≡◌, refl, length, drop, get_or, eqb, leb, ltb, Result, Ok, Err}
use Rattle.std.proofs.Common.{sym, ◌∙◌, ap, zero-add, drop-drop}
use Rattle.std.proofs.Math.Nat.{sub-zero}
use native.Mathlib.Omega.{arith}
use Rattle.std.proofs.Math.ListN.{length-drop}
use borrow.Author.Tests.{eq-eqb, ne_eqb, le-leb, lt-leb, eqb-true, eqb-false, leb-true, leb-false}
use Rattle.base_octets.specs.Number.{taken, part_cut, must_understand}
use Rattle.base_octets.specs.Choice.{pick, split}
use Rattle.base_octets.specs.declared.refused.Refused.{Refused}
use Rattle.base_octets.specs.declared.refused.Refused.TheVariants as R
use Rattle.base_octets.specs.Refused.{refused_number}
use Rattle.wire_user.specs.declared.Pause.{Pause}
use Rattle.wire_user.specs.declared.Halt.{Halt}
use Rattle.wire_user.specs.declared.Halt.TheVariants as H
use Rattle.wire_user.specs.Extensions.{Walk, beyond, first_must, extent, unfit, next_type, extensions_of, ext_end, ext_must, ext_unfit, ext_next, fit_extent}

-- where a stretch stops: the number, the type in front of which it pauses (0 where the walk has ended), the octets left
pub record Stretch : Type 0 where
  pub number : ℕ
  pub next : ℕ
  pub left : ℕ

abbrev pub stretch : ℕ → ℕ → ℕ → Stretch
stretch number next left = record { number = number; next = next; left = left }

abbrev pub ended_walk : ℕ → ℕ → Stretch
ended_walk number left = stretch number 0 left

-- how a stretch ends, as an answer that may be a refusal
abbrev pub judged_halt : Halt → Result (Unit {0}) Refused
judged_halt H.Paused = Ok tt
judged_halt H.MustUnderstand = Err R.MustUnderstand
judged_halt H.PartCut = Err R.PartCut

-- what a stretch answers: that it pauses at p, or why the walk has ended with nothing left
abbrev pub stretch_said : {A : Type 0} → Result A Refused → Pause → Stretch
stretch_said (Ok x) p = stretch taken p.next p.left
stretch_said (Err why) p = ended_walk (refused_number why) 0

abbrev pub judged_walk : List ℕ → ℕ → Stretch → Stretch
judged_walk l type s =
    pick (eqb type 0) (ended_walk taken (length l)) (pick (leb first_must type) (ended_walk must_understand 0) (pick (unfit l) (ended_walk part_cut 0) s))

-- past the header in front and at most n more
unfoldable pub stretch_of : ℕ → List ℕ → ℕ → Stretch
stretch_of zero l type = judged_walk l type (stretch taken (next_type l) (length l - extent l))
stretch_of (suc n) l type = judged_walk l type (stretch_of n (drop (extent l) l) (next_type l))

-- the walk over l where a stretch of it has come to s
unfoldable pub resumed : List ℕ → Stretch → Walk
resumed l s =
    pick (eqb s.next 0) (record { number = s.number; size = length l - s.left })
    (beyond (length l - s.left) (extensions_of (drop (length l - s.left) l) s.next))

-- ---- laws of one call
pub stretch_end : (n : ℕ) (l : List ℕ) (type : ℕ) → type ≡ 0 → stretch_of n l type ≡ stretch taken type (length l)
unfolding stretch_of
stretch_end zero l type e = rw (eq-eqb type 0 e, e)
stretch_end (suc n) l type e = rw (eq-eqb type 0 e, e)

module _ (l : List ℕ) (type : ℕ) (some : type ≡ 0 → ⊥) where
  pub stretch_must : (n : ℕ) → first_must ≤ type → stretch_of n l type ≡ ended_walk must_understand 0
  unfolding stretch_of
  stretch_must zero h = rw (ne_eqb type 0 some, le-leb first_must type h)
  stretch_must (suc n) h = rw (ne_eqb type 0 some, le-leb first_must type h)

  module _ (e : ℕ) (lower : type < first_must) (is : e ≡ extent l) where
    pub stretch-unfit : (n : ℕ) → (eqb e 0 || ltb (length l) e) ≡ true → stretch_of n l type ≡ ended_walk part_cut 0
    unfolding stretch_of unfit
    stretch-unfit zero u = let v = rw is at u in rw (ne_eqb type 0 some, lt-leb first_must type lower, v)
    stretch-unfit (suc n) u = let v = rw is at u in rw (ne_eqb type 0 some, lt-leb first_must type lower, v)

    pub stretch_pause : (n : ℕ) → n ≡ 0 → (eqb e 0 || ltb (length l) e) ≡ false
        → stretch_of n l type ≡ stretch taken (get_or l (e - 1) 0) (length l - e)
    unfolding stretch_of unfit
    stretch_pause zero z u = let v = rw is at u in rw (ne_eqb type 0 some, lt-leb first_must type lower, v, is)
    stretch_pause (suc n) z u = absurd (omega arith)

    pub stretch_on : (n : ℕ) → (n ≡ 0 → ⊥) → (eqb e 0 || ltb (length l) e) ≡ false
        → stretch_of n l type ≡ stretch_of (n - 1) (drop e l) (get_or l (e - 1) 0)
    unfolding stretch_of unfit
    stretch_on zero z u = absurd (z refl)
    stretch_on (suc n) z u =
        let v = rw is at u in
        let p : suc n - 1 ≡ n = omega arith in
        rw (ne_eqb type 0 some, lt-leb first_must type lower, v, is, p)

-- ---- laws of a run of stretches
-- one more to come, or none
abbrev pub owed : ℕ → ℕ
owed type = pick {A = ℕ} (eqb type 0) 0 1

owed_most : (type : ℕ) → owed type ≤ 1
owed_most type = split (eqb type 0) (λ a. rw a (omega arith)) (λ a. rw a (omega arith))

-- each stretch brings the walk nearer to its end
nearer : (l : List ℕ) (type : ℕ) (s : Stretch) → (unfit l ≡ false → owed s.next + s.left ≤ length l)
    → owed (judged_walk l type s).next + (judged_walk l type s).left ≤ length l
nearer l type s h =
    split (eqb type 0) (λ a. rw a (omega arith))
    (λ a. split (leb first_must type) (λ b. rw (a, b) (omega arith))
    (λ b. split (unfit l) (λ u. rw (a, b, u) (omega arith)) (λ u. rw (a, b, u) (h u))))

pub stretch_nearer : (n : ℕ) (l : List ℕ) (type : ℕ) → owed (stretch_of n l type).next + (stretch_of n l type).left ≤ length l
unfolding stretch_of
stretch_nearer zero l type = nearer l type _ (λ u. let f = fit_extent l u in let o = owed_most (next_type l) in omega arith)
stretch_nearer (suc n) l type =
    nearer l type _ (λ u. let s = length-drop (extent l) l in let r = stretch_nearer n (drop (extent l) l) (next_type l) in omega arith)

-- a walk that is to begin
pub resumed_start : (l : List ℕ) (type : ℕ) → resumed l (stretch taken type (length l)) ≡ extensions_of l type
unfolding resumed
resumed_start l type =
    let z : length l - length l ≡ 0 = omega arith in
    split (eqb type 0) (λ a. rw (a, z) (sym (ext_end l type (eqb-true type 0 a)))) (λ a. rw (a, z, zero-add))

-- a stretch past the first n octets
pub resumed_past : (l : List ℕ) (n : ℕ) (s : Stretch) → n ≤ length l → s.left ≤ length (drop n l) → resumed l s ≡ beyond n (resumed (drop n l) s)
unfolding resumed
resumed_past l n s h g =
    let e : n + (length (drop n l) - s.left) ≡ length l - s.left = omega (arith, length-drop n l) in
    split (eqb s.next 0) (λ a. rw (a, e))
    (λ a.
    let f : drop (length (drop n l) - s.left) (drop n l) ≡ drop (length l - s.left) l = drop-drop _ n l ∙ ap (λ (k : ℕ). drop k l) e in
    let o = (extensions_of (drop (length l - s.left) l) s.next).size in
    let q : n + (length (drop n l) - s.left + o) ≡ length l - s.left + o = omega arith in
    rw (a, f, q))

-- however many headers a stretch has, the walk is the same
whole : (l : List ℕ) (type : ℕ) (s : Stretch)
    → (unfit l ≡ false → resumed l s ≡ beyond (extent l) (extensions_of (drop (extent l) l) (next_type l)))
    → resumed l (judged_walk l type s) ≡ extensions_of l type
unfolding resumed unfit
whole l type s h =
    split (eqb type 0) (λ a. let z : length l - length l ≡ 0 = omega arith in rw (a, ext_end l type (eqb-true type 0 a), z))
    (λ a. let some = eqb-false type 0 a in
    split (leb first_must type) (λ b. rw (a, b, ext_must type some l (leb-true first_must type b), sub-zero))
    (λ b. let m = leb-false first_must type b in
    split (unfit l) (λ u. rw (a, b, u, ext_unfit type some l (extent l) m refl u, sub-zero))
    (λ u. rw (a, b, u, ext_next type some l (extent l) m refl u) (h u))))

pub stretch_whole : (n : ℕ) (l : List ℕ) (type : ℕ) → resumed l (stretch_of n l type) ≡ extensions_of l type
unfolding stretch_of
stretch_whole zero l type =
    whole l type _ (λ u.
    let s = length-drop (extent l) l in
    rw (← s)
    (resumed_past l (extent l) (stretch taken (next_type l) (length (drop (extent l) l))) (fit_extent l u).1 (omega arith)
    ∙ rw (resumed_start (drop (extent l) l) (next_type l))))
stretch_whole (suc n) l type =
    whole l type _ (λ u.
    let k = stretch_nearer n (drop (extent l) l) (next_type l) in
    resumed_past l (extent l) (stretch_of n (drop (extent l) l) (next_type l)) (fit_extent l u).1 (omega arith)
    ∙ rw (stretch_whole n (drop (extent l) l) (next_type l)))

-- ---- a loop that takes stretch after stretch, with so many octets of d left
module _ (d : List ℕ) (number next left : ℕ) where
  pub run-done : next ≡ 0 → resumed d (stretch number next left) ≡ record { number = number; size = length d - left }
  unfolding resumed
  run-done e = rw (eq-eqb next 0 e)

  module _ (some : next ≡ 0 → ⊥) (within : left ≤ length d) (n : ℕ) (s : Stretch) (is : s ≡ stretch_of n (drop (length d - left) d) next) where
    pub run_less : owed s.next + s.left < owed next + left
    run_less =
        let r = stretch_nearer n (drop (length d - left) d) next in
        let l = length-drop (length d - left) d in
        rw (is, ne_eqb next 0 some) (omega arith)

    pub run_within : s.left ≤ left
    run_within = let r = run_less in let o = owed_most next in omega arith

    pub run_on : resumed d s ≡ resumed d (stretch number next left)
    unfolding resumed
    run_on =
        let w = run_within in
        let l = length-drop (length d - left) d in
        let p = resumed_past d (length d - left) s (omega arith) (omega arith) in
        let q : resumed (drop (length d - left) d) s ≡ extensions_of (drop (length d - left) d) next
        = rw is (stretch_whole n (drop (length d - left) d) next) in
        p ∙ rw q (rw (ne_eqb next 0 some))

-- a stretch that ends with a refusal is the walk's refusal
pub run_refused : (d : List ℕ) (number next left : ℕ) → (next ≡ 0 → ⊥) → left ≤ length d → (n why : ℕ)
    → ended_walk why 0 ≡ stretch_of n (drop (length d - left) d) next → {w : Walk} → resumed d (stretch number next left) ≡ w → w.number ≡ why
run_refused d number next left some within n why is {w} i =
    rw (← i, ← run_on d number next left some within n (ended_walk why 0) is, run-done d why 0 0 refl)
