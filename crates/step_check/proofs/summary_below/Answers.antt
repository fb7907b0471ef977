use Rattle.unit_tunnel.specs.Numbering.{places}
use Rattle.std.proofs.Common.{◌≡◌, ℕ, ◌+◌, ◌-◌, ◌≤◌, true, false, map, length, get_or, drop, sym, ◌∙◌, arith, length-drop, rules}
use Rattle.step_check.specs.Over.{over_more, over_twice, over_all, clash, back, drop-map, length_marks, enters_of}
use Rattle.step_check.specs.Findings.{free_above, over_free}
use Rattle.step_check.specs.Digest.{key_in}
use Rattle.step_check.specs.Summary.{no_summary}
use lib.ListN.{length-replicate}
use Rattle.step_check.proofs.summary_below.Goals as goal

pub loop-i-init : goal.loop-i-init
unfolding free_above places
loop-i-init c = let a = c.args in let l : length a.ds.now ≡ 64 = search rules in
    let n : length (drop a.n a.ds.now) ≤ places = simp length-drop (omega arith) in
    over_free _ _ (length-replicate {A = ℕ} 1024 0) n c.requires.1

pub returns-then-not-new : goal.returns-then-not-new
unfolding places no_summary
returns-then-not-new c = let ds = c.args.ds.now in let k = c.loop-i in let l : length ds ≡ 64 = search rules in
    let n : length (drop k.i ds) ≤ places = simp length-drop (omega arith) in
    let s : k.i - 1 + 1 ≡ k.i = omega arith in
    let f = rw s at c.note-new.ensures.0 in
    let e : enters_of (key_in (get_or ds (k.i - 1) 0)) (map key_in (drop k.i ds)) k.marks ≡ false = rw (← drop-map k.i ds, ← f) (c.if-not-new.true) in
    sym (over_twice ds k.i (omega arith) (omega arith) (clash _ _ _ _ _ k.invariant n e))

pub loop-i-preserved : goal.loop-i-preserved
unfolding places
loop-i-preserved c = let ds = c.args.ds.now in let k = c.loop-i in let l : length ds ≡ 64 = search rules in
    let s : k.i - 1 + 1 ≡ k.i = omega arith in
    let f = rw s at c.note-new.ensures.0 in
    let e : enters_of (key_in (get_or ds (k.i - 1) 0)) (map key_in (drop k.i ds)) k.marks ≡ true = rw (← drop-map k.i ds, ← f) (c.if-not-new.false) in
    let n : length (drop k.i ds) ≤ places = simp length-drop (omega arith) in
    let m = c.note-new.ensures.1 in
    let w : length k.marks ≡ 1024 = sym (length_marks _ k.marks) ∙ (rw m.0 at c.note-new.array_long) in
    rw (back ds k.i (omega arith) (omega arith), m.0, m.1.0, m.1.1) (over_more _ _ _ _ _ k.invariant n w e)

pub returns : goal.returns
unfolding places
returns c = let ds = c.args.ds.now in let k = c.loop-i in let e : k.i ≡ 0 = omega arith in let l : length ds ≡ 64 = search rules in
    let n : length ds ≤ places = omega arith in
    rw c.packed_in-counts.ensures (sym (over_all ds _ _ _ n (rw e at k.invariant)))
