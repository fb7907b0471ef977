-- Own sequence numbers: they count 0 to `last_number` and round, and skip any that is still awaited. The echo and the places await one
-- number each at most, so one more try than there are requests always finds a number that nobody awaits.
-- Assumes nothing.
use Rattle.std.specs.Prelude.{◌≡◌, ℕ, zero, suc, ◌+◌, ◌%◌, ◌≤◌, not, ◌&&◌, List, [], ◌∷◌, length, ◌==◌, ◌≢◌, refl}
use Rattle.std.proofs.Common.{arith, eqb-true, ne_eqb}
use Rattle.std.proofs.lemmas.Bool.{eqb-false}
use mir.Val.{bool_byte}
use Rattle.base_octets.specs.Choice.{pick, split}
use Rattle.base_octets.specs.Sums.{sum_of, count_of, sum_least}
use Rattle.base_octets.specs.Below.{sum_to, to_least, to_equal, to_none, to_sum, to_swap, to_front}
use Rattle.unit_tunnel.specs.Numbering.{places}
use Rattle.unit_session.specs.declared.OwnRequest.{OwnRequest}
use Rattle.unit_session.specs.declared.Session.{Session}
use Rattle.unit_session.specs.OwnRequest.{last_number, awaits}
use Rattle.unit_session.specs.Session.{waits_for}

-- how many requests, of the echo and the places, await the number k
unfoldable pub awaited : ℕ → OwnRequest → List Session → ℕ
awaited k echo l = bool_byte (awaits k echo) + count_of (waits_for k) l

-- the number after k
unfoldable pub after : ℕ → ℕ
after k = (k + 1) % (last_number + 1)

-- the first number from k on, and round, that is not awaited
unfoldable pub free_from : ℕ → ℕ → OwnRequest → List Session → ℕ
free_from zero k echo l = k
free_from (suc tries) k echo l = pick {A = ℕ} (awaited k echo l == 0) k (free_from tries (after k) echo l)

-- the number that a first send takes
unfoldable pub taken_number : ℕ → OwnRequest → List Session → ℕ
taken_number next echo l = free_from (places + 2) next echo l

-- ---- laws
pub after_range : (k : ℕ) → after k ≤ last_number
unfolding after last_number
after_range k = omega arith

pub free_range : (tries k : ℕ) (echo : OwnRequest) (l : List Session) → k ≤ last_number → free_from tries k echo l ≤ last_number
unfolding free_from
free_range zero k echo l h = h
free_range (suc n) k echo l h =
    split (awaited k echo l == 0) (λ e. rw e h) (λ e. rw e (free_range n (after k) echo l (after_range k)))

-- a number is one of some tries once at most, where they do not go all the way round
pub tries_once : (x k n : ℕ) → n ≤ last_number → sum_to (λ j. bool_byte (x == (k + j) % (last_number + 1))) n ≤ 1
unfolding sum_to last_number
tries_once x k zero h = omega arith
tries_once x k (suc n) h =
    split (x == (k + n) % (last_number + 1))
    (λ e. let z = eqb-true x ((k + n) % (last_number + 1)) e in
    let o = to_equal (λ j. bool_byte (x == (k + j) % (last_number + 1))) (λ j. 0) n (λ j q. rw (ne_eqb x ((k + j) % (last_number + 1)) (λ y. omega arith))) in
    let m = to_none n in
    rw e (omega arith))
    (λ e. let r = tries_once x k n (omega arith) in rw e (omega arith))

-- what the requests await of some tries: each awaits one at most
waits_once : (r : OwnRequest) (k n : ℕ) → n ≤ last_number → sum_to (λ j. bool_byte (awaits ((k + j) % (last_number + 1)) r)) n ≤ 1
unfolding awaits
waits_once r k n h =
    let a = tries_once r.number k n h in
    let b = to_least (λ j. bool_byte (not (r.sends == 0) && r.number == (k + j) % (last_number + 1))) (λ j. bool_byte (r.number == (k + j) % (last_number + 1))) n
    (λ j q. split (r.sends == 0) (λ z. rw z (omega arith)) (λ z. rw z (omega arith))) in
    omega arith

ones : (l : List Session) → sum_of (λ s. 1) l ≡ length l
unfolding sum_of
ones [] = refl
ones (s ∷ l) = let r = ones l in omega arith

pub waits_few : (echo : OwnRequest) (l : List Session) (k n : ℕ) → n ≤ last_number → sum_to (λ j. awaited ((k + j) % (last_number + 1)) echo l) n ≤ length l + 1
unfolding awaited waits_for
waits_few echo l k n h =
    let a = to_sum (λ j. bool_byte (awaits ((k + j) % (last_number + 1)) echo)) (λ j. count_of (λ s. awaits ((k + j) % (last_number + 1)) s.own) l) n in
    let b = waits_once echo k n h in
    let c = to_swap (λ j s. bool_byte (awaits ((k + j) % (last_number + 1)) s.own)) n l in
    let d = sum_least (λ s. sum_to (λ j. bool_byte (awaits ((k + j) % (last_number + 1)) s.own)) n) (λ s. 1) l (λ s. waits_once s.own k n h) in
    let e = ones l in
    omega arith

-- no luck in n tries: each of them is awaited
tries_all : (n k : ℕ) (echo : OwnRequest) (l : List Session) → k ≤ last_number → (awaited (free_from n k echo l) echo l ≢ 0)
    → n ≤ sum_to (λ j. awaited ((k + j) % (last_number + 1)) echo l) n
unfolding free_from after last_number
tries_all zero k echo l h u = omega arith
tries_all (suc n) k echo l h u =
    split (awaited k echo l == 0)
    (λ e. absurd (u (rw e (eqb-true (awaited k echo l) 0 e))))
    (λ e. let v = rw e at u in
    let r = tries_all n (after k) echo l (after_range k) v in
    let f = to_front (λ j. awaited ((k + j) % (last_number + 1)) echo l) n in
    let g = to_equal (λ j. awaited ((after k + j) % (last_number + 1)) echo l) (λ j. awaited ((k + suc j) % (last_number + 1)) echo l) n
    (λ j q. let y : ((k + 1) % (last_number + 1) + j) % (last_number + 1) ≡ (k + suc j) % (last_number + 1) = omega arith in rw y) in
    let o : (k + 0) % (last_number + 1) ≡ k = omega arith in
    let w = rw o at f in
    let a = eqb-false (awaited k echo l) 0 e in
    omega arith)

-- so the number taken is awaited by nobody
pub taken_free : (next : ℕ) (echo : OwnRequest) (l : List Session) → length l ≡ places → next ≤ last_number → awaited (taken_number next echo l) echo l ≡ 0
unfolding taken_number places last_number
taken_free next echo l n h =
    split (awaited (free_from (places + 2) next echo l) echo l == 0)
    (λ e. eqb-true (awaited (free_from (places + 2) next echo l) echo l) 0 e)
    (λ e. let a = tries_all (places + 2) next echo l h (eqb-false (awaited (free_from (places + 2) next echo l) echo l) 0 e) in
    let b = waits_few echo l next (places + 2) (omega arith) in
    absurd (omega arith))

pub taken_range : (next : ℕ) (echo : OwnRequest) (l : List Session) → next ≤ last_number → taken_number next echo l ≤ last_number
unfolding taken_number
taken_range next echo l h = free_range (places + 2) next echo l h
