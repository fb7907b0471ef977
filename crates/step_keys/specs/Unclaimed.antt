-- A way to compute the number that the next first send takes, from what is awaited as keys. unit_table has the definition; here are the laws
-- that the loop needs.
-- Assumes nothing.
use Rattle.std.specs.Prelude.{ℕ, zero, suc, ◌+◌, ◌-◌, ◌<◌, Bool, true, false, not, ◌&&◌, List, [], ◌∷◌, ◌≡◌, refl, eqb}
use Rattle.std.proofs.Common.{sym, arith, eqb-true, eq-eqb, ne_eqb}
use mir.Val.{bool_byte}
use Rattle.std.proofs.lemmas.Bool.{eqb-false}
use Rattle.base_octets.specs.Choice.{pick, split}
use Rattle.base_octets.specs.Every.{every}
use Rattle.base_octets.specs.Sums.{sum_of, count_of}
use Rattle.base_distinct.specs.Apart.{none_clash, same_key}
use Rattle.unit_session.specs.declared.OwnRequest.{OwnRequest}
use Rattle.unit_session.specs.declared.Session.{Session}
use Rattle.unit_session.specs.OwnRequest.{awaits}
use Rattle.unit_session.specs.Session.{waits_for}
use Rattle.unit_table.specs.Number.{awaited, after, free_from}
use Rattle.step_keys.specs.Survey.{wait_of, waits_of}

-- nobody awaits k: it is neither the echo's key nor that of a place
unfoldable pub unclaimed : ℕ → ℕ → List ℕ → Bool
unclaimed k echo keys = not (same_key (k + 1) echo) && none_clash same_key (k + 1) keys

unfoldable pub free_among : ℕ → ℕ → ℕ → List ℕ → ℕ
free_among zero k echo keys = k
free_among (suc tries) k echo keys = pick {A = ℕ} (unclaimed k echo keys) k (free_among tries (after k) echo keys)

-- ---- laws
-- a key is that of a number where the number is awaited
key_awaits : (k : ℕ) (r : OwnRequest) → same_key (k + 1) (wait_of r) ≡ awaits k r
unfolding same_key wait_of awaits
key_awaits k r =
    let z : eqb (k + 1) 0 ≡ false = ne_eqb (k + 1) 0 (λ y. omega arith) in
    split (eqb r.sends 0)
    (λ q. rw (q, z))
    (λ q. rw (q, z)
    (split (eqb r.number k)
    (λ t. let a = eqb-true r.number k t in rw (t, eq-eqb (k + 1) (r.number + 1) (omega arith)))
    (λ t. let a = eqb-false r.number k t in rw (t, ne_eqb (k + 1) (r.number + 1) (λ y. omega arith)))))

-- not this one and none of those: none at all
none_more : (b : Bool) (n : ℕ) → (not b && eqb n 0) ≡ eqb (bool_byte b + n) 0
none_more true n = sym (ne_eqb (1 + n) 0 (λ y. omega arith))
none_more false n = let z : 0 + n ≡ n = omega arith in rw z

none_waits : (k : ℕ) (l : List Session) → none_clash same_key (k + 1) (waits_of l) ≡ eqb (count_of (waits_for k) l) 0
unfolding none_clash every waits_of sum_of waits_for
none_waits k [] = refl
none_waits k (s ∷ l) = rw (key_awaits k s.own, none_waits k l) (none_more (awaits k s.own) (count_of (waits_for k) l))

pub unclaimed_is : (k : ℕ) (echo : OwnRequest) (l : List Session) → unclaimed k (wait_of echo) (waits_of l) ≡ eqb (awaited k echo l) 0
unfolding unclaimed awaited
unclaimed_is k echo l = rw (key_awaits k echo, none_waits k l) (none_more (awaits k echo) (count_of (waits_for k) l))

pub free_among_lem : (tries k : ℕ) (echo : OwnRequest) (l : List Session) → free_among tries k (wait_of echo) (waits_of l) ≡ free_from tries k echo l
unfolding free_among free_from
free_among_lem zero k echo l = refl
free_among_lem (suc n) k echo l = rw (unclaimed_is k echo l, free_among_lem n (after k) echo l)

-- ---- the loop of tries, with some left
pub among_hit : (n k echo : ℕ) (keys : List ℕ) → 0 < n → unclaimed k echo keys ≡ true → free_among n k echo keys ≡ k
unfolding free_among
among_hit zero k echo keys h e = absurd (omega arith)
among_hit (suc n) k echo keys h e = rw e

pub among_on : (n k echo : ℕ) (keys : List ℕ) → 0 < n → unclaimed k echo keys ≡ false → free_among n k echo keys ≡ free_among (n - 1) (after k) echo keys
unfolding free_among
among_on zero k echo keys h e = absurd (omega arith)
among_on (suc n) k echo keys h e = let y : suc n - 1 ≡ n = omega arith in rw (e, y)

pub among_end : (k echo : ℕ) (keys : List ℕ) → free_among 0 k echo keys ≡ k
unfolding free_among
among_end k echo keys = refl
