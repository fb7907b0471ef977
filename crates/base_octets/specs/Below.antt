-- Sums and tests over the numbers below n: what is shared between n parties, each known by its number.
-- A loop that counts up has the sum so far as its invariant.
-- Assumes nothing.
use Rattle.std.specs.Prelude.{ℕ, zero, suc, ◌+◌, ◌<◌, ◌≤◌, Bool, true, false, ◌&&◌, List, [], ◌∷◌, map, ◌≡◌, refl, length, get_or, eqb, ltb}
use Rattle.std.proofs.Common.{sym, ◌∙◌, add-one, arith, eqb-true, ne_eqb, ltb-true, ltb-false}
use Rattle.std.proofs.lemmas.Bool.{eqb-false}
use mir.Val.{bool_byte}
use Rattle.base_octets.specs.Choice.{split, impossible, and_left, and_right, and_no}
use Rattle.base_octets.specs.Sums.{sum_of}

-- f 0 + .. + f (n - 1)
unfoldable pub sum_to : (ℕ → ℕ) → ℕ → ℕ
sum_to f zero = 0
sum_to f (suc n) = f n + sum_to f n

-- p 0 and .. and p (n - 1)
unfoldable pub all_to : (ℕ → Bool) → ℕ → Bool
all_to p zero = true
all_to p (suc n) = p n && all_to p n

-- ---- a loop that counts up
pub to_start : (f : ℕ → ℕ) → sum_to f 0 ≡ 0
unfolding sum_to
to_start f = refl

pub to_next : (f : ℕ → ℕ) (n : ℕ) → sum_to f (n + 1) ≡ f n + sum_to f n
unfolding sum_to
to_next f n = rw add-one

pub all_start : (p : ℕ → Bool) → all_to p 0 ≡ true
unfolding all_to
all_start p = refl

pub all_next : (p : ℕ → Bool) (n : ℕ) → p n ≡ true → all_to p n ≡ true → all_to p (n + 1) ≡ true
unfolding all_to
all_next p n e h = rw (add-one, e) h

-- ---- two sums compared party by party
pub to_least : (f g : ℕ → ℕ) (n : ℕ) → ((k : ℕ) → k < n → f k ≤ g k) → sum_to f n ≤ sum_to g n
unfolding sum_to
to_least f g zero h = omega arith
to_least f g (suc n) h = let a = h n (omega arith) in let r = to_least f g n (λ k q. h k (omega arith)) in omega arith

pub to_equal : (f g : ℕ → ℕ) (n : ℕ) → ((k : ℕ) → k < n → f k ≡ g k) → sum_to f n ≡ sum_to g n
unfolding sum_to
to_equal f g zero h = refl
to_equal f g (suc n) h = let a = h n (omega arith) in let r = to_equal f g n (λ k q. h k (omega arith)) in omega arith

pub to_sum : (f g : ℕ → ℕ) (n : ℕ) → sum_to (λ k. f k + g k) n ≡ sum_to f n + sum_to g n
unfolding sum_to
to_sum f g zero = refl
to_sum f g (suc n) = let r = to_sum f g n in omega arith

pub to_none : (n : ℕ) → sum_to (λ k. 0) n ≡ 0
unfolding sum_to
to_none zero = refl
to_none (suc n) = let r = to_none n in omega arith

-- the first of the numbers taken out
pub to_front : (f : ℕ → ℕ) (n : ℕ) → sum_to f (suc n) ≡ f 0 + sum_to (λ k. f (suc k)) n
unfolding sum_to
to_front f zero = refl
to_front f (suc n) = let r = to_front f n in omega arith

-- the places of a list are numbers: a sum over them, and on past its end, is the sum over the list
pub all_front : (p : ℕ → Bool) (n : ℕ) → all_to p (suc n) ≡ (p 0 && all_to (λ k. p (suc k)) n)
unfolding all_to
all_front p zero = refl
all_front p (suc n) = let r = all_front p n in split (p (suc n)) (λ e. rw e r) (λ e. rw (e, and_no (p 0)))

pub to_list : {A : Type 0} (f : A → ℕ) (l : List A) (n : ℕ) → length l ≤ n → sum_to (λ k. get_or (map f l) k 0) n ≡ sum_of f l
unfolding sum_of
to_list f [] n h = to_none n
to_list f (x ∷ l) zero h = absurd (omega arith)
to_list f (x ∷ l) (suc n) h = to_front (λ k. get_or (map f (x ∷ l)) k 0) n ∙ rw (to_list f l n (omega arith))

-- a sum of sums, either way round
pub to_swap : {A : Type 0} (f : ℕ → A → ℕ) (n : ℕ) (l : List A) → sum_to (λ k. sum_of (f k) l) n ≡ sum_of (λ s. sum_to (λ k. f k s) n) l
unfolding sum_of
to_swap f n [] = to_none n
to_swap f n (s ∷ l) = let r = to_swap f n l in to_sum (λ k. f k s) (λ k. sum_of (f k) l) n ∙ rw r

-- ---- x is one of the numbers below n once, or not at all
pub hits_out : (n x : ℕ) → n ≤ x → sum_to (λ k. bool_byte (eqb x k)) n ≡ 0
unfolding sum_to
hits_out zero x h = refl
hits_out (suc n) x h = rw (ne_eqb x n (λ e. omega arith), hits_out n x (omega arith))

pub hits_in : (n x : ℕ) → x < n → sum_to (λ k. bool_byte (eqb x k)) n ≡ 1
unfolding sum_to
hits_in zero x h = absurd (omega arith)
hits_in (suc n) x h =
    split (eqb x n)
    (λ e. let z = eqb-true x n e in let q = hits_out n x (omega arith) in rw e (omega arith))
    (λ e. let z = eqb-false x n e in let q = hits_in n x (omega arith) in rw e (omega arith))

pub hits_most : (n x : ℕ) → sum_to (λ k. bool_byte (eqb x k)) n ≤ 1
hits_most n x =
    split (ltb x n)
    (λ e. let h = hits_in n x (ltb-true x n e) in omega arith)
    (λ e. let h = hits_out n x (ltb-false x n e) in omega arith)

-- ---- two sums where party k may have one more, or has one less
pub to_more : (f g : ℕ → ℕ) (n k : ℕ) → ((j : ℕ) → j < n → f j ≤ g j + bool_byte (eqb k j)) → sum_to f n ≤ sum_to g n + 1
to_more f g n k h =
    let a = to_least f (λ j. g j + bool_byte (eqb k j)) n h in
    let b = to_sum g (λ j. bool_byte (eqb k j)) n in
    let c = hits_most n k in
    omega arith

pub to_fewer : (f g : ℕ → ℕ) (n k : ℕ) → k < n → ((j : ℕ) → j < n → f j + bool_byte (eqb k j) ≤ g j) → sum_to f n + 1 ≤ sum_to g n
to_fewer f g n k b h =
    let a = to_least (λ j. f j + bool_byte (eqb k j)) g n h in
    let d = to_sum f (λ j. bool_byte (eqb k j)) n in
    let c = hits_in n k b in
    omega arith

-- ---- tests
pub all_in : (p : ℕ → Bool) (n k : ℕ) → all_to p n ≡ true → k < n → p k ≡ true
unfolding all_to
all_in p zero k e h = absurd (omega arith)
all_in p (suc n) k e h =
    split (eqb n k)
    (λ q. rw (← eqb-true n k q) (and_left (p n) (all_to p n) e))
    (λ q. let z = eqb-false n k q in all_in p n k (and_right (p n) (all_to p n) e) (omega arith))

pub all_stop : (p : ℕ → Bool) (n k : ℕ) → k < n → p k ≡ false → all_to p n ≡ false
all_stop p n k h e = split (all_to p n) (λ t. impossible (sym e ∙ all_in p n k t h)) (λ t. t)

pub all_agree : (p q : ℕ → Bool) (n : ℕ) → ((k : ℕ) → k < n → p k ≡ q k) → all_to p n ≡ all_to q n
unfolding all_to
all_agree p q zero h = refl
all_agree p q (suc n) h = rw (h n (omega arith), all_agree p q n (λ k r. h k (omega arith)))

pub all_of : (p : ℕ → Bool) (n : ℕ) → ((k : ℕ) → k < n → p k ≡ true) → all_to p n ≡ true
unfolding all_to
all_of p zero h = refl
all_of p (suc n) h = rw (h n (omega arith)) (all_of p n (λ k q. h k (omega arith)))
