-- What it is for two outcomes to be the same, and that two which are equal to one definition at equal arguments are.
-- Assumes nothing.
use Rattle.std.specs.Prelude.{ℕ, List, ◌≡◌}
use Rattle.std.proofs.Common.{sym, ◌∙◌, ap}
use Rattle.unit_session.specs.declared.Session.{Session}
use Rattle.call_own.specs.declared.Answer.{Answer}
use Rattle.call_own.specs.Outcome.{outcome}
use Rattle.call_store.specs.Stored.{Stored, stored}
use Rattle.call_user.specs.declared.Handed.{Handed}
use Rattle.call_user.specs.Parcel.{Parcel, parcel}
use Rattle.call_down.specs.declared.Written.{Written}
use Rattle.call_down.specs.Down.{Output, output}

-- the answers, the records and the reply buffers
pub record SameOutcome (r : Answer × Answer) (l m : List Session) (x y : List ℕ) : Type 0 where
  pub answer : r.0 ≡ r.1
  pub records : l ≡ m
  pub reply : x ≡ y

-- the stores too
pub record SameStored (r : Answer × Answer) (l m : List Session) (v w : List (List ℕ)) (x y : List ℕ) : Type 0 where
  pub answer : r.0 ≡ r.1
  pub records : l ≡ m
  pub store : v ≡ w
  pub reply : x ≡ y

pub record SameHanded (r : Handed × Handed) (x y : List ℕ) : Type 0 where
  pub handed : r.0 ≡ r.1
  pub reply : x ≡ y

pub record SameWritten (r : Written × Written) (x y : List ℕ) : Type 0 where
  pub written : r.0 ≡ r.1
  pub buffer : x ≡ y

-- where the records l and m and the reply buffers x and y are equal, what the call left of them is too, and the answers are
unfoldable pub Agreed : List Session → List Session → List ℕ → List ℕ → Answer × Answer → List Session → List Session → List ℕ → List ℕ → Type 0
Agreed l m x y r l' m' x' y' = l ≡ m → x ≡ y → SameOutcome r l' m' x' y'

-- the same of a call that changes the store
unfoldable pub AgreedStored : List Session → List Session → List (List ℕ) → List (List ℕ) → List ℕ → List ℕ → Answer × Answer
    → List Session → List Session → List (List ℕ) → List (List ℕ) → List ℕ → List ℕ → Type 0
AgreedStored l m v w x y r l' m' v' w' x' y' = l ≡ m → v ≡ w → x ≡ y → SameStored r l' m' v' w' x' y'

unfoldable pub AgreedHanded : List ℕ → List ℕ → Handed × Handed → List ℕ → List ℕ → Type 0
AgreedHanded x y r x' y' = x ≡ y → SameHanded r x' y'

unfoldable pub AgreedWritten : List ℕ → List ℕ → Written × Written → List ℕ → List ℕ → Type 0
AgreedWritten x y r x' y' = x ≡ y → SameWritten r x' y'

-- ---- laws
-- f is the call's definition, of the records and of the reply buffer
pub agrees_stored : (f : List Session → List (List ℕ) → List ℕ → Stored) (l m l' m' : List Session) (v w v' w' : List (List ℕ)) (x y x' y' : List ℕ) (a b : Answer)
    → stored (outcome a l' x') v' ≡ f l v x → stored (outcome b m' y') w' ≡ f m w y → AgreedStored l m v w x y (a, b) l' m' v' w' x' y'
unfolding AgreedStored
agrees_stored f l m l' m' v w v' w' x y x' y' a b e g p u q =
    let t : f l v x ≡ f m w y = rw (p, u, q) in
    let s : stored (outcome a l' x') v' ≡ stored (outcome b m' y') w' = e ∙ t ∙ sym g in
    record {
      answer = ap (λ (o : Stored). o.call.answer) s;
      records = ap (λ (o : Stored). o.call.table) s;
      store = ap (λ (o : Stored). o.store) s;
      reply = ap (λ (o : Stored). o.call.reply) s;
    }

pub agrees_handed : (f : List ℕ → Parcel) (x y x' y' : List ℕ) (a b : Handed)
    → parcel a x' ≡ f x → parcel b y' ≡ f y → AgreedHanded x y (a, b) x' y'
unfolding AgreedHanded
agrees_handed f x y x' y' a b e g q =
    let t : f x ≡ f y = rw q in
    let s : parcel a x' ≡ parcel b y' = e ∙ t ∙ sym g in
    record { handed = ap (λ (o : Parcel). o.handed) s; reply = ap (λ (o : Parcel). o.reply) s }

pub agrees_written : (f : List ℕ → Output) (x y x' y' : List ℕ) (a b : Written)
    → output a x' ≡ f x → output b y' ≡ f y → AgreedWritten x y (a, b) x' y'
unfolding AgreedWritten
agrees_written f x y x' y' a b e g q =
    let t : f x ≡ f y = rw q in
    let s : output a x' ≡ output b y' = e ∙ t ∙ sym g in
    record { written = ap (λ (o : Output). o.written) s; buffer = ap (λ (o : Output). o.buffer) s }
