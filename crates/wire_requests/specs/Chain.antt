-- A list of fields that are read in order: each takes its value out, or the request is left with the cause and the field's type and
-- instance. Written `field type instance (reading) λ value. ..`, so that the paper's ordered list stands as one.
-- Assumes nothing.
use Rattle.std.specs.Prelude.{ℕ, Bool, true, false, ◌≡◌, refl, Option, Some, None, Result, Ok, Err}
use Rattle.std.proofs.Common.{arith}
use Rattle.wire_fields.specs.declared.Found.{Found}
use Rattle.wire_fields.specs.declared.Flaw.{Flaw}
use Rattle.wire_fields.specs.declared.Flaw.TheVariants.{Missing, Short, Wrong}
use Rattle.wire_fields.specs.declared.Refusal.{Refusal}
use Rattle.wire_fields.specs.Refusal.{missing, bare_refusal, refusal_of}
use Rattle.wire_requests.specs.declared.Request.{Request}

-- what a reading of a request comes to
abbrev pub Decoded : Type 0
Decoded = Result Request Refusal

-- a cause that names no field, where the test holds
abbrev pub refused_by : ℕ → Bool → Decoded → Decoded
refused_by cause true rest = Err (bare_refusal cause)
refused_by cause false rest = rest

-- a value of any length, by its place: it can only be missing
abbrev pub place : ℕ → ℕ → Option Found → (ℕ → ℕ → Decoded) → Decoded
place kind instance (Some f) g = g f.start f.size
place kind instance None g = Err (missing kind instance)

-- a field's value
abbrev pub field : {A : Type 0} → ℕ → ℕ → Result A Flaw → (A → Decoded) → Decoded
field kind instance (Ok x) f = f x
field kind instance (Err e) f = Err (refusal_of e kind instance)

-- a field that may be missing: its value if it is there
abbrev pub if_present : {A : Type 0} → Result A Flaw → Result (Option A) Flaw
if_present (Ok x) = Ok (Some x)
if_present (Err Missing) = Ok None
if_present (Err Short) = Err Short
if_present (Err Wrong) = Err Wrong

-- the access point that a name is of; unknown: the cause
abbrev pub point : ℕ → Option ℕ → (ℕ → Decoded) → Decoded
point cause (Some p) f = f p
point cause None f = Err (bare_refusal cause)

-- ---- a list that came to its end: each field had its value
never : {A : Type 0} → ◌≡◌ {A = ℕ} 0 1 → A
never z = absurd (omega arith)

module _ {P : Type 0} (q : Request) where
  pub refuse_got : (cause : ℕ) (t : Bool) (rest : Decoded) → refused_by cause t rest ≡ Ok q → (t ≡ false → rest ≡ Ok q → P) → P
  refuse_got cause true rest e k = never (cc)
  refuse_got cause false rest e k = k refl e

  pub place_got : (kind instance : ℕ) (m : Option Found) (g : ℕ → ℕ → Decoded) → place kind instance m g ≡ Ok q → ((f : Found) → m ≡ Some f → g f.start f.size ≡ Ok q → P) → P
  place_got kind instance (Some f) g e k = k f refl e
  place_got kind instance None g e k = never (cc)

  pub field_got : {A : Type 0} (kind instance : ℕ) (m : Result A Flaw) (f : A → Decoded) → field kind instance m f ≡ Ok q → ((x : A) → m ≡ Ok x → f x ≡ Ok q → P) → P
  field_got kind instance (Ok x) f e k = k x refl e
  field_got kind instance (Err m) f e k = never (cc)

  pub point_got : (cause : ℕ) (m : Option ℕ) (f : ℕ → Decoded) → point cause m f ≡ Ok q → ((p : ℕ) → m ≡ Some p → f p ≡ Ok q → P) → P
  point_got cause (Some p) f e k = k p refl e
  point_got cause None f e k = never (cc)
