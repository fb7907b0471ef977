-- What a Create, a Modify and a Delete are answered with, of what stands in them: each is decoded, or refused with a number of its own list, and what is
-- decoded is a request of the kind that was read.
-- Assumes nothing.
use Rattle.std.specs.Prelude.{ℕ, Bool, not, ◌&&◌, List, [], ◌∷◌, ◌≡◌, refl, get_or, eqb, ltb, Option, Some, None, Result, Ok, Err}
use Rattle.std.proofs.Math.Bool.{true, false}
use Rattle.std.proofs.Common.{arith}
use Rattle.base_octets.specs.Number.{taken}
use Rattle.base_octets.specs.Choice.{split, and_left, and_right}
use Rattle.wire_fields.specs.Walk.{part}
use Rattle.wire_fields.specs.Search.{find}
use Rattle.wire_fields.specs.Overrun.{over_in}
use Rattle.wire_header.specs.Types.{among}
use Rattle.wire_fields.specs.Refusal.{refusal_of, short_cause, wrong_cause, missing_cause, unknown_apn_cause, address_type_cause}
use Rattle.wire_fields.specs.Kinds.{imsi_kind, rat_kind, tunnel_kind, apn_kind, paa_kind, bearer_kind, ebi_kind, qos_kind}
use Rattle.wire_fields.specs.Readers.{octet_at, octet_in, imsi_in, rat_in, tunnel_in, paa_in, ebi_in}
use Rattle.unit_plan.specs.declared.Plan.{Plan}
use Rattle.unit_plan.specs.Limits.{used}
use Rattle.unit_plan.specs.Names.{named_in}
use Rattle.wire_requests.specs.Chain.{Decoded, refused_by, place, field, if_present, point}
use Rattle.wire_requests.specs.Create.{create_of}
use Rattle.wire_requests.specs.declared.Create as C
use Rattle.wire_requests.specs.declared.Modify as M
use Rattle.wire_requests.specs.declared.Delete as D
use Rattle.wire_requests.specs.declared.Request.{Request}
use Rattle.wire_requests.specs.declared.Request.TheVariants.{Create, Modify, Delete}
use Rattle.wire_requests.specs.Change.{modify_of, context}
use Rattle.wire_fields.specs.declared.Flaw.{Flaw}
use Rattle.wire_fields.specs.declared.Found.{Found}
use Rattle.wire_fields.specs.declared.Flaw.TheVariants.{Missing, Short, Wrong}

-- document 01's number of an answer: 0 where the request goes on, else the cause
unfoldable pub number_for : Decoded → ℕ
number_for (Ok q) = 0
number_for (Err w) = w.cause

unfoldable pub is_create : Request → Bool
is_create (Create c) = true
is_create (Modify m) = false
is_create (Delete d) = false

unfoldable pub is_modify : Request → Bool
is_modify (Create c) = false
is_modify (Modify m) = true
is_modify (Delete d) = false

unfoldable pub is_delete : Request → Bool
is_delete (Create c) = false
is_delete (Modify m) = false
is_delete (Delete d) = true

-- a number of the list; and what is decoded is a request of the kind that was read
pub record Answers (numbers : List ℕ) (kind : Request → Bool) (d : Decoded) : Type 0 where
  pub number : among (number_for d) numbers ≡ true
  pub sort : (q : Request) → d ≡ Ok q → kind q ≡ true

-- the same as one test
unfoldable pub right : List ℕ → (Request → Bool) → Decoded → Bool
right l kind (Ok q) = among 0 l && kind q
right l kind (Err w) = among w.cause l

right_number : (l : List ℕ) (kind : Request → Bool) (d : Decoded) → right l kind d ≡ true → among (number_for d) l ≡ true
unfolding right number_for
right_number l kind (Ok q) e = and_left (among 0 l) (kind q) e
right_number l kind (Err w) e = e

right_sort : (l : List ℕ) (kind : Request → Bool) (d : Decoded) (q : Request) → right l kind d ≡ true → d ≡ Ok q → kind q ≡ true
unfolding right
right_sort l kind d q e h = and_right (among 0 l) (kind q) (rw h at e)

pub answers : (l : List ℕ) (kind : Request → Bool) (d : Decoded) → right l kind d ≡ true → Answers l kind d
answers l kind d e = record { number = right_number l kind d e; sort = λ q. right_sort l kind d q e }

-- ---- each step of a list of fields keeps it
module _ (l : List ℕ) (kind : Request → Bool) where
  pub refuse_right : (cause : ℕ) (t : Bool) (rest : Decoded) → among cause l ≡ true → right l kind rest ≡ true → right l kind (refused_by cause t rest) ≡ true
  unfolding right
  refuse_right cause true rest e r = e
  refuse_right cause false rest e r = r

  point-right : (cause : ℕ) (m : Option ℕ) (f : ℕ → Decoded) → among cause l ≡ true → ((p : ℕ) → right l kind (f p) ≡ true) → right l kind (point cause m f) ≡ true
  unfolding right
  point-right cause (Some p) f e r = r p
  point-right cause None f e r = e

  place-right : (k i : ℕ) (m : Option Found) (f : ℕ → ℕ → Decoded) → among missing_cause l ≡ true → ((a n : ℕ) → right l kind (f a n) ≡ true) → right l kind (place k i m f) ≡ true
  unfolding right
  place-right k i (Some found) f e r = r found.start found.size
  place-right k i None f e r = e

  context-right : (m : Option Found) (without : Decoded) (f : ℕ → ℕ → Decoded) → right l kind without ≡ true → ((a n : ℕ) → right l kind (f a n) ≡ true) → right l kind (context m without f) ≡ true
  context-right (Some found) without f e r = r found.start found.size
  context-right None without f e r = e

  -- a field that is missing, short or wrong
  module _ (e70 : among missing_cause l ≡ true) (e67 : among short_cause l ≡ true) (e69 : among wrong_cause l ≡ true) where
    field-right : {A : Type 0} (k i : ℕ) (m : Result A Flaw) (f : A → Decoded) → ((x : A) → right l kind (f x) ≡ true) → right l kind (field k i m f) ≡ true
    unfolding right refusal_of
    field-right k i (Ok x) f r = r x
    field-right k i (Err Missing) f r = e70
    field-right k i (Err Short) f r = e67
    field-right k i (Err Wrong) f r = e69

  -- one that may be missing, and is never wrong
  pub present-right : {A : Type 0} (k i : ℕ) (m : Result A Flaw) (f : Option A → Decoded) → among short_cause l ≡ true → (m ≡ Err Wrong → ⊥) → ((x : Option A) → right l kind (f x) ≡ true) → right l kind (field k i (if_present m) f) ≡ true
  unfolding right refusal_of
  present-right k i (Ok x) f e67 w r = r _
  present-right k i (Err Missing) f e67 w r = r _
  present-right k i (Err Short) f e67 w r = e67
  present-right k i (Err Wrong) f e67 w r = absurd (w refl)

-- the octet of a field as it stands is never wrong: only a judgement of it is
pub octet_not_wrong : (s : List ℕ) (least : ℕ) (f : Option Found) → octet_at s least f ≡ Err Wrong → ⊥
unfolding octet_at
octet_not_wrong s least None e = let z : ◌≡◌ {A = ℕ} 0 1 = cc in omega arith
octet_not_wrong s least (Some found) e =
    split (ltb found.size least)
    (λ t. let g : Err Short ≡ Err Wrong = rw t at e in let z : ◌≡◌ {A = ℕ} 0 1 = cc in omega arith)
    (λ t. let g : Ok (get_or s found.start 0) ≡ Err Wrong = rw t at e in let z : ◌≡◌ {A = ℕ} 0 1 = cc in omega arith)

-- ---- the numbers that each may answer
unfoldable pub create_numbers : List ℕ
create_numbers = taken ∷ short_cause ∷ wrong_cause ∷ missing_cause ∷ unknown_apn_cause ∷ address_type_cause ∷ []

unfoldable pub modify_numbers : List ℕ
modify_numbers = taken ∷ short_cause ∷ wrong_cause ∷ missing_cause ∷ []

unfoldable pub delete_numbers : List ℕ
delete_numbers = taken ∷ short_cause ∷ []

create_sort : (c : C.Create) → right create_numbers is_create (Ok (Create c)) ≡ true
unfolding right is_create create_numbers
create_sort c = refl

modify_sort : (m : M.Modify) → right modify_numbers is_modify (Ok (Modify m)) ≡ true
unfolding right is_modify modify_numbers
modify_sort m = refl

pub delete_sort : (d : D.Delete) → right delete_numbers is_delete (Ok (Delete d)) ≡ true
unfolding right is_delete delete_numbers
delete_sort d = refl

create-right : (plan : Plan) (s : List ℕ) → right create_numbers is_create (create_of plan s) ≡ true
unfolding create_of create_numbers
create-right plan s =
    refuse_right create_numbers is_create short_cause (over_in s) _ refl
    (field-right create_numbers is_create refl refl refl imsi_kind 0 (imsi_in s) _ λ imsi.
    field-right create_numbers is_create refl refl refl rat_kind 0 (rat_in s) _ λ rat.
    field-right create_numbers is_create refl refl refl tunnel_kind 0 (tunnel_in s 0 6) _ λ control.
    place-right create_numbers is_create apn_kind 0 (find s apn_kind 0) _ refl λ apn size.
    field-right create_numbers is_create refl refl refl paa_kind 0 (paa_in s) _ λ paa.
    place-right create_numbers is_create bearer_kind 0 (find s bearer_kind 0) _ refl λ start all.
    field-right create_numbers is_create refl refl refl ebi_kind 0 (ebi_in (part s start all)) _ λ ebi.
    field-right create_numbers is_create refl refl refl tunnel_kind 2 (tunnel_in (part s start all) 2 4) _ λ user.
    field-right create_numbers is_create refl refl refl qos_kind 0 (octet_in (part s start all) qos_kind 22) _ λ qos.
    point-right create_numbers is_create unknown_apn_cause (named_in (used plan) (part s apn size)) _ refl λ point.
    refuse_right create_numbers is_create address_type_cause (not (eqb paa 1)) _ refl (create_sort _))

modify_right : (s : List ℕ) → right modify_numbers is_modify (modify_of s) ≡ true
unfolding modify_of modify_numbers
modify_right s =
    refuse_right modify_numbers is_modify short_cause (over_in s) _ refl
    (field-right modify_numbers is_modify refl refl refl tunnel_kind 0 (if_present (tunnel_in s 0 6)) _ λ control.
    context-right modify_numbers is_modify (find s bearer_kind 0) _ _ (modify_sort _) λ start size.
    field-right modify_numbers is_modify refl refl refl ebi_kind 0 (ebi_in (part s start size)) _ λ x.
    modify_sort _)

pub create-answers : (plan : Plan) (s : List ℕ) → Answers create_numbers is_create (create_of plan s)
create-answers plan s = answers create_numbers is_create (create_of plan s) (create-right plan s)

pub modify_answers : (s : List ℕ) → Answers modify_numbers is_modify (modify_of s)
modify_answers s = answers modify_numbers is_modify (modify_of s) (modify_right s)
