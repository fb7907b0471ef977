-- Every request in range has octets that are read as that request: those of the encoder, and unknown fields may stand anywhere among them, in the
-- message and in the Bearer Context.
-- Assumes nothing.
use Rattle.std.specs.Prelude.{ℕ, ◌%◌, Bool, true, false, ◌&&◌, ◌||◌, List, [], ◌∷◌, ◌≡◌, eqb, Ok}
use Rattle.base_octets.specs.Choice.{pick}
use Rattle.base_octets.specs.Every.{every}
use Rattle.wire_fields.specs.Kinds.{imsi_kind, rat_kind, tunnel_kind, apn_kind, paa_kind, bearer_kind, ebi_kind, qos_kind, recovery_kind}
use Rattle.unit_plan.specs.declared.Plan.{Plan}
use Rattle.unit_plan.specs.Plan.{accepted}
use Rattle.wire_requests.specs.declared.Create as C
use Rattle.wire_requests.specs.declared.Modify as M
use Rattle.wire_requests.specs.declared.Delete as D
use Rattle.wire_requests.specs.declared.Request.TheVariants.{Create, Modify, Delete}
use Rattle.wire_requests.specs.Create.{create_of}
use Rattle.wire_requests.specs.Change.{modify_of, delete_of}
use Rattle.promise_demands.specs.Sent.{Sent, fits, sent_octets}
use Rattle.promise_demands.specs.Encoder.{Besides, Short, CreateInRange, EbiInRange, ModifyInRange}
use Rattle.promise_demands.specs.Encoder.{create_bearer, create_fields, context_bearer, modify_fields}
use Rattle.promise_demands.specs.Encoder.{delete_fields, encoded_create, encoded_modify, encoded_delete}

-- ---- unknown fields: those of another type or instance than the ones that are looked for
pub record Name : Type 0 where
  pub kind : ℕ
  pub inst : ℕ

abbrev name : ℕ → ℕ → Name
name kind inst = record { kind = kind; inst = inst }

unfoldable pub create_names : List Name
create_names = name imsi_kind 0 ∷ name rat_kind 0 ∷ name tunnel_kind 0 ∷ name apn_kind 0 ∷ name paa_kind 0 ∷ name bearer_kind 0 ∷ name recovery_kind 0 ∷ []

unfoldable pub create_within : List Name
create_within = name ebi_kind 0 ∷ name tunnel_kind 2 ∷ name qos_kind 0 ∷ []

unfoldable pub modify_names : List Name
modify_names = name tunnel_kind 0 ∷ name bearer_kind 0 ∷ []

unfoldable pub modify_within : List Name
modify_within = name ebi_kind 0 ∷ name tunnel_kind 1 ∷ []

unfoldable pub delete_names : List Name
delete_names = name ebi_kind 0 ∷ name bearer_kind 0 ∷ []

unfoldable pub known : List Name → Sent → Bool
known [] f = false
known (q ∷ n) f = (eqb f.kind q.kind && eqb (f.fourth % 16) q.inst) || known n f

-- the fields that are left without the unknown ones
unfoldable pub known_of : List Name → List Sent → List Sent
known_of n [] = []
known_of n (f ∷ l) = pick (known n f) (f ∷ known_of n l) (known_of n l)

-- fields l with the fields b in their Bearer Context, which but for unknown ones are those of the encoder; each value fits its length
pub record Mixed (names within : List Name) (fields bearer l b : List Sent) : Type 0 where
  pub fit : every fits l ≡ true
  pub fit_within : every fits b ≡ true
  pub known : known_of names l ≡ fields
  pub known_within : known_of within b ≡ bearer

-- ---- the promise: what the encoder writes of a request in range is read as that request; so is what it writes mixed with unknown fields
pub record EncodedIsRead : Type 0 where
  pub create : (plan : Plan) (c : C.Create) (x : Besides) → accepted plan ≡ true → CreateInRange plan c x → Short x
      → create_of plan (encoded_create plan c x) ≡ Ok (Create c)
  pub modify : (m : M.Modify) (x : Besides) → ModifyInRange m → Short x → modify_of (encoded_modify m x) ≡ Ok (Modify m)
  pub delete : (d : D.Delete) (x : Besides) → EbiInRange d.ebi → Short x → delete_of (encoded_delete d x) ≡ Ok (Delete d)
  pub create_mixed : (plan : Plan) (c : C.Create) (x : Besides) (l b : List Sent) → accepted plan ≡ true → CreateInRange plan c x
      → Mixed create_names create_within (create_fields plan c x b) (create_bearer c x) l b
      → create_of plan (sent_octets l) ≡ Ok (Create c)
  pub modify_mixed : (m : M.Modify) (x : Besides) (l b : List Sent) → ModifyInRange m
      → Mixed modify_names modify_within (modify_fields m x b) (context_bearer m.context x) l b
      → modify_of (sent_octets l) ≡ Ok (Modify m)
  pub delete_mixed : (d : D.Delete) (x : Besides) (l : List Sent) → EbiInRange d.ebi
      → every fits l ≡ true → known_of delete_names l ≡ delete_fields d.ebi x
      → delete_of (sent_octets l) ≡ Ok (Delete d)
