-- What holds of the decoder's definitions on every list of octets: each answers with a number of its own list; what it holds is sound; and a field's
-- value is the very octets between its start and its end.
-- Assumes nothing.
use Rattle.std.specs.Prelude.{ℕ, List, ◌≡◌, take, Some, Ok}
use Rattle.wire_fields.specs.Walk.{part}
use Rattle.wire_fields.specs.Search.{find, Stands}
use Rattle.unit_plan.specs.declared.Plan.{Plan}
use Rattle.unit_plan.specs.Limits.{parties}
use Rattle.wire_requests.specs.Create.{create_of, CreateSound}
use Rattle.wire_requests.specs.declared.Create as C
use Rattle.wire_requests.specs.declared.Modify as M
use Rattle.wire_requests.specs.declared.Request.TheVariants.{Create, Modify}
use Rattle.wire_requests.specs.Change.{modify_of, delete_of, ModifySound}
use Rattle.call_asked.specs.Answers.{Answers, is_create, is_modify, is_delete, create_numbers, modify_numbers, delete_numbers}

-- ---- the claims
unfoldable pub CreateAnswers : Type 0
CreateAnswers = (plan : Plan) (s : List ℕ) → Answers create_numbers is_create (create_of plan s)

unfoldable pub ModifyAnswers : Type 0
ModifyAnswers = (s : List ℕ) → Answers modify_numbers is_modify (modify_of s)

unfoldable pub DeleteAnswers : Type 0
DeleteAnswers = (s : List ℕ) → Answers delete_numbers is_delete (delete_of s)

-- what a decoded Create and Modify hold is sound
unfoldable pub CreatesSound : Type 0
CreatesSound = (plan : Plan) (s : List ℕ) (c : C.Create) → create_of plan s ≡ Ok (Create c) → CreateSound (parties plan) c

unfoldable pub ModifiesSound : Type 0
ModifiesSound = (s : List ℕ) (m : M.Modify) → modify_of s ≡ Ok (Modify m) → ModifySound m

-- a field's value is the octets between its start and its end: behind type, length and instance, as many as the length says
pub record ItsOctets (s : List ℕ) (kind inst start size : ℕ) : Type 0 where
  pub stands : Stands s 0 kind inst start size
  pub value : part s start size ≡ take size stands.back

unfoldable pub ValuesAreTheirOctets : Type 0
ValuesAreTheirOctets = (s : List ℕ) (kind inst start size : ℕ) → find s kind inst ≡ Some (record { start = start; size = size }) → ItsOctets s kind inst start size
