-- What a Delete is answered with: a number of its own list, and what is decoded is a Delete.
-- Assumes nothing.
use Rattle.std.specs.Prelude.{ℕ, List, ◌≡◌, refl}
use Rattle.std.proofs.Math.Bool.{true}
use Rattle.wire_fields.specs.Search.{find}
use Rattle.wire_fields.specs.Overrun.{over_in}
use Rattle.wire_fields.specs.Refusal.{short_cause}
use Rattle.wire_fields.specs.Kinds.{ebi_kind}
use Rattle.wire_fields.specs.Readers.{octet_in}
use Rattle.wire_requests.specs.Change.{delete_of}
use Rattle.call_asked.specs.Answers.{Answers, is_delete, right, answers, refuse_right, present-right, octet_not_wrong, delete_numbers, delete_sort}

delete_right : (s : List ℕ) → right delete_numbers is_delete (delete_of s) ≡ true
unfolding delete_of delete_numbers octet_in
delete_right s =
    refuse_right delete_numbers is_delete short_cause (over_in s) _ refl
    (present-right delete_numbers is_delete ebi_kind 0 (octet_in s ebi_kind 1) _ refl (octet_not_wrong s 1 (find s ebi_kind 0)) λ ebi. delete_sort _)

pub delete_answers : (s : List ℕ) → Answers delete_numbers is_delete (delete_of s)
delete_answers s = answers delete_numbers is_delete (delete_of s) (delete_right s)
