-- That what specs/Answers.antt says holds, and what that rests on.
-- Assumes nothing.
use Rattle.wire_fields.specs.Search.{find_stands, find_value}
use Rattle.wire_requests.proofs.CreateLaws.{create_sound}
use Rattle.wire_requests.specs.Change.{modify_sound}
use Rattle.call_asked.specs.Answers as asked
use Rattle.call_asked.proofs.DeleteAnswers as deleted
use Rattle.promise_demands.specs.Answers.{CreateAnswers, ModifyAnswers, DeleteAnswers, CreatesSound, ModifiesSound, ValuesAreTheirOctets}

pub create-answers : CreateAnswers
unfolding CreateAnswers
create-answers = asked.create-answers

pub modify_answers : ModifyAnswers
unfolding ModifyAnswers
modify_answers = asked.modify_answers

pub delete_answers : DeleteAnswers
unfolding DeleteAnswers
delete_answers = deleted.delete_answers

pub creates_sound : CreatesSound
unfolding CreatesSound
creates_sound = create_sound

pub modifies_sound : ModifiesSound
unfolding ModifiesSound
modifies_sound = modify_sound

pub values_are_their_octets : ValuesAreTheirOctets
unfolding ValuesAreTheirOctets
values_are_their_octets s kind inst start size e = record { stands = find_stands s kind inst _ e; value = find_value s kind inst _ e }
