-- Why a datagram is refused by its octets alone: document 01's number of each reason, and of an answer that may be a refusal.
-- Assumes nothing.
use Rattle.std.specs.Prelude.{ℕ, ◌<◌, Result, Ok, Err}
use Rattle.std.proofs.Common.{arith}
use Rattle.base_octets.specs.declared.refused.Refused.{Refused}
use Rattle.base_octets.specs.declared.refused.Refused.TheVariants as R
use Rattle.base_octets.specs.Number.{taken, under_eight, flag_p_set, other_version, length_unfit, type_not_taken, teid_unfit, not_user, part_cut, must_understand}

abbrev pub refused_number : Refused → ℕ
refused_number R.UnderEight = under_eight
refused_number R.FlagPSet = flag_p_set
refused_number R.OtherVersion = other_version
refused_number R.LengthUnfit = length_unfit
refused_number R.TypeNotTaken = type_not_taken
refused_number R.TeidUnfit = teid_unfit
refused_number R.NotUser = not_user
refused_number R.PartCut = part_cut
refused_number R.MustUnderstand = must_understand

-- the number of an answer: 0 where nothing is refused
abbrev pub answer_number : {A : Type 0} → Result A Refused → ℕ
answer_number (Ok x) = taken
answer_number (Err why) = refused_number why

-- ---- laws
-- no refusal has the number of what is taken
pub refused_some : (why : Refused) → 0 < refused_number why
refused_some R.UnderEight = omega arith
refused_some R.FlagPSet = omega arith
refused_some R.OtherVersion = omega arith
refused_some R.LengthUnfit = omega arith
refused_some R.TypeNotTaken = omega arith
refused_some R.TeidUnfit = omega arith
refused_some R.NotUser = omega arith
refused_some R.PartCut = omega arith
refused_some R.MustUnderstand = omega arith
