-- One pass over the records: each held to its rules, its key (IMSI and EBI), whether it awaits a number, and its share of four counts
-- that are packed into one number. Where nobody awaits one, the whole check needs no more of the records.
-- Assumes nothing.
use Rattle.std.specs.Prelude.{ℕ, ◌+◌, ◌*◌, ◌%◌, ◌≤◌, Bool, true, false, ◌&&◌, List, map, ◌≡◌, refl, replicate, eqb}
use Rattle.std.proofs.Common.{arith}
use Rattle.base_octets.specs.Choice.{pick, split}
use Rattle.base_octets.specs.Every.{every}
use Rattle.base_octets.specs.Sums.{sum_of}
use Rattle.unit_session.specs.declared.OwnRequest.{OwnRequest}
use Rattle.unit_session.specs.declared.Session.{Session}
use Rattle.unit_session.specs.declared.Bounds.{Bounds}
use Rattle.unit_session.specs.Session.{is_free, record_ok}
use Rattle.unit_tunnel.specs.Numbering.{places}

-- an IMSI has less than 55 bits, so that IMSI and EBI fit one number of 64
abbrev pub imsi_part : ℕ
imsi_part = 36028797018963968

-- IMSI and EBI as one number that is not 0; a free record has no key
abbrev pub id_key : ℕ → ℕ → ℕ
id_key imsi ebi = imsi % imsi_part * 256 + ebi

unfoldable pub key_of : Session → ℕ
key_of s = pick {A = ℕ} (is_free s) 0 (id_key s.imsi s.ebi)

-- the awaited number plus one, or 0
unfoldable pub wait_of : OwnRequest → ℕ
wait_of r = pick {A = ℕ} (eqb r.sends 0) 0 (r.number + 1)

-- one in the count of its access point, of four counts of 16 bits each
abbrev pub second_unit : ℕ
second_unit = 65536

abbrev pub third_unit : ℕ
third_unit = 4294967296

abbrev pub fourth_unit : ℕ
fourth_unit = 281474976710656

unfoldable pub point_unit : ℕ → ℕ
point_unit a = pick {A = ℕ} (eqb a 0) 1 (pick {A = ℕ} (eqb a 1) second_unit (pick {A = ℕ} (eqb a 2) third_unit (pick {A = ℕ} (eqb a 3) fourth_unit 0)))

unfoldable pub weight_of : Session → ℕ
weight_of s = pick {A = ℕ} (is_free s) 0 (point_unit s.point)

-- no number is awaited
unfoldable pub awaits_none : Session → Bool
awaits_none s = eqb s.own.sends 0

unfoldable pub waits_of : List Session → List ℕ
waits_of l = map (λ s. wait_of s.own) l

-- what there is to find of the records: every one good, no number awaited, their counts packed, keys by place
pub record Survey : Type 0 where
  pub good : Bool
  pub quiet : Bool
  pub counts : ℕ
  pub keys : List ℕ

unfoldable pub no_survey : Survey
no_survey = record { good = false; quiet = true; counts = 0; keys = replicate places 0 }

unfoldable pub survey_of : Bounds → List Session → Survey
survey_of b l =
    pick (every (record_ok b) l)
    (record { good = true; quiet = every awaits_none l; counts = sum_of weight_of l; keys = map key_of l })
    no_survey

unit_most : (a : ℕ) → point_unit a ≤ fourth_unit
unfolding point_unit
unit_most a = split (eqb a 0) (λ e. rw e (omega arith))
    (λ e. split (eqb a 1) (λ f. rw (e, f) (omega arith))
    (λ f. split (eqb a 2) (λ g. rw (e, f, g) (omega arith))
    (λ g. split (eqb a 3) (λ h. rw (e, f, g, h) (omega arith)) (λ h. rw (e, f, g, h) (omega arith)))))

pub weight_most : (s : Session) → weight_of s ≤ fourth_unit
unfolding weight_of
weight_most s = split (is_free s) (λ e. rw e (omega arith)) (λ e. let u = unit_most s.point in rw e (omega arith))

pub and_yes : (a : Bool) → (a && true) ≡ a
and_yes true = refl
and_yes false = refl
