-- The types of the fields that are read, each figure in one place; that of the Bearer Context stands with the overruns.
use Rattle.std.specs.Prelude.{ℕ}
use Rattle.wire_fields.specs.Overrun.{bearer_context}

abbrev pub imsi_kind : ℕ
imsi_kind = 1

abbrev pub cause_kind : ℕ
cause_kind = 2

abbrev pub recovery_kind : ℕ
recovery_kind = 3

abbrev pub apn_kind : ℕ
apn_kind = 71

abbrev pub ebi_kind : ℕ
ebi_kind = 73

abbrev pub paa_kind : ℕ
paa_kind = 79

abbrev pub qos_kind : ℕ
qos_kind = 80

abbrev pub rat_kind : ℕ
rat_kind = 82

abbrev pub tunnel_kind : ℕ
tunnel_kind = 87

abbrev pub bearer_kind : ℕ
bearer_kind = bearer_context
