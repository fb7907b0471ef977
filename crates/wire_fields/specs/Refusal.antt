-- Refusals with a cause. For a field: missing 70, short 67, wrong 69, and the field is named; the others name none.
use Rattle.std.specs.Prelude.{ℕ, Some, None}
use Rattle.wire_fields.specs.declared.Refusal.{Refusal}
use Rattle.wire_fields.specs.declared.Flaw.{Flaw}

-- the causes by name; accepted is a Cause too
abbrev pub accepted_cause : ℕ
accepted_cause = 16

abbrev pub not_live_cause : ℕ
not_live_cause = 64

-- a field that is short, also one that overruns
abbrev pub short_cause : ℕ
short_cause = 67

abbrev pub wrong_cause : ℕ
wrong_cause = 69

abbrev pub missing_cause : ℕ
missing_cause = 70

abbrev pub no_room_cause : ℕ
no_room_cause = 73

abbrev pub unknown_apn_cause : ℕ
unknown_apn_cause = 78

-- an address type that is not served
abbrev pub address_type_cause : ℕ
address_type_cause = 83

abbrev pub missing : ℕ → ℕ → Refusal
missing kind instance = record { cause = missing_cause; fault = Some (record { kind = kind; instance = instance }) }

abbrev pub short : ℕ → ℕ → Refusal
short kind instance = record { cause = short_cause; fault = Some (record { kind = kind; instance = instance }) }

abbrev pub wrong : ℕ → ℕ → Refusal
wrong kind instance = record { cause = wrong_cause; fault = Some (record { kind = kind; instance = instance }) }

abbrev pub bare_refusal : ℕ → Refusal
bare_refusal cause = record { cause = cause; fault = None }

-- what a read that gives no value is refused with, for the field that was to be read
unfoldable pub refusal_of : Flaw → ℕ → ℕ → Refusal
refusal_of Flaw.Missing kind instance = missing kind instance
refusal_of Flaw.Short kind instance = short kind instance
refusal_of Flaw.Wrong kind instance = wrong kind instance
