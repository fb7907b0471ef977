-- One reading a field: its value, or that it is missing, short or wrong, in this order. The octets are those of a message behind its header,
-- or those of a Bearer Context.
-- Assumes nothing.
use Rattle.std.specs.Prelude.{ℕ, ◌%◌, ◌<◌, ◌≤◌, ◌||◌, List, ◌≡◌, get_or, eqb, ltb, Option, Some, None, Result, Ok, Err}
use Rattle.std.proofs.Common.{arith, ltb-false}
use Rattle.base_octets.specs.Choice.{pick, split}
use Rattle.wire_fields.specs.Walk.{part}
use Rattle.wire_fields.specs.Search.{find}
use Rattle.wire_fields.specs.declared.Found.{Found}
use Rattle.wire_fields.specs.Imsi.{imsi_of, imsi_limit, imsi_below}
use Rattle.wire_fields.specs.Tunnel.{tunnel_of, tunnel-live}
use Rattle.wire_fields.specs.declared.Tunnel.{Tunnel}
use Rattle.wire_fields.specs.Kinds.{imsi_kind, recovery_kind, ebi_kind, paa_kind, rat_kind, tunnel_kind}
use Rattle.wire_fields.specs.declared.Flaw.{Flaw}
use Rattle.wire_fields.specs.declared.Flaw.TheVariants.{Missing, Short, Wrong}

-- the first octet of a value of at least so many octets
unfoldable pub octet_at : List ℕ → ℕ → Option Found → Result ℕ Flaw
octet_at s least (Some f) = pick (ltb f.size least) (Err Short) (Ok (get_or s f.start 0))
octet_at s least None = Err Missing

-- of a field of instance 0
unfoldable pub octet_in : List ℕ → ℕ → ℕ → Result ℕ Flaw
octet_in s kind least = octet_at s least (find s kind 0)

-- the octet, judged
abbrev pub judged : Result ℕ Flaw → (ℕ → Result ℕ Flaw) → Result ℕ Flaw
judged (Ok x) f = f x
judged (Err e) f = Err e

-- RAT Type: 1 or 6
unfoldable pub rat_in : List ℕ → Result ℕ Flaw
rat_in s = judged (octet_in s rat_kind 1) λ x. pick (eqb x 1 || eqb x 6) (Ok x) (Err Wrong)

-- PAA: 5 octets; its type is the low 3 bits
unfoldable pub paa_in : List ℕ → Result ℕ Flaw
paa_in s = judged (octet_in s paa_kind 5) λ x. Ok (x % 8)

-- EBI: the low half, 5 to 15
unfoldable pub ebi_in : List ℕ → Result ℕ Flaw
ebi_in s = judged (octet_in s ebi_kind 1) λ x. pick (ltb (x % 16) 5) (Err Wrong) (Ok (x % 16))

-- IMSI
unfoldable pub imsi_at : List ℕ → Option Found → Result ℕ Flaw
imsi_at s (Some f) = imsi_of (part s f.start f.size)
imsi_at s None = Err Missing

unfoldable pub imsi_in : List ℕ → Result ℕ Flaw
imsi_in s = imsi_at s (find s imsi_kind 0)

-- F-TEID of an instance, for an interface
unfoldable pub tunnel_at : List ℕ → ℕ → Option Found → Result Tunnel Flaw
tunnel_at s interface (Some f) = tunnel_of (part s f.start f.size) interface
tunnel_at s interface None = Err Missing

unfoldable pub tunnel_in : List ℕ → ℕ → ℕ → Result Tunnel Flaw
tunnel_in s instance interface = tunnel_at s interface (find s tunnel_kind instance)

-- Recovery: absent or empty is none
unfoldable pub recovery_of : Result ℕ Flaw → Option ℕ
recovery_of (Ok x) = Some x
recovery_of (Err e) = None

unfoldable pub recovery_in : List ℕ → Option ℕ
recovery_in s = recovery_of (octet_in s recovery_kind 1)

-- ---- what was read
never : {A : Type 0} → ◌≡◌ {A = ℕ} 0 1 → A
never z = absurd (omega arith)

ebi_judged : (m : Result ℕ Flaw) (x : ℕ) → (judged m λ y. pick (ltb (y % 16) 5) (Err Wrong) (Ok (y % 16))) ≡ Ok x → (5 ≤ x) × (x ≤ 15)
ebi_judged (Err m) x e = never (cc)
ebi_judged (Ok y) x e =
    split (ltb (y % 16) 5)
    (λ t. let g : ◌≡◌ {A = Result ℕ Flaw} (Err Wrong) (Ok x) = rw t at e in never (cc))
    (λ t. let g : ◌≡◌ {A = Result ℕ Flaw} (Ok (y % 16)) (Ok x) = rw t at e in let k : y % 16 ≡ x = cc in let h = ltb-false (y % 16) 5 t in (omega arith, omega arith))

pub ebi_range : (s : List ℕ) (x : ℕ) → ebi_in s ≡ Ok x → (5 ≤ x) × (x ≤ 15)
unfolding ebi_in
ebi_range s x e = ebi_judged (octet_in s ebi_kind 1) x e

imsi_at_below : (s : List ℕ) (f : Option Found) (x : ℕ) → imsi_at s f ≡ Ok x → x < imsi_limit
unfolding imsi_at
imsi_at_below s (Some f) x e = imsi_below (part s f.start f.size) x e
imsi_at_below s None x e = never (cc)

pub imsi_in_below : (s : List ℕ) (x : ℕ) → imsi_in s ≡ Ok x → x < imsi_limit
unfolding imsi_in
imsi_in_below s x e = imsi_at_below s (find s imsi_kind 0) x e

tunnel_at_live : (s : List ℕ) (interface : ℕ) (f : Option Found) (t : Tunnel) → tunnel_at s interface f ≡ Ok t → 0 < t.teid
unfolding tunnel_at
tunnel_at_live s interface (Some f) t e = tunnel-live (part s f.start f.size) interface t e
tunnel_at_live s interface None t e = never (cc)

pub tunnel_in_live : (s : List ℕ) (instance interface : ℕ) (t : Tunnel) → tunnel_in s instance interface ≡ Ok t → 0 < t.teid
unfolding tunnel_in
tunnel_in_live s instance interface t e = tunnel_at_live s interface (find s tunnel_kind instance) t e
