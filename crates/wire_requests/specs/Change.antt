-- Modify (34) and Delete (36), read from the octets behind the header: first the overruns, then what is tested if it is present; and what each comes to
-- for a session whose EBI is known.
-- Assumes nothing.
use Rattle.std.specs.Prelude.{ℕ, ◌<◌, ◌%◌, Bool, true, List, ◌≡◌, eqb, Option, Some, None, Result, Ok, Err, option_map}
use Rattle.std.proofs.Math.Path.{refl}
use Rattle.std.proofs.Common.{arith}
use Rattle.base_octets.specs.Choice.{pick, split}
use Rattle.wire_fields.specs.Walk.{part}
use Rattle.wire_fields.specs.Search.{find}
use Rattle.wire_fields.specs.Overrun.{over_in}
use Rattle.wire_fields.specs.declared.Found.{Found}
use Rattle.wire_fields.specs.declared.Flaw.{Flaw}
use Rattle.wire_fields.specs.declared.Flaw.TheVariants.{Missing, Short, Wrong}
use Rattle.wire_fields.specs.declared.Tunnel.{Tunnel}
use Rattle.wire_fields.specs.declared.Refusal.{Refusal}
use Rattle.wire_fields.specs.Kinds.{tunnel_kind, bearer_kind, ebi_kind}
use Rattle.wire_fields.specs.Refusal.{short_cause, wrong, refusal_of}
use Rattle.wire_fields.specs.Readers.{tunnel_in, ebi_in, octet_in, tunnel_in_live}
use Rattle.wire_requests.specs.Chain.{Decoded, refused_by, field, if_present, refuse_got, field_got}
use Rattle.wire_requests.specs.declared.Context.{Context}
use Rattle.wire_requests.specs.declared.Modify as M
use Rattle.wire_requests.specs.declared.Delete as D
use Rattle.wire_requests.specs.declared.Moves.{Moves}
use Rattle.wire_requests.specs.declared.Request.{Request}
use Rattle.wire_requests.specs.declared.Request.TheVariants.{Create, Modify, Delete}

-- a Bearer Context if present: without one, the first
abbrev pub context : Option Found → Decoded → (ℕ → ℕ → Decoded) → Decoded
context None without g = without
context (Some f) without g = g f.start f.size

unfoldable pub modify_of : List ℕ → Decoded
modify_of s =
    refused_by short_cause (over_in s) (
    field tunnel_kind 0 (if_present (tunnel_in s 0 6)) λ control.
    context (find s bearer_kind 0) (Ok (Modify (record { control = control; context = None }))) λ start size.
    field ebi_kind 0 (ebi_in (part s start size)) λ ebi.
    Ok (Modify (record { control = control; context = Some (record { ebi = ebi; user = tunnel_in (part s start size) 1 4 }) })))

unfoldable pub delete_of : List ℕ → Decoded
delete_of s =
    refused_by short_cause (over_in s) (
    field ebi_kind 0 (if_present (octet_in s ebi_kind 1)) λ x.
    Ok (Delete (record { ebi = option_map (λ n. n % 16) x })))

-- ---- for a session whose EBI is known
-- the EBI of the Bearer Context has to be the session's; then its F-TEID is judged
unfoldable pub end_moves : Option Tunnel → Result (Option Tunnel) Flaw → Result Moves Refusal
end_moves control (Ok user) = Ok (record { control = control; user = user })
end_moves control (Err e) = Err (refusal_of e tunnel_kind 1)

unfoldable pub context_moves : Option Tunnel → Option Context → ℕ → Result Moves Refusal
context_moves control None ebi = Ok (record { control = control; user = None })
context_moves control (Some x) ebi =
    pick (eqb x.ebi ebi) (end_moves control (if_present x.user)) (Err (wrong ebi_kind 0))

unfoldable pub moves_of : M.Modify → ℕ → Result Moves Refusal
moves_of m ebi = context_moves m.control m.context ebi

unfoldable pub ebi_means : Option ℕ → ℕ → Bool
ebi_means None ebi = true
ebi_means (Some x) ebi = eqb x ebi

unfoldable pub means_of : D.Delete → ℕ → Bool
means_of d ebi = ebi_means d.ebi ebi

-- ---- Modify in stages: of the message, of the Bearer Context
unfoldable pub within_of : List ℕ → Option Tunnel → Decoded
within_of b control =
    field ebi_kind 0 (ebi_in b) λ ebi.
    Ok (Modify (record { control = control; context = Some (record { ebi = ebi; user = tunnel_in b 1 4 }) }))

pub modify_stages : (s : List ℕ) → modify_of s ≡
    refused_by short_cause (over_in s) (
    field tunnel_kind 0 (if_present (tunnel_in s 0 6)) λ control.
    context (find s bearer_kind 0) (Ok (Modify (record { control = control; context = None }))) λ start size.
    within_of (part s start size) control)
unfolding modify_of within_of
modify_stages s = refl

never : {A : Type 0} → ◌≡◌ {A = ℕ} 0 1 → A
never z = absurd (omega arith)

-- ---- an F-TEID if present, told apart from one that is refused
pub moved_to : (kind instance : ℕ) (m : Result Tunnel Flaw) (f : Option Tunnel → Decoded) (p : Option Tunnel)
    → if_present m ≡ Ok p → field kind instance (if_present m) f ≡ f p
moved_to kind instance m f p e = rw e

flaw_is : (m : Result Tunnel Flaw) (flaw : Flaw) → if_present m ≡ Err flaw → m ≡ Err flaw
flaw_is (Ok t) flaw e = never (cc)
flaw_is (Err Missing) flaw e = never (cc)
flaw_is (Err Short) flaw e = let g : Short ≡ flaw = cc in rw g
flaw_is (Err Wrong) flaw e = let g : Wrong ≡ flaw = cc in rw g

pub moved-not : (kind instance : ℕ) (m : Result Tunnel Flaw) (f : Option Tunnel → Decoded) (flaw : Flaw)
    → if_present m ≡ Err flaw → (m ≡ Err flaw) × (field kind instance (if_present m) f ≡ Err (refusal_of flaw kind instance))
moved-not kind instance m f flaw e = (flaw_is m flaw e, rw e)

pub end_to : (control : Option Tunnel) (m : Result Tunnel Flaw) (p : Option Tunnel)
    → if_present m ≡ Ok p → end_moves control (if_present m) ≡ Ok (record { control = control; user = p })
unfolding end_moves
end_to control m p e = rw e

pub end_not : (control : Option Tunnel) (m : Result Tunnel Flaw) (flaw : Flaw)
    → if_present m ≡ Err flaw → (m ≡ Err flaw) × (end_moves control (if_present m) ≡ Err (refusal_of flaw tunnel_kind 1))
unfolding end_moves
end_not control m flaw e = (flaw_is m flaw e, rw e)

-- ---- what a decoded Modify holds
-- a tunnel end that moved has a TEID that is not 0
unfoldable pub PeerSound : Option Tunnel → Type 0
PeerSound None = Unit {0}
PeerSound (Some t) = 0 < t.teid

unfoldable pub TunnelSound : Result Tunnel Flaw → Type 0
TunnelSound (Ok t) = 0 < t.teid
TunnelSound (Err e) = Unit {0}

unfoldable pub ContextSound : Option Context → Type 0
ContextSound None = Unit {0}
ContextSound (Some x) = TunnelSound x.user

pub record ModifySound (m : M.Modify) : Type 0 where
  pub control : PeerSound m.control
  pub context : ContextSound m.context

pub new_live : (t : Tunnel) → PeerSound (Some t) → 0 < t.teid
unfolding PeerSound
new_live t h = h

tunnel_sound : (s : List ℕ) (instance interface : ℕ) → TunnelSound (tunnel_in s instance interface)
unfolding TunnelSound
tunnel_sound s instance interface = by (tunnel_in s instance interface) refl
  where
    by : (m : Result Tunnel Flaw) → tunnel_in s instance interface ≡ m → TunnelSound m
    by (Ok t) e = tunnel_in_live s instance interface t e
    by (Err e) h = tt

-- a tunnel end that is there if present is as sound as the read
present_sound : (m : Result Tunnel Flaw) (p : Option Tunnel) → TunnelSound m → if_present m ≡ Ok p → PeerSound p
unfolding PeerSound TunnelSound
present_sound (Ok t) None h e = never (cc)
present_sound (Ok t) (Some u) h e = let g : t ≡ u = cc in rw (← g) h
present_sound (Err Missing) None h e = tt
present_sound (Err Missing) (Some u) h e = never (cc)
present_sound (Err Short) p h e = never (cc)
present_sound (Err Wrong) p h e = never (cc)

module _ {A : Type 0} (q : Request) where
  context_got : (m : Option Found) (without : Decoded) (g : ℕ → ℕ → Decoded) → context m without g ≡ Ok q → (without ≡ Ok q → A) → ((f : Found) → g f.start f.size ≡ Ok q → A) → A
  context_got None without g e k j = k e
  context_got (Some f) without g e k j = j f e

-- a request that came of a Modify is a Modify that is sound, and one that came of a Delete is a Delete
module _ (s : List ℕ) (q : Request) (P : Request → Type 0) where
  is_request : (r : Request) → ◌≡◌ {A = Decoded} (Ok r) (Ok q) → P r → P q
  is_request r e h = let g : r ≡ q = cc in rw (← g) h

  pub modify_is : modify_of s ≡ Ok q → ((m : M.Modify) → ModifySound m → P (Modify m)) → P q
  unfolding modify_of ContextSound
  modify_is e k =
      refuse_got q short_cause (over_in s) _ e λ o e0.
      field_got q tunnel_kind 0 (if_present (tunnel_in s 0 6)) _ e0 λ control hc e1.
      let c = present_sound (tunnel_in s 0 6) control (tunnel_sound s 0 6) hc in
      context_got q (find s bearer_kind 0) _ _ e1 (λ e2. is_request _ e2 (k _ (record { control = c; context = tt }))) λ f e3.
      field_got q ebi_kind 0 (ebi_in (part s f.start f.size)) _ e3 λ ebi hx e4.
      is_request _ e4 (k _ (record { control = c; context = tunnel_sound (part s f.start f.size) 1 4 }))

  pub delete_is : delete_of s ≡ Ok q → ((d : D.Delete) → P (Delete d)) → P q
  unfolding delete_of
  delete_is e k =
      refuse_got q short_cause (over_in s) _ e λ o e0.
      field_got q ebi_kind 0 (if_present (octet_in s ebi_kind 1)) _ e0 λ x hx e1.
      is_request _ e1 (k _)

unfoldable SoundIf : Request → Type 0
SoundIf (Create c) = Unit {0}
SoundIf (Modify m) = ModifySound m
SoundIf (Delete d) = Unit {0}

pub modify_sound : (s : List ℕ) (m : M.Modify) → modify_of s ≡ Ok (Modify m) → ModifySound m
unfolding SoundIf
modify_sound s m e = modify_is s (Modify m) SoundIf e (λ x h. h)

-- where its peer is from now on is sound too
pub record MovesSound (x : Moves) : Type 0 where
  pub control : PeerSound x.control
  pub user : PeerSound x.user

is_moves : (x y : Moves) → ◌≡◌ {A = Result Moves Refusal} (Ok x) (Ok y) → MovesSound x → MovesSound y
is_moves x y e h = let f : x ≡ y = cc in rw (← f) h

pub moves_sound : (m : M.Modify) (ebi : ℕ) (x : Moves) → ModifySound m → moves_of m ebi ≡ Ok x → MovesSound x
unfolding moves_of context_moves end_moves ContextSound PeerSound
moves_sound m ebi x h e = by m.context h.context e
  where
    tunnel : (u : Result Tunnel Flaw) → TunnelSound u → (r : Result (Option Tunnel) Flaw) → if_present u ≡ r → end_moves m.control r ≡ Ok x → MovesSound x
    tunnel u k (Ok p) z q = is_moves _ _ q (record { control = h.control; user = present_sound u p k z })
    tunnel u k (Err r) z q = never (cc)

    by : (c : Option Context) → ContextSound c → context_moves m.control c ebi ≡ Ok x → MovesSound x
    by None k q = is_moves _ _ q (record { control = h.control; user = tt })
    by (Some c) k q =
        split (eqb c.ebi ebi) (λ z. tunnel c.user k (if_present c.user) refl (rw z at q))
        (λ z. let n : ◌≡◌ {A = Result Moves Refusal} (Err (wrong ebi_kind 0)) (Ok x) = rw z at q in never (cc))
