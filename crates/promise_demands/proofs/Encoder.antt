-- That what specs/Encoder.antt says holds, and what that rests on.
-- Assumes nothing.
use Rattle.std.specs.Prelude.{ℕ, zero, suc, ◌+◌, ◌*◌, ◌/◌, ◌%◌, ◌^◌, ◌<◌, ◌≤◌, Bool, List, [], ◌∷◌, ◌++◌, ◌≡◌, length, get_or, leb, Option, Some, None, Result, Ok, Err}
use Rattle.std.proofs.Math.Bool.{true}
use Rattle.std.proofs.Math.Path.{refl}
use Rattle.std.proofs.Common.{pow-suc, length-take, le-leb, leb-true, lt-ltb}
use native.Mathlib.Omega.{arith}
use Rattle.std.proofs.Math.ListN.{length-append}
use Rattle.base_octets.specs.Choice.{and_left, and_right}
use Rattle.base_octets.specs.Every.{every, every_in}
use Rattle.base_octets.specs.BigEndian.{octets_of, length_octets}
use Rattle.wire_fields.specs.Imsi.{is_half, decimal_from}
use Rattle.wire_fields.specs.Kinds.{imsi_kind, rat_kind, tunnel_kind, apn_kind, paa_kind, bearer_kind, ebi_kind, qos_kind, recovery_kind}
use Rattle.unit_plan.specs.declared.Plan.{Plan}
use Rattle.unit_plan.specs.Limits.{used, parties, no_point, point_ok, longest_name}
use Rattle.unit_plan.specs.Names.{name_of}
use Rattle.unit_plan.specs.Plan.{accepted}
use Rattle.wire_requests.specs.declared.Create as C
use Rattle.wire_requests.specs.declared.Modify as M
use Rattle.promise_demands.specs.Sent.{fits, sent_octets}
use Rattle.promise_demands.specs.Values.{packed}
use Rattle.promise_demands.proofs.Values.{packed_most}
use Rattle.promise_demands.specs.Encoder.{field, digits_of, tunnel_octets, Besides, Short, control_flags, user_flags, create_bearer, recovery_field, create_fields, control_field, user_field, context_field, context_bearer, modify_fields, delete_fields}
use Rattle.wire_fields.specs.declared.Flaw.{Flaw}
use Rattle.wire_fields.specs.declared.Tunnel.{Tunnel}
use Rattle.wire_requests.specs.declared.Context.{Context}
use Rattle.wire_fields.specs.declared.Flaw.TheVariants as Flaw

-- ---- laws: digits write their number
every_last : (p : ℕ → Bool) (l : List ℕ) (x : ℕ) → every p l ≡ true → p x ≡ true → every p (l ++ (x ∷ [])) ≡ true
unfolding every
every_last p [] x e h = rw h
every_last p (y ∷ l) x e h = rw (and_left (p y) (every p l) e) (every_last p l x (and_right (p y) (every p l) e) h)

decimal_last : (n : ℕ) (l : List ℕ) (x : ℕ) → decimal_from n (l ++ (x ∷ [])) ≡ decimal_from n l * 10 + x
unfolding decimal_from
decimal_last n [] x = refl
decimal_last n (y ∷ l) x = decimal_last (n * 10 + y) l x

pub digits_each : (w n : ℕ) → every is_half (digits_of w n) ≡ true
unfolding digits_of every is_half
digits_each zero n = refl
digits_each (suc w) n = every_last is_half (digits_of w (n / 10)) (n % 10) (digits_each w (n / 10)) (le-leb (n % 10) 9 (omega arith))

pub digits-length : (w n : ℕ) → length (digits_of w n) ≡ w
unfolding digits_of
digits-length zero n = refl
digits-length (suc w) n = let r = digits-length w (n / 10) in simp length-append (omega arith)

pub digits-back : (w n : ℕ) → n < 10 ^ w → decimal_from 0 (digits_of w n) ≡ n
unfolding digits_of decimal_from
digits-back zero n h = omega arith
digits-back (suc w) n h =
    let p = pow-suc 10 w in
    let r = digits-back w (n / 10) (omega arith) in
    let s = decimal_last 0 (digits_of w (n / 10)) (n % 10) in
    omega arith

-- ---- laws: lengths
fits-field : (kind inst : ℕ) (v : List ℕ) → length v < 65536 → fits (field kind inst v) ≡ true
unfolding fits
fits-field kind inst v h = lt-ltb (length v) 65536 h

tunnel-short : (flags teid addr : ℕ) (behind : List ℕ) → length (tunnel_octets flags teid addr behind) ≡ length behind + 9
unfolding tunnel_octets octets_of
tunnel-short flags teid addr behind = omega arith

name-short : (plan : Plan) (i : ℕ) → accepted plan ≡ true → i < parties plan → length (name_of (get_or (used plan) i no_point)) ≤ longest_name
unfolding accepted name_of point_ok longest_name
name-short plan i p h =
    let a : every point_ok (used plan) ≡ true = search (and_left, and_right) depth 5 in
    let o = every_in point_ok (used plan) i no_point a h in
    let k : leb (get_or (used plan) i no_point).size longest_name ≡ true = search (and_left, and_right) depth 7 in
    let m = leb-true (get_or (used plan) i no_point).size longest_name k in
    simp length-take (omega arith)

module _ (x : Besides) (s : Short x) where
  pub create_bearer_fits : (c : C.Create) → every fits (create_bearer c x) ≡ true
  unfolding create_bearer every
  create_bearer_fits c =
      let a = s.within ebi_kind in
      let b = s.within tunnel_kind in
      let q = s.qos in
      let t = tunnel-short user_flags c.user c.useraddr (x.within tunnel_kind) in
      rw (
        fits-field ebi_kind 0 (c.ebi ∷ x.within ebi_kind) (omega arith),
        fits-field tunnel_kind 2 (tunnel_octets user_flags c.user c.useraddr (x.within tunnel_kind)) (omega arith),
        fits-field qos_kind 0 x.qos (omega arith),
      )

  create_bearer_short : (c : C.Create) → length (sent_octets (create_bearer c x)) < 65536
  unfolding create_bearer sent_octets octets_of
  create_bearer_short c =
      let a = s.within ebi_kind in
      let b = s.within tunnel_kind in
      let q = s.qos in
      let t = tunnel-short user_flags c.user c.useraddr (x.within tunnel_kind) in
      simp length-append (omega arith)

  recovery_fits : (r : Option ℕ) → every fits (recovery_field r x) ≡ true
  unfolding recovery_field every
  recovery_fits None = refl
  recovery_fits (Some r) = let a = s.behind recovery_kind in rw (fits-field recovery_kind 0 (r ∷ x.behind recovery_kind) (omega arith))

  pub create-fits : (plan : Plan) (c : C.Create) → accepted plan ≡ true → c.point < parties plan
      → every fits (create_fields plan c x (create_bearer c x)) ≡ true
  unfolding create_fields every longest_name
  create-fits plan c p h =
      let digits = digits-length 15 c.imsi in
      let most = packed_most (digits_of 15 c.imsi) in
      let imsi = length-append (packed (digits_of 15 c.imsi)) (x.behind imsi_kind) in
      let paa = length-append (octets_of 4 x.address) (x.behind paa_kind) in
      let four = length_octets 4 x.address in
      let tunnel = tunnel-short control_flags c.control c.controladdr (x.behind tunnel_kind) in
      let name = name-short plan c.point p h in
      let b1 = s.behind imsi_kind in
      let b2 = s.behind rat_kind in
      let b3 = s.behind tunnel_kind in
      let b4 = s.behind paa_kind in
      rw (
        fits-field imsi_kind 0 (packed (digits_of 15 c.imsi) ++ x.behind imsi_kind) (omega arith),
        fits-field rat_kind 0 (x.rat ∷ x.behind rat_kind) (omega arith),
        fits-field tunnel_kind 0 (tunnel_octets control_flags c.control c.controladdr (x.behind tunnel_kind)) (omega arith),
        fits-field apn_kind 0 (name_of (get_or (used plan) c.point no_point)) (omega arith),
        fits-field paa_kind 0 (1 ∷ octets_of 4 x.address ++ x.behind paa_kind) (omega arith),
        fits-field bearer_kind 0 (sent_octets (create_bearer c x)) (create_bearer_short c),
      )
      (recovery_fits c.recovery)

  user_fits : (t : Result Tunnel Flaw) → every fits (user_field t x) ≡ true
  unfolding user_field every
  user_fits (Ok end) =
      let b = s.within tunnel_kind in
      let t = tunnel-short user_flags end.teid end.address (x.within tunnel_kind) in
      rw (fits-field tunnel_kind 1 (tunnel_octets user_flags end.teid end.address (x.within tunnel_kind)) (omega arith))
  user_fits (Err Flaw.Missing) = refl
  user_fits (Err Flaw.Short) = refl
  user_fits (Err Flaw.Wrong) = refl

  user_short : (t : Result Tunnel Flaw) → length (sent_octets (user_field t x)) ≤ 10013
  unfolding user_field sent_octets octets_of
  user_short (Ok end) =
      let b = s.within tunnel_kind in
      let t = tunnel-short user_flags end.teid end.address (x.within tunnel_kind) in
      simp length-append (omega arith)
  user_short (Err Flaw.Missing) = omega arith
  user_short (Err Flaw.Short) = omega arith
  user_short (Err Flaw.Wrong) = omega arith

  pub context-fits : (k : Option Context) → every fits (context_bearer k x) ≡ true
  unfolding context_bearer every
  context-fits None = refl
  context-fits (Some contextx) = let a = s.within ebi_kind in rw (fits-field ebi_kind 0 (contextx.ebi ∷ x.within ebi_kind) (omega arith)) (user_fits contextx.user)

  context-short : (k : Option Context) → length (sent_octets (context_bearer k x)) < 65536
  unfolding context_bearer sent_octets octets_of
  context-short None = omega arith
  context-short (Some contextx) = let a = s.within ebi_kind in let b = user_short contextx.user in simp length-append (omega arith)

  bearer_fits : (k : Option Context) → every fits (context_field k (context_bearer k x)) ≡ true
  unfolding context_field every
  bearer_fits None = refl
  bearer_fits (Some contextx) = rw (fits-field bearer_kind 0 (sent_octets (context_bearer (Some (record { ebi = contextx.ebi; user = contextx.user })) x)) (context-short (Some (record { ebi = contextx.ebi; user = contextx.user }))))

  pub modify_fits : (m : M.Modify) → every fits (modify_fields m x (context_bearer m.context x)) ≡ true
  unfolding modify_fields control_field every
  modify_fits m = by m.control
    where
      by : (p : Option Tunnel) → every fits (control_field p x ++ context_field m.context (context_bearer m.context x)) ≡ true
      by None = bearer_fits m.context
      by (Some end) =
          let b = s.behind tunnel_kind in
          let t = tunnel-short control_flags end.teid end.address (x.behind tunnel_kind) in
          rw (fits-field tunnel_kind 0 (tunnel_octets control_flags end.teid end.address (x.behind tunnel_kind)) (omega arith)) (bearer_fits m.context)

  pub delete_fits : (k : Option ℕ) → every fits (delete_fields k x) ≡ true
  unfolding delete_fields every
  delete_fits None = refl
  delete_fits (Some ebi) = let a = s.behind ebi_kind in rw (fits-field ebi_kind 0 (ebi ∷ x.behind ebi_kind) (omega arith))
