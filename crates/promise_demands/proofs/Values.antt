-- That what specs/Values.antt says holds, and what that rests on.
-- Assumes nothing.
use Rattle.std.specs.Prelude.{ℕ, suc, ◌+◌, ◌*◌, ◌/◌, ◌%◌, ◌<◌, ◌≤◌, ◌||◌, ◌≡◌, length, take, drop, get_or, leb, Some, None, Ok, Err, Option, List}
use Rattle.std.proofs.Math.Bool.{true}
use mathlib.Core.List.{List, [], ◌∷◌, ◌++◌}
use Rattle.std.proofs.Math.Path.{refl}
use Rattle.std.proofs.Common.{sym, ap, ◌∙◌, arith, length-append, take_at, get_or-take, get_or-drop}
use Rattle.std.proofs.Math.Dec.{eqb}
use borrow.Author.Tests.{lt-ltb, le-ltb, le-leb, eq-eqb, leb-true}
use Rattle.base_octets.specs.Choice.{and_left, and_right}
use Rattle.base_octets.specs.Every.{every}
use Rattle.base_octets.specs.Search as places
use Rattle.base_octets.specs.Same.{same_octets}
use Rattle.base_octets.specs.BigEndian.{number_of, number_from, octets_of, number_back}
use Rattle.wire_fields.specs.Walk.{part}
use Rattle.wire_fields.specs.Imsi.{imsi_of, imsi_long, halves, front, last_of, is_half, decimal_from, digits_from}
use Rattle.wire_fields.specs.Tunnel.{word_at, tunnel_good, tunnel_of, tunnel_good_lem, v4_flag, interfaces}
use Rattle.wire_fields.specs.Kinds.{imsi_kind, rat_kind, tunnel_kind, paa_kind, ebi_kind, qos_kind, recovery_kind}
use Rattle.wire_fields.specs.Readers.{octet_at, octet_in, rat_in, paa_in, ebi_in, imsi_at, imsi_in, tunnel_at, tunnel_in, recovery_of, recovery_in}
use Rattle.unit_plan.specs.declared.Plan.{Plan}
use Rattle.unit_plan.specs.declared.AccessPoint.{AccessPoint}
use Rattle.unit_plan.specs.Limits.{used}
use Rattle.unit_plan.specs.Names.{name_of, same_name, goes_by, names_differ, named_in, named_once}
use Rattle.unit_plan.specs.Plan.{accepted}
use Rattle.promise_demands.specs.Sent.{Holds, Sent, fits, sent_octets, first_sent, FoundAgain, SentIsFound}
use Rattle.promise_demands.proofs.Sent.{sent_is_found}
use Rattle.promise_demands.specs.Values.{packed, ImsiValue, RatValue, TunnelValue, PaaValue, EbiValue, QosValue, recovery_sent, Has}
use Rattle.wire_fields.specs.declared.Flaw.TheVariants.{Missing}

-- ---- laws: one value is read
-- an IMSI
halves-packed : (l : List ℕ) (x : ℕ) → every is_half (x ∷ l) ≡ true → length (x ∷ l) % 2 ≡ 1 → halves (packed (x ∷ l)) ≡ x ∷ l ++ (15 ∷ [])
unfolding halves packed every is_half
halves-packed [] x e o =
    let h = leb-true x 9 (and_left (leb x 9) true e) in
    let a : (240 + x) % 16 ≡ x = omega arith in
    let b : (240 + x) / 16 ≡ 15 = omega arith in
    rw (a, b)
halves-packed (y ∷ []) x e o = absurd (omega arith)
halves-packed (y ∷ z ∷ l) x e o =
    let h = leb-true x 9 (and_left (leb x 9) (every is_half (y ∷ z ∷ l)) e) in
    let r = halves-packed l z (and_right (leb y 9) (every is_half (z ∷ l)) (and_right (leb x 9) (every is_half (y ∷ z ∷ l)) e)) (omega arith) in
    let a : (y * 16 + x) % 16 ≡ x = omega arith in
    let b : (y * 16 + x) / 16 ≡ y = omega arith in
    rw (a, b, r)

front_of_lem : (l : List ℕ) (x : ℕ) → front (l ++ (x ∷ [])) ≡ l
unfolding front
front_of_lem [] x = refl
front_of_lem (y ∷ []) x = refl
front_of_lem (y ∷ z ∷ l) x = ap (λ (m : List ℕ). y ∷ m) (front_of_lem (z ∷ l) x)

last_of_lem : (l : List ℕ) (x : ℕ) → last_of (l ++ (x ∷ [])) ≡ x
unfolding last_of
last_of_lem [] x = refl
last_of_lem (y ∷ []) x = refl
last_of_lem (y ∷ z ∷ l) x = last_of_lem (z ∷ l) x

packed-length : (l : List ℕ) → length l ≤ length (packed l) * 2
unfolding packed
packed-length [] = omega arith
packed-length (x ∷ []) = omega arith
packed-length (x ∷ y ∷ l) = let r = packed-length l in omega arith

pub packed_most : (l : List ℕ) → length (packed l) * 2 ≤ length l + 1
unfolding packed
packed_most [] = omega arith
packed_most (x ∷ []) = omega arith
packed_most (x ∷ y ∷ l) = let r = packed_most l in omega arith

imsi-digits : (l behind : List ℕ) → length l ≡ 15 → every is_half l ≡ true → imsi_of (packed l ++ behind) ≡ Ok (decimal_from 0 l)
unfolding digits_from
imsi-digits [] behind n e = absurd (omega arith)
imsi-digits (x ∷ l) behind n e =
    let a = packed-length (x ∷ l) in
    let b = packed_most (x ∷ l) in
    let k : length (packed (x ∷ l)) ≡ 8 = omega arith in
    let t : take 8 (packed (x ∷ l) ++ behind) ≡ packed (x ∷ l) = take_at (packed (x ∷ l)) behind 8 k in
    let h : halves (packed (x ∷ l)) ≡ x ∷ l ++ (15 ∷ []) = halves-packed l x e (omega arith) in
    let f : front (x ∷ l ++ (15 ∷ [])) ≡ x ∷ l = front_of_lem (x ∷ l) 15 in
    let g : last_of (x ∷ l ++ (15 ∷ [])) ≡ 15 = last_of_lem (x ∷ l) 15 in
    imsi_long (packed (x ∷ l) ++ behind) (simp length-append (omega arith)) ∙ rw (t, h, f, g, e)

-- an F-TEID
tunnel_value : (interface teid addr : ℕ) (v : List ℕ) → TunnelValue interface teid addr v → tunnel_of v interface ≡ Ok (record { teid = teid; address = addr })
unfolding tunnel_good word_at octets_of number_of number_from
tunnel_value interface teid addr v r =
    let a = le-leb v4_flag r.flags r.v4 in
    let b = eq-eqb (r.flags % interfaces) interface r.its in
    let n = number_back 4 teid r.teid_fits in
    let m = number_back 4 addr r.addr_fits in
    rw r.octets
    (tunnel_good_lem (r.flags ∷ octets_of 4 teid ++ (octets_of 4 addr ++ r.behind)) interface (omega arith) (rw (a, b, n) (lt-ltb 0 teid r.live))
    ∙ rw (n, m))

-- a name of the plan
same_itself : (l : List ℕ) → same_octets l l ≡ true
unfolding same_octets
same_itself [] = refl
same_itself (x ∷ l) = rw (eq-eqb x x refl) (same_itself l)

pub named-point : (l : List AccessPoint) (i : ℕ) (x : AccessPoint) → names_differ l ≡ true → i < length l
    → named_in l (name_of (get_or l i x)) ≡ Some i
unfolding named_in goes_by same_name
named-point l i x n h =
    let d = name_of (get_or l i x) in
    let e : goes_by d (get_or l i x) ≡ true = same_itself d in
    let a = places.first-before (goes_by d) l i x h e in
    let k : places.first_of (goes_by d) l < length l = omega arith in
    let b = places.first_passes (goes_by d) l x k in
    let q = named_once l d (places.first_of (goes_by d) l) i x n k h b e in
    rw (lt-ltb (places.first_of (goes_by d) l) (length l) k, q)

pub plan_names : (plan : Plan) → accepted plan ≡ true → names_differ (used plan) ≡ true
unfolding accepted
plan_names plan e = search (and_left, and_right) depth 5

-- ---- laws: one reader
first-octet : (s : List ℕ) (a n x : ℕ) (v : List ℕ) → part s a (suc n) ≡ x ∷ v → get_or s a 0 ≡ x
first-octet s a n x v e =
    let z : a + 0 ≡ a = omega arith in
    let f : get_or (part s a (suc n)) 0 0 ≡ x = rw e in
    rw (← z) (sym (get_or-drop a s 0 0) ∙ sym (get_or-take (suc n) (drop a s) 0 0 (omega arith)) ∙ f)

octet_held : (s : List ℕ) (kind x least : ℕ) (v : List ℕ) → Holds s kind 0 (x ∷ v) → least ≤ suc (length v) → octet_in s kind least ≡ Ok x
unfolding octet_in octet_at
octet_held s kind x least v r h =
    rw (r.found, le-ltb (suc (length v)) least h, first-octet s r.start (length v) x v r.octets)

module _ (l : List Sent) (fit : every fits l ≡ true) where
  pub found : FoundAgain l
  unfolding SentIsFound
  found = sent_is_found l fit

  pub octet-sent : (kind x least : ℕ) (v w : List ℕ) → first_sent l kind 0 ≡ Some v → v ≡ x ∷ w → least ≤ suc (length w)
      → octet_in (sent_octets l) kind least ≡ Ok x
  octet-sent kind x least v w e f h = octet_held (sent_octets l) kind x least w (found.held kind 0 (x ∷ w) (rw (← f) e)) h

  pub imsi-sent : (imsi : ℕ) → Has l imsi_kind 0 (ImsiValue imsi) → imsi_in (sent_octets l) ≡ Ok imsi
  unfolding imsi_in imsi_at
  imsi-sent imsi h =
      let r = found.held imsi_kind 0 h.value h.first in
      let g = h.good in
      rw (r.found, r.octets, g.octets, ← g.number) (imsi-digits g.digits g.behind g.fifteen g.each)

  pub rat_sent : (h : Has l rat_kind 0 RatValue) → rat_in (sent_octets l) ≡ Ok h.good.rat
  unfolding rat_in
  rat_sent h =
      let k : (eqb h.good.rat 1 || eqb h.good.rat 6) ≡ true = h.good.one_or_six in
      rw (octet-sent rat_kind h.good.rat 1 h.value h.good.behind h.first h.good.octets (omega arith), k)

  pub tunnel-sent : (inst interface teid addr : ℕ) → Has l tunnel_kind inst (TunnelValue interface teid addr)
      → tunnel_in (sent_octets l) inst interface ≡ Ok (record { teid = teid; address = addr })
  unfolding tunnel_in tunnel_at
  tunnel-sent inst interface teid addr h =
      let r = found.held tunnel_kind inst h.value h.first in
      rw (r.found, r.octets) (tunnel_value interface teid addr h.value h.good)

  pub tunnel-lacks : (inst interface : ℕ) → first_sent l tunnel_kind inst ≡ None → tunnel_in (sent_octets l) inst interface ≡ Err Missing
  unfolding tunnel_in tunnel_at
  tunnel-lacks inst interface e = rw (found.missing tunnel_kind inst e)

  pub paa_sent : Has l paa_kind 0 PaaValue → paa_in (sent_octets l) ≡ Ok 1
  unfolding paa_in
  paa_sent h =
      let k = h.good.long in
      rw (octet-sent paa_kind h.good.type 5 h.value h.good.behind h.first h.good.octets (omega arith), h.good.ipv4)

  pub ebi_octet : (ebi : ℕ) (h : Has l ebi_kind 0 (EbiValue ebi)) → octet_in (sent_octets l) ebi_kind 1 ≡ Ok h.good.octet
  ebi_octet ebi h = octet-sent ebi_kind h.good.octet 1 h.value h.good.behind h.first h.good.octets (omega arith)

  pub ebi_sent : (ebi : ℕ) → 5 ≤ ebi → Has l ebi_kind 0 (EbiValue ebi) → ebi_in (sent_octets l) ≡ Ok ebi
  unfolding ebi_in
  ebi_sent ebi five h = rw (ebi_octet ebi h, h.good.low, le-ltb ebi 5 five)

  pub qos_sent : (h : Has l qos_kind 0 QosValue) → octet_in (sent_octets l) qos_kind 22 ≡ Ok h.good.first
  qos_sent h =
      let k = h.good.long in
      octet-sent qos_kind h.good.first 22 h.value h.good.behind h.first h.good.octets (omega arith)

  pub recovery_sent_lem : (m : Option (List ℕ)) → first_sent l recovery_kind 0 ≡ m → recovery_in (sent_octets l) ≡ recovery_sent m
  unfolding recovery_in recovery_of recovery_sent octet_in octet_at
  recovery_sent_lem None e = rw (found.missing recovery_kind 0 e)
  recovery_sent_lem (Some []) e = rw (found.held recovery_kind 0 [] e).found
  recovery_sent_lem (Some (x ∷ v)) e = rw (octet-sent recovery_kind x 1 (x ∷ v) v e refl (omega arith))
