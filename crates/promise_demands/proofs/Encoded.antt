-- That what specs/Encoded.antt says holds, and what that rests on.
-- Assumes nothing.
use Rattle.std.specs.Prelude.{ℕ, ◌%◌, ◌<◌, ◌≤◌, Bool, true, false, ◌&&◌, ◌||◌, List, [], ◌∷◌, ◌++◌, ◌≡◌, length, eqb, Option, Some, None, Result, Ok, Err}
use Rattle.std.proofs.Math.Path.{refl}
use Rattle.std.proofs.Common.{sym, ◌∙◌, arith, length-append, eqb-true}
use Rattle.base_octets.specs.Choice.{split, and_left, and_right, or_true}
use Rattle.base_octets.specs.Every.{every}
use Rattle.base_octets.specs.BigEndian.{octets_of, length_octets}
use Rattle.wire_fields.specs.Kinds.{imsi_kind, rat_kind, tunnel_kind, apn_kind, paa_kind, bearer_kind, ebi_kind, qos_kind, recovery_kind}
use Rattle.unit_plan.specs.declared.Plan.{Plan}
use Rattle.unit_plan.specs.Plan.{accepted}
use Rattle.wire_requests.specs.declared.Create as C
use Rattle.wire_requests.specs.declared.Modify as M
use Rattle.wire_requests.specs.declared.Delete as D
use Rattle.wire_requests.specs.declared.Request.TheVariants.{Create, Modify, Delete}
use Rattle.wire_requests.specs.Create.{create_of}
use Rattle.wire_requests.specs.Change.{modify_of, delete_of}
use Rattle.promise_demands.specs.Sent.{Sent, fits, sent_octets, first_sent}
use Rattle.promise_demands.specs.Values.{packed, ImsiValue, RatValue, TunnelValue, ApnValue, PaaValue, EbiValue, QosValue, recovery_sent, Has}
use Rattle.promise_demands.specs.Wellformed.{CreateBearer, GoodCreate, ControlSent, UserSent, ModifyBearer}
use Rattle.promise_demands.specs.Wellformed.{ContextSent, GoodModify, EbiSent, WholeBearer, GoodDelete}
use Rattle.promise_demands.proofs.Wellformed.{good_is_read}
use Rattle.promise_demands.specs.Encoder.{Besides, Short, CreateInRange, PeerInRange, UserInRange, ContextInRange, EbiInRange, ModifyInRange}
use Rattle.promise_demands.specs.Encoder.{field, create_bearer, create_fields, context_bearer, modify_fields}
use Rattle.promise_demands.specs.Encoder.{delete_fields, encoded_create, encoded_modify, encoded_delete}
use Rattle.promise_demands.specs.Encoder.{control_flags, user_flags, digits_of, tunnel_octets, recovery_field, control_field, user_field, context_field}
use Rattle.promise_demands.proofs.Encoder.{digits_each, digits-length, digits-back, create_bearer_fits}
use Rattle.promise_demands.proofs.Encoder.{create-fits, context-fits, modify_fits, delete_fits}
use Rattle.promise_demands.specs.Written.{Word}
use Rattle.wire_fields.specs.Tunnel.{v4_flag, interfaces}
use Rattle.promise_demands.specs.Encoded.{Name, create_names, create_within, modify_names, modify_within, delete_names, known, known_of, Mixed, EncodedIsRead}
use Rattle.wire_fields.specs.declared.Flaw.{Flaw}
use Rattle.wire_fields.specs.declared.Tunnel.{Tunnel}
use Rattle.wire_requests.specs.declared.Context.{Context}
use Rattle.wire_fields.specs.declared.Flaw.TheVariants as Flaw

-- ---- laws: unknown fields are passed over
unfoldable listed : ℕ → ℕ → List Name → Bool
listed kind inst [] = false
listed kind inst (q ∷ n) = (eqb q.kind kind && eqb q.inst inst) || listed kind inst n

known_hit : (n : List Name) (f : Sent) (kind inst : ℕ) → listed kind inst n ≡ true
    → (eqb f.kind kind && eqb (f.fourth % 16) inst) ≡ true → known n f ≡ true
unfolding listed known
known_hit [] f kind inst e h = e
known_hit (q ∷ n) f kind inst e h =
    split (eqb q.kind kind && eqb q.inst inst)
    (λ t.
    let a = eqb-true q.kind kind (and_left (eqb q.kind kind) (eqb q.inst inst) t) in
    let b = eqb-true q.inst inst (and_right (eqb q.kind kind) (eqb q.inst inst) t) in
    rw (a, b, h))
    (λ t. rw (known_hit n f kind inst (rw t at e) h) (or_true (eqb f.kind q.kind && eqb (f.fourth % 16) q.inst)))

first-known : (n : List Name) (l : List Sent) (kind inst : ℕ) → listed kind inst n ≡ true → first_sent (known_of n l) kind inst ≡ first_sent l kind inst
unfolding known_of first_sent
first-known n [] kind inst e = refl
first-known n (f ∷ l) kind inst e =
    split (eqb f.kind kind && eqb (f.fourth % 16) inst)
    (λ t. rw (known_hit n f kind inst e t, t))
    (λ t. split (known n f) (λ k. rw (k, t) (first-known n l kind inst e)) (λ k. rw (k, t) (first-known n l kind inst e)))

-- the first of a name in a list is the first of it among the known ones
has_known : (n : List Name) (l k : List Sent) (kind inst : ℕ) (v : List ℕ) (Good : List ℕ → Type 0) → listed kind inst n ≡ true → known_of n l ≡ k
    → first_sent k kind inst ≡ Some v → Good v → Has l kind inst Good
has_known n l k kind inst v Good e q f g = record { value = v; first = sym (first-known n l kind inst e) ∙ rw q f; good = g }

none_known : (n : List Name) (l k : List Sent) (kind inst : ℕ) → listed kind inst n ≡ true → known_of n l ≡ k
    → first_sent k kind inst ≡ None → first_sent l kind inst ≡ None
none_known n l k kind inst e q f = sym (first-known n l kind inst e) ∙ rw q f

tunnel_good_lem : (flags interface teid addr : ℕ) (behind : List ℕ) → v4_flag ≤ flags → flags % interfaces ≡ interface → 0 < teid → Word teid → Word addr
    → TunnelValue interface teid addr (tunnel_octets flags teid addr behind)
unfolding tunnel_octets
tunnel_good_lem flags interface teid addr behind a b h t u =
    record { flags = flags; behind = behind; v4 = a; its = b; live = h; teid_fits = t; addr_fits = u; octets = refl }

-- ---- a Create
qos_good : (v : List ℕ) → 22 ≤ length v → QosValue v
qos_good [] h = absurd (omega arith)
qos_good (y ∷ v) h = record { first = y; behind = v; long = omega arith; octets = refl }

module _ (plan : Plan) (c : C.Create) (x : Besides) (l b : List Sent) (r : CreateInRange plan c x)
    (q : Mixed create_names create_within (create_fields plan c x b) (create_bearer c x) l b) where
  bearer_good : CreateBearer c (sent_octets b)
  unfolding create_within create_bearer listed first_sent
  bearer_good =
      let lo = r.sound.low in
      let hi = r.sound.high in
      record {
        fields = b;
        fit = q.fit_within;
        ebi = has_known create_within b (create_bearer c x) ebi_kind 0 (c.ebi ∷ x.within ebi_kind) (EbiValue c.ebi) refl q.known_within refl
            (record { octet = c.ebi; behind = x.within ebi_kind; low = omega arith; octets = refl });
        five = lo;
        user = has_known create_within b (create_bearer c x) tunnel_kind 2 (tunnel_octets user_flags c.user c.useraddr (x.within tunnel_kind))
            (TunnelValue 4 c.user c.useraddr) refl q.known_within refl
            (tunnel_good_lem user_flags 4 c.user c.useraddr (x.within tunnel_kind) (omega arith) refl r.sound.user r.user r.useraddr);
        qos = has_known create_within b (create_bearer c x) qos_kind 0 x.qos QosValue refl q.known_within refl (qos_good x.qos r.qos);
        octets = refl;
      }

  recovery_good : (m : Option ℕ) → recovery_sent (first_sent (recovery_field m x) recovery_kind 0) ≡ m
  unfolding recovery_sent recovery_field first_sent
  recovery_good None = refl
  recovery_good (Some y) = refl

  imsi_good : ImsiValue c.imsi (packed (digits_of 15 c.imsi) ++ x.behind imsi_kind)
  imsi_good =
      record {
        digits = digits_of 15 c.imsi;
        behind = x.behind imsi_kind;
        fifteen = digits-length 15 c.imsi;
        each = digits_each 15 c.imsi;
        number = digits-back 15 c.imsi r.sound.imsi;
        octets = refl;
      }

  control_value : TunnelValue 6 c.control c.controladdr (tunnel_octets control_flags c.control c.controladdr (x.behind tunnel_kind))
  control_value =
      tunnel_good_lem control_flags 6 c.control c.controladdr (x.behind tunnel_kind) (omega arith) refl
      r.sound.control r.control r.controladdr

  paa_value : PaaValue (1 ∷ octets_of 4 x.address ++ x.behind paa_kind)
  paa_value =
      let n = length_octets 4 x.address in
      record { type = 1; behind = octets_of 4 x.address ++ x.behind paa_kind; ipv4 = refl; long = simp length-append (omega arith); octets = refl }

  create_has : (kind : ℕ) (v : List ℕ) (Good : List ℕ → Type 0) → listed kind 0 create_names ≡ true
      → first_sent (create_fields plan c x b) kind 0 ≡ Some v → Good v → Has l kind 0 Good
  create_has kind v Good e f g = has_known create_names l (create_fields plan c x b) kind 0 v Good e q.known f g

  create_good : GoodCreate plan l c
  unfolding create_names create_fields listed first_sent
  create_good =
      record {
        fit = q.fit;
        imsi = create_has imsi_kind (packed (digits_of 15 c.imsi) ++ x.behind imsi_kind) (ImsiValue c.imsi) refl refl imsi_good;
        rat = create_has rat_kind (x.rat ∷ x.behind rat_kind) RatValue refl refl
            (record { rat = x.rat; behind = x.behind rat_kind; one_or_six = r.rat; octets = refl });
        control = create_has tunnel_kind _ (TunnelValue 6 c.control c.controladdr) refl refl control_value;
        apn = create_has apn_kind _ (ApnValue plan c.point) refl refl (record { known = r.sound.point; octets = refl });
        paa = create_has paa_kind _ PaaValue refl refl paa_value;
        bearer = create_has bearer_kind (sent_octets b) (CreateBearer c) refl refl bearer_good;
        recovery = rw (← first-known create_names l recovery_kind 0 refl, q.known) (recovery_good c.recovery);
      }

-- ---- a Modify and a Delete
ebi_good : (ebi : ℕ) (behind : List ℕ) → ebi ≤ 15 → EbiValue ebi (ebi ∷ behind)
ebi_good ebi behind h = record { octet = ebi; behind = behind; low = omega arith; octets = refl }

module _ (m : M.Modify) (x : Besides) (l b : List Sent) (range : ModifyInRange m)
    (q : Mixed modify_names modify_within (modify_fields m x b) (context_bearer m.context x) l b) where
  user_good : (ebi : ℕ) (t : Result Tunnel Flaw) → UserInRange t → known_of modify_within b ≡ context_bearer (Some (record { ebi = ebi; user = t })) x → UserSent b t
  unfolding UserInRange UserSent user_field context_bearer modify_within listed first_sent
  user_good ebi (Ok end) r e =
      has_known modify_within b _ tunnel_kind 1 _ (TunnelValue 4 end.teid end.address) refl e refl
      (tunnel_good_lem user_flags 4 end.teid end.address (x.within tunnel_kind) (omega arith) refl r.live r.teid_fits r.addr_fits)
  user_good ebi (Err Flaw.Missing) r e = none_known modify_within b _ tunnel_kind 1 refl e refl
  user_good ebi (Err Flaw.Short) r e = absurd r
  user_good ebi (Err Flaw.Wrong) r e = absurd r

  within_good : (ebi : ℕ) (t : Result Tunnel Flaw) → ContextInRange (Some (record { ebi = ebi; user = t })) → known_of modify_within b ≡ context_bearer (Some (record { ebi = ebi; user = t })) x
      → ModifyBearer ebi t (sent_octets b)
  unfolding ContextInRange context_bearer modify_within listed first_sent
  within_good ebi t r e =
      record {
        fields = b;
        fit = q.fit_within;
        its = has_known modify_within b _ ebi_kind 0 (ebi ∷ x.within ebi_kind) (EbiValue ebi) refl e refl (ebi_good ebi (x.within ebi_kind) r.1);
        five = r.0;
        tunnel = user_good ebi t r.2 e;
        octets = refl;
      }

  control_good : (p : Option Tunnel) (k : Option Context) → PeerInRange p → known_of modify_names l ≡ control_field p x ++ context_field k b → ControlSent l p
  unfolding PeerInRange ControlSent control_field context_field modify_names listed first_sent
  control_good None None r e = none_known modify_names l _ tunnel_kind 0 refl e refl
  control_good None (Some context) r e = none_known modify_names l _ tunnel_kind 0 refl e refl
  control_good (Some end) k r e =
      has_known modify_names l _ tunnel_kind 0 _ (TunnelValue 6 end.teid end.address) refl e refl
      (tunnel_good_lem control_flags 6 end.teid end.address (x.behind tunnel_kind) (omega arith) refl r.live r.teid_fits r.addr_fits)

  context_good : (p : Option Tunnel) (k : Option Context) → ContextInRange k → known_of modify_names l ≡ control_field p x ++ context_field k b
      → known_of modify_within b ≡ context_bearer k x → ContextSent l k
  unfolding ContextSent control_field context_field modify_names listed first_sent
  context_good None None r e h = none_known modify_names l _ bearer_kind 0 refl e refl
  context_good (Some end) None r e h = none_known modify_names l _ bearer_kind 0 refl e refl
  context_good None (Some context) r e h =
      has_known modify_names l _ bearer_kind 0 (sent_octets b) (ModifyBearer context.ebi context.user) refl e refl (within_good context.ebi context.user r h)
  context_good (Some end) (Some context) r e h =
      has_known modify_names l _ bearer_kind 0 (sent_octets b) (ModifyBearer context.ebi context.user) refl e refl (within_good context.ebi context.user r h)

  modify_good : GoodModify l m
  unfolding modify_fields
  modify_good =
      record {
        fit = q.fit;
        control = control_good m.control m.context range.control q.known;
        context = context_good m.control m.context range.context q.known q.known_within;
      }

delete_good : (d : D.Delete) (x : Besides) (l : List Sent) → EbiInRange d.ebi → every fits l ≡ true
    → known_of delete_names l ≡ delete_fields d.ebi x → GoodDelete l d
unfolding EbiInRange EbiSent WholeBearer delete_fields delete_names listed first_sent
delete_good d x l r fl el = record { fit = fl; ebi = by d.ebi r el; bearer = rw (none d.ebi el) tt }
  where
    by : (k : Option ℕ) → EbiInRange k → known_of delete_names l ≡ delete_fields k x → EbiSent l k
    by None h e = none_known delete_names l _ ebi_kind 0 refl e refl
    by (Some ebi) h e =
        has_known delete_names l _ ebi_kind 0 (ebi ∷ x.behind ebi_kind) (EbiValue ebi) refl e refl (ebi_good ebi (x.behind ebi_kind) h)

    none : (k : Option ℕ) → known_of delete_names l ≡ delete_fields k x → first_sent l bearer_kind 0 ≡ None
    none None e = none_known delete_names l _ bearer_kind 0 refl e refl
    none (Some ebi) e = none_known delete_names l _ bearer_kind 0 refl e refl

-- ---- what the encoder writes has no unknown field
recovery_known : (r : Option ℕ) (x : Besides) → known_of create_names (recovery_field r x) ≡ recovery_field r x
unfolding create_names recovery_field known known_of
recovery_known None x = refl
recovery_known (Some r) x = refl

create-known : (plan : Plan) (c : C.Create) (x : Besides) (b : List Sent) → known_of create_names (create_fields plan c x b) ≡ create_fields plan c x b
unfolding create_names create_fields known known_of
create-known plan c x b = rw (recovery_known c.recovery x)

within_known : (c : C.Create) (x : Besides) → known_of create_within (create_bearer c x) ≡ create_bearer c x
unfolding create_within create_bearer known known_of
within_known c x = refl

modify_known : (p : Option Tunnel) (k : Option Context) (x : Besides) (b : List Sent)
    → known_of modify_names (control_field p x ++ context_field k b) ≡ control_field p x ++ context_field k b
unfolding modify_names control_field context_field known known_of
modify_known None None x b = refl
modify_known None (Some context) x b = refl
modify_known (Some end) None x b = refl
modify_known (Some end) (Some context) x b = refl

context-known : (k : Option Context) (x : Besides) → known_of modify_within (context_bearer k x) ≡ context_bearer k x
unfolding modify_within context_bearer user_field known known_of
context-known None x = refl
context-known (Some context) x = by context.user
  where
    by : (t : Result Tunnel Flaw) → known_of modify_within (field ebi_kind 0 (context.ebi ∷ x.within ebi_kind) ∷ user_field t x) ≡ field ebi_kind 0 (context.ebi ∷ x.within ebi_kind) ∷ user_field t x
    by (Ok end) = refl
    by (Err Flaw.Missing) = refl
    by (Err Flaw.Short) = refl
    by (Err Flaw.Wrong) = refl

delete_known : (k : Option ℕ) (x : Besides) → known_of delete_names (delete_fields k x) ≡ delete_fields k x
unfolding delete_names delete_fields known known_of
delete_known None x = refl
delete_known (Some ebi) x = refl

-- ---- that it holds
create-mixed : (plan : Plan) (c : C.Create) (x : Besides) (l b : List Sent) → accepted plan ≡ true → CreateInRange plan c x
    → Mixed create_names create_within (create_fields plan c x b) (create_bearer c x) l b → create_of plan (sent_octets l) ≡ Ok (Create c)
create-mixed plan c x l b p r q = good_is_read.create plan l c p (create_good plan c x l b r q)

modify_mixed_lem : (m : M.Modify) (x : Besides) (l b : List Sent) → ModifyInRange m
    → Mixed modify_names modify_within (modify_fields m x b) (context_bearer m.context x) l b → modify_of (sent_octets l) ≡ Ok (Modify m)
modify_mixed_lem m x l b r q = good_is_read.modify l m (modify_good m x l b r q)

delete_mixed_lem : (d : D.Delete) (x : Besides) (l : List Sent) → EbiInRange d.ebi → every fits l ≡ true
    → known_of delete_names l ≡ delete_fields d.ebi x → delete_of (sent_octets l) ≡ Ok (Delete d)
delete_mixed_lem d x l r fl el = good_is_read.delete l d (delete_good d x l r fl el)

module _ (x : Besides) (s : Short x) where
  create_plain : (plan : Plan) (c : C.Create) → accepted plan ≡ true → CreateInRange plan c x
      → create_of plan (encoded_create plan c x) ≡ Ok (Create c)
  unfolding encoded_create
  create_plain plan c p r =
      let b = create_bearer c x in
      create-mixed plan c x (create_fields plan c x b) b p r (record {
        fit = create-fits x s plan c p r.sound.point;
        fit_within = create_bearer_fits x s c;
        known = create-known plan c x b;
        known_within = within_known c x;
      })

  modify_plain : (m : M.Modify) → ModifyInRange m → modify_of (encoded_modify m x) ≡ Ok (Modify m)
  unfolding encoded_modify modify_fields
  modify_plain m r =
      let b = context_bearer m.context x in
      modify_mixed_lem m x (modify_fields m x b) b r (record {
        fit = modify_fits x s m;
        fit_within = context-fits x s m.context;
        known = modify_known m.control m.context x b;
        known_within = context-known m.context x;
      })

  delete_plain : (d : D.Delete) → EbiInRange d.ebi → delete_of (encoded_delete d x) ≡ Ok (Delete d)
  unfolding encoded_delete
  delete_plain d r = delete_mixed_lem d x (delete_fields d.ebi x) r (delete_fits x s d.ebi) (delete_known d.ebi x)

pub encoded_is_read : EncodedIsRead
encoded_is_read = record {
  create = λ plan c x p r s. create_plain x s plan c p r;
  modify = λ m x r s. modify_plain x s m r;
  delete = λ d x r s. delete_plain x s d r;
  create_mixed = create-mixed;
  modify_mixed = modify_mixed_lem;
  delete_mixed = delete_mixed_lem;
}
