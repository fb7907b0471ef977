-- What a control datagram asks for is as it was read: a Create's values are in range, no tunnel end that moves has the TEID 0, and the creating
-- number has three octets.
-- Assumes nothing.
use Rattle.std.specs.Prelude.{ℕ, ◌≤◌, true, List, [], ◌∷◌, ◌≡◌, drop, get_or, eqb, Option, Result, Ok, Err}
use Rattle.std.proofs.Math.Path.{refl}
use Rattle.std.proofs.Common.{arith, ltb-true}
use Rattle.base_octets.specs.Number.{taken, other_version}
use Rattle.base_octets.specs.Choice.{split}
use Rattle.base_octets.specs.Every.{every, every-at}
use Rattle.base_octets.specs.BigEndian.{is_octet, number_of, number_from}
use Rattle.unit_plan.specs.declared.Plan.{Plan}
use Rattle.unit_plan.specs.Limits.{parties}
use Rattle.unit_session.specs.OwnRequest.{awaits}
use Rattle.unit_session.specs.Session.{last_created}
use Rattle.unit_table.specs.declared.Node.{Node}
use Rattle.wire_fields.specs.declared.Refusal.{Refusal}
use Rattle.wire_header.specs.declared.Kind.{Kind}
use Rattle.wire_header.specs.declared.Kind.TheVariants as K
use Rattle.wire_header.specs.declared.HeaderCursor.{HeaderCursor}
use Rattle.wire_header.specs.Types.{kind_by}
use Rattle.wire_messages.specs.Types.{modify_reply_type, delete_reply_type}
use Rattle.wire_header.specs.Header.{with_teid, sequence_of, sequence_behind, sequence_bare, header_of}
use Rattle.wire_header.specs.Gate.{gate_of}
use Rattle.wire_requests.specs.Carried as carried
use Rattle.wire_requests.specs.declared.Request.{Request}
use Rattle.wire_requests.specs.declared.Request.TheVariants as Q
use Rattle.wire_requests.specs.Create.{create_of, CreateSound}
use Rattle.wire_requests.proofs.CreateLaws.{create_is}
use Rattle.wire_requests.specs.Change.{modify_of, delete_of, ModifySound, modify_is, delete_is}
use Rattle.call_asked.specs.declared.Concern.{Concern}
use Rattle.call_asked.specs.declared.Concern.TheVariants as S
use Rattle.call_asked.specs.declared.Asked.{Asked}
use Rattle.call_asked.specs.declared.Asked.TheVariants as A
use Rattle.call_asked.specs.Asked.{end_asked, session_asked, create_refused, change_refused, sound_asked, request_asked, kind_asked, asked_of}
use Rattle.wire_requests.specs.declared.Unreadable.{Unreadable}
use Rattle.wire_requests.specs.Chain.{Decoded}

unfoldable pub ConcernSound : Concern → Type 0
ConcernSound (S.Modify m) = ModifySound m
ConcernSound (S.Delete d) = Unit {0}
ConcernSound (S.Refused type w) = Unit {0}
ConcernSound (S.Bearer b) = Unit {0}

unfoldable pub AskedSound : Plan → Asked → Type 0
AskedSound p (A.Silent number) = Unit {0}
AskedSound p A.Version = Unit {0}
AskedSound p (A.Echo recovery seq) = Unit {0}
AskedSound p (A.EchoReply recovery) = Unit {0}
AskedSound p (A.Create c seq) = CreateSound (parties p) c
AskedSound p (A.Refused w to seq) = Unit {0}
AskedSound p (A.Session teid seq x) = ConcernSound x

module _ (node : Node) where
  end_sound : (a : Result (Option ℕ) Unreadable) (seq : ℕ) → AskedSound node.plan (end_asked a seq node)
  unfolding AskedSound end_asked
  end_sound (Err u) seq = tt
  end_sound (Ok recovery) seq = split (awaits seq node.echo) (λ e. rw e tt) (λ e. rw e tt)

  -- by what was decoded
  decoded_sound : (h : HeaderCursor) (d : Decoded) (refused : Refusal → Asked)
      → ((w : Refusal) → AskedSound node.plan (refused w)) → ((q : Request) → d ≡ Ok q → AskedSound node.plan (sound_asked h q))
      → AskedSound node.plan (request_asked h d refused)
  unfolding request_asked
  decoded_sound h (Err w) refused r k = r w
  decoded_sound h (Ok q) refused r k = k q refl

  kind_sound : (k : Kind) (h : HeaderCursor) (rest : List ℕ) → AskedSound node.plan (kind_asked k h rest node)
  unfolding AskedSound ConcernSound kind_asked create_refused change_refused sound_asked session_asked
  kind_sound K.Echo h rest = tt
  kind_sound K.EchoReply h rest = end_sound (carried.echo_reply_read rest) h.sequence
  kind_sound K.Create h rest =
      decoded_sound h (create_of node.plan rest) (create_refused h rest) (λ w. tt)
      (λ q e. create_is node.plan rest q (λ x. AskedSound node.plan (sound_asked h x)) e (λ c s. s))
  kind_sound K.Modify h rest =
      decoded_sound h (modify_of rest) (change_refused h modify_reply_type) (λ w. tt) (λ q e. modify_is rest q (λ x. AskedSound node.plan (sound_asked h x)) e (λ m s. s))
  kind_sound K.Delete h rest =
      decoded_sound h (delete_of rest) (change_refused h delete_reply_type) (λ w. tt) (λ q e. delete_is rest q (λ x. AskedSound node.plan (sound_asked h x)) e (λ d. tt))
  kind_sound K.BearerReply h rest = tt
  kind_sound K.Other h rest = tt

  pub asked_sound : (d : List ℕ) → AskedSound node.plan (asked_of node d)
  unfolding AskedSound asked_of
  asked_sound d =
      split (eqb (gate_of d) taken) (λ e. rw e (kind_sound (kind_by (header_of d).kind) (header_of d) (drop (header_of d).fields d)))
      (λ e. split (eqb (gate_of d) other_version) (λ f. rw (e, f) tt) (λ f. rw (e, f) tt))

-- ---- the number that makes a session has three octets
three : (a b c : ℕ) → is_octet a ≡ true → is_octet b ≡ true → is_octet c ≡ true → number_of (a ∷ b ∷ c ∷ []) ≤ last_created
unfolding number_of number_from is_octet last_created
three a b c p q r =
    let x = ltb-true a 256 p in
    let y = ltb-true b 256 q in
    let z = ltb-true c 256 r in
    omega arith

sequence_small : (d : List ℕ) → every is_octet d ≡ true → (header_of d).sequence ≤ last_created
unfolding header_of sequence_of sequence_behind sequence_bare last_created is_octet
sequence_small d o =
    split (with_teid d)
    (λ t. rw t (three (get_or d 8 0) (get_or d 9 0) (get_or d 10 0) (every-at is_octet d 8 0 o refl) (every-at is_octet d 9 0 o refl) (every-at is_octet d 10 0 o refl)))
    (λ t. rw t (three (get_or d 4 0) (get_or d 5 0) (get_or d 6 0) (every-at is_octet d 4 0 o refl) (every-at is_octet d 5 0 o refl) (every-at is_octet d 6 0 o refl)))

unfoldable pub AskedSmall : Asked → Type 0
AskedSmall (A.Silent number) = Unit {0}
AskedSmall A.Version = Unit {0}
AskedSmall (A.Echo recovery seq) = Unit {0}
AskedSmall (A.EchoReply recovery) = Unit {0}
AskedSmall (A.Create c seq) = seq ≤ last_created
AskedSmall (A.Refused w to seq) = Unit {0}
AskedSmall (A.Session teid seq x) = Unit {0}

module _ (node : Node) (h : HeaderCursor) (small : h.sequence ≤ last_created) (rest : List ℕ) where
  request_small : (d : Decoded) (refused : Refusal → Asked) → ((w : Refusal) → AskedSmall (refused w)) → AskedSmall (request_asked h d refused)
  unfolding AskedSmall request_asked sound_asked session_asked
  request_small (Err w) refused r = r w
  request_small (Ok (Q.Create c)) refused r = small
  request_small (Ok (Q.Modify m)) refused r = tt
  request_small (Ok (Q.Delete x)) refused r = tt

  end_small : (a : Result (Option ℕ) Unreadable) → AskedSmall (end_asked a h.sequence node)
  unfolding AskedSmall end_asked
  end_small (Err u) = tt
  end_small (Ok recovery) = split (awaits h.sequence node.echo) (λ e. rw e tt) (λ e. rw e tt)

  kind_small : (k : Kind) → AskedSmall (kind_asked k h rest node)
  unfolding AskedSmall kind_asked create_refused change_refused session_asked
  kind_small K.Echo = tt
  kind_small K.EchoReply = end_small (carried.echo_reply_read rest)
  kind_small K.Create = request_small (create_of node.plan rest) (create_refused h rest) (λ w. tt)
  kind_small K.Modify = request_small (modify_of rest) (change_refused h modify_reply_type) (λ w. tt)
  kind_small K.Delete = request_small (delete_of rest) (change_refused h delete_reply_type) (λ w. tt)
  kind_small K.BearerReply = tt
  kind_small K.Other = tt

pub asked_small : (node : Node) (d : List ℕ) → every is_octet d ≡ true → AskedSmall (asked_of node d)
unfolding AskedSmall asked_of
asked_small node d o =
    split (eqb (gate_of d) taken) (λ e. rw e (kind_small node (header_of d) (sequence_small d o) (drop (header_of d).fields d) (kind_by (header_of d).kind)))
    (λ e. split (eqb (gate_of d) other_version) (λ f. rw (e, f) tt) (λ f. rw (e, f) tt))
