-- What each of the unit's calls comes to in a run, and what is printed for it: for a user datagram and a packet down a payload is a third field, and
-- so is the peer's address; after T and X all due follow, each a line of D and the datagram.
-- Assumes nothing.
use Prim.Native.Nat.{ℕ, zero, suc, ◌+◌, ◌<◌, ◌-◌}
use Rattle.std.specs.Prelude.{Bool, ◌&&◌, ◌≡◌, Option, Some, None, refl, take, drop, replicate, eqb}
use Rattle.std.proofs.Math.Bool.{true, false}
use mathlib.Core.List.{List, []}
use Rattle.std.proofs.Math.Path.{sym, ap}
use Rattle.std.proofs.Common.{◌∙◌, Bor}
use native.Mathlib.Omega.{arith}
use Rattle.base_octets.specs.Choice.{pick}
use Rattle.base_octets.specs.BigEndian.{octets_of}
use Rattle.wire_user.specs.Header.{fixed_size}
use Rattle.unit_session.specs.declared.Session.{Session}
use Rattle.call_own.specs.declared.Answer.{Answer}
use Rattle.call_own.specs.Outcome.{Outcome, Back, back, least_reply}
use Rattle.call_user.specs.User.{Took}
use Rattle.call_user.specs.declared.Handed.{Handed}
use Rattle.call_user.specs.Parcel.{Parcel, parcel, parcel_of}
use Rattle.call_down.specs.Down.{Output}
use Rattle.call_store.specs.Stored.{stored, close_stored, send_stored, user_stored, down_stored, tick_stored, control_stored}
use Rattle.bench_text.specs.Lines.{datagram_most}
use Rattle.bench_text.specs.Prints.{answer_text, packet_text, due_text}
use Rattle.bench_unit.specs.declared.Bench.{Bench}
use Rattle.bench_unit.specs.State.{Shown, shown, Ran, ran, beside, lent_reply, with_made, kept_in, printed, answered_shown, unit_shown}
use Rattle.unit_tunnel.specs.Numbering.{places}

-- ---- all that is due
unfoldable pub send_try : Bench → List Session → List (List ℕ) → Outcome
send_try b t w = send_stored b.node t w lent_reply

unfoldable pub has_due : Bench → List Session → List (List ℕ) → Bool
has_due b t w = eqb (send_try b t w).answer.number 0

unfoldable pub sent_shown : Back → Bench → List ℕ → Shown
sent_shown x b out =
    pick (eqb x.answer.number 0)
    (printed (due_text (take x.answer.size x.reply)) (λ made. kept_in x.answer.node made b) b.made out)
    (shown b out)

-- one is tried: the records as the call leaves them
unfoldable pub one_sent : Bench → List Session → List (List ℕ) → List ℕ → Ran
one_sent b t w out = beside (send_try b t w).table w (sent_shown (back (send_try b t w).answer (send_try b t w).reply) b out)

unfoldable pub sent_times : ℕ → Ran → Ran
sent_times zero x = x
sent_times (suc k) x =
    pick (has_due x.bench x.table x.store) (sent_times k (one_sent x.bench x.table x.store x.out))
    (one_sent x.bench x.table x.store x.out)

-- the echo and the places are the most
unfoldable pub all_sent : Bench → List Session → List (List ℕ) → List ℕ → Ran
all_sent b t w out = sent_times (places + 1) (ran b t w out)

unfoldable pub then_sent : Ran → Ran
then_sent x = all_sent x.bench x.table x.store x.out

-- behind what a call without a reply answered
unfoldable pub answer_sent : Answer → Bench → List Session → List (List ℕ) → List ℕ → Ran
answer_sent a b t w out = then_sent (beside t w (answered_shown (back a []) b out))

-- ---- a control datagram, the clock, a close order
unfoldable pub control_run : List ℕ → Bench → List Session → List (List ℕ) → List ℕ → Ran
control_run d b t w out = unit_shown (control_stored b.node t w d lent_reply) b out

unfoldable pub tick_run : Bench → List Session → List (List ℕ) → List ℕ → Ran
tick_run b t w out = then_sent (unit_shown (tick_stored b.node t w) b out)

unfoldable pub close_run : ℕ → Bench → List Session → List (List ℕ) → List ℕ → Ran
close_run place b t w out = then_sent (unit_shown (stored (close_stored b.node t w place) w) b out)

-- ---- number and reply, and a third field where there is one
unfoldable pub third_text : ℕ → List ℕ → Option (Bor (List ℕ)) → List ℕ
third_text number reply (Some x) = packet_text number reply x.now
third_text number reply None = answer_text number reply

unfoldable pub third_shown : ℕ → List ℕ → Option (Bor (List ℕ)) → Bench → List ℕ → Shown
third_shown number reply third b out = printed (third_text number reply third) (λ made. with_made made b) b.made out

-- ---- a user datagram: only a packet that is handed up has a third field
unfoldable pub user_text : ℕ → ℕ → List ℕ → List ℕ → List ℕ
user_text number size reply payload =
    pick (eqb number 0 && eqb size 0) (packet_text number (take size reply) payload) (answer_text number (take size reply))

unfoldable pub user_shown : Took → List ℕ → Bench → List ℕ → Shown
user_shown x d b out = printed (user_text x.number x.size x.reply (drop x.start d)) (λ made. with_made made b) b.made out

unfoldable pub user_run : List ℕ → Bench → List Session → List (List ℕ) → List ℕ → Ran
user_run d b t w out = beside t w (user_shown (user_stored b.node t w d lent_reply) d b out)

-- ---- a packet down: only one that is written has a third field, the peer's user address
unfoldable pub down_text : ℕ → ℕ → List ℕ → ℕ → List ℕ
down_text number size buffer peer =
    pick (eqb number 0) (packet_text number (take size buffer) (octets_of 4 peer)) (answer_text number (take size buffer))

unfoldable pub down_shown : Output → Bench → List ℕ → Shown
down_shown x b out =
    printed (down_text x.written.number x.written.size x.buffer x.written.peer) (λ made. with_made made b) b.made out

-- what the call gets as its output buffer: it holds the longest packet as a G-PDU
unfoldable pub gpdu_most : ℕ
gpdu_most = datagram_most + fixed_size

unfoldable pub lent_output : List ℕ
lent_output = replicate gpdu_most 0

unfoldable pub down_run : List ℕ → Bench → List Session → List (List ℕ) → List ℕ → Ran
down_run packet b t w out = beside t w (down_shown (down_stored b.node t w packet lent_output) b out)

-- ---- a user datagram by what the call answers in numbers
parcel_text : Parcel → List ℕ → List ℕ
parcel_text x d = user_text x.handed.number x.handed.size x.reply (drop x.handed.start d)

parcel_is : (n : ℕ) (x : Took) (d : List ℕ) → parcel_text (parcel_of n x) d ≡ user_text x.number x.size x.reply (drop x.start d)
unfolding parcel_text parcel_of
parcel_is n x d = refl

pub handed_run : (x : Handed) (n : ℕ) (reply d : List ℕ) (b : Bench) (t : List Session) (w : List (List ℕ)) (out : List ℕ)
    → parcel x reply ≡ parcel_of n (user_stored b.node t w d (replicate least_reply 0))
    → beside t w (printed (user_text x.number x.size reply (drop x.start d)) (λ made. with_made made b) b.made out) ≡ user_run d b t w out
unfolding user_run user_shown lent_reply parcel_text
handed_run x n reply d b t w out e =
    let p = ap (λ (z : Parcel). parcel_text z d) e ∙ parcel_is n _ d in
    ap (λ (text : List ℕ). beside t w (printed text (λ made. with_made made b) b.made out)) p

-- ---- laws of the sending loop, after i tries
pub sent_none : (b : Bench) (t : List Session) (w : List (List ℕ)) (out : List ℕ) → all_sent b t w out ≡ sent_times (places + 1 - 0) (ran b t w out)
unfolding all_sent places
sent_none b t w out = refl

module _ (x y z : Ran) (i : ℕ) (v : Bool) (h : i < places + 1) (e : x ≡ sent_times (places + 1 - i) y)
    (f : v ≡ has_due y.bench y.table y.store) (g : z ≡ one_sent y.bench y.table y.store y.out) where
  pub sent_stop : v ≡ false → z ≡ x
  unfolding sent_times
  sent_stop u =
      let k : places + 1 - i ≡ suc (places + 1 - (i + 1)) = omega arith in
      let q : has_due y.bench y.table y.store ≡ false = rw f at u in
      g ∙ sym (e ∙ rw (k, q))

  pub sent_on : v ≡ true → x ≡ sent_times (places + 1 - (i + 1)) z
  unfolding sent_times
  sent_on u =
      let k : places + 1 - i ≡ suc (places + 1 - (i + 1)) = omega arith in
      let q : has_due y.bench y.table y.store ≡ true = rw f at u in
      e ∙ rw (k, q, g)

pub sent_end : (x y : Ran) (i : ℕ) → x ≡ sent_times (places + 1 - i) y → i ≡ places + 1 → y ≡ x
unfolding sent_times places
sent_end x y i e f = sym (e ∙ rw f)
