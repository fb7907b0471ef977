-- What concerns one session comes to the same on the one record that the number names as on the whole table.
-- Assumes nothing.
use Rattle.std.specs.Prelude.{ℕ, ◌≤◌, true, List, ◌≡◌, length, get_or, set}
use Rattle.std.proofs.Math.Path.{refl}
use Rattle.std.proofs.Common.{arith}
use Rattle.std.proofs.Math.ListN.{get_or-eq_default}
use Rattle.std.proofs.lemmas.List.{set-get_or}
use Rattle.std.proofs.Math.Seq.{set_out}
use Rattle.base_octets.specs.Choice.{split}
use Rattle.unit_tunnel.specs.Numbering.{places}
use Rattle.unit_session.specs.declared.Session.{Session}
use Rattle.unit_table.specs.declared.Node.{Node}
use Rattle.unit_table.specs.Change.{nobody, changed_at}
use Rattle.unit_table.specs.Find.{place_found, control_place, has_control, owner_control, control_taken_lem}
use Rattle.unit_session.specs.Session.{is_free, blank_at}
use Rattle.call_asked.specs.declared.Concern.{Concern}
use Rattle.call_asked.specs.declared.Concern.TheVariants as S
use Rattle.call_own.specs.declared.Span.{Span}
use Rattle.call_own.specs.Outcome.{Outcome, outcome, session_place, bare_on, on_session, on_owner}
use Rattle.call_control.specs.Amends.{cause_on, none_on, session_on}
use Rattle.step_session.specs.Amended.{AmendedWith, amended, done_with, of_number}
use Rattle.step_control.specs.Step.{named_places}

-- the answer with the node as it was, and with the record put back in its place
unfoldable pub placed_one : Span → Node → ℕ → List Session → AmendedWith → Outcome
placed_one span node i l q =
    outcome (record { number = q.answer.number; size = q.answer.size; node = node; span = span }) (set l i q.answer.session) q.reply

-- where there is no session, the record says nothing
module _ (seq : ℕ) (s t : Session) where
  none_number : (x : Concern) → (none_on x seq s).number ≡ (none_on x seq t).number
  unfolding none_on cause_on bare_on
  none_number (S.Modify m) = refl
  none_number (S.Delete d) = refl
  none_number (S.Refused type w) = refl
  none_number (S.Bearer b) = refl

  none_message : (x : Concern) → (none_on x seq s).message ≡ (none_on x seq t).message
  unfolding none_on cause_on bare_on
  none_message (S.Modify m) = refl
  none_message (S.Delete d) = refl
  none_message (S.Refused type w) = refl
  none_message (S.Bearer b) = refl

none_session : (x : Concern) (seq : ℕ) (s : Session) → (none_on x seq s).session ≡ s
unfolding none_on cause_on bare_on
none_session (S.Modify m) seq s = refl
none_session (S.Delete d) seq s = refl
none_session (S.Refused type w) seq s = refl
none_session (S.Bearer b) seq s = refl

nobody_free : is_free nobody ≡ true
unfolding is_free blank_at
nobody_free = refl

-- whatever is asked of a session
pub owner_same : (node : Node) (l : List Session) (reply : List ℕ) → length l ≡ places → (teid : ℕ) (x : Concern) (seq : ℕ)
    → on_owner node l teid (session_on x seq) reply
    ≡ placed_one (named_places (has_control (get_or l (control_place teid) nobody) teid) (control_place teid)) node (control_place teid) l
    (done_with (of_number teid x seq (get_or l (control_place teid) nobody)) reply)
unfolding on_owner on_session session_place named_places place_found placed_one done_with amended of_number changed_at session_on
owner_same node l reply n teid x seq =
    let s = get_or l (control_place teid) nobody in
    let o = owner_control teid l (omega arith) in
    split (has_control s teid)
    (λ e. rw (o, e, control_taken_lem s teid e))
    (λ e. let h : length l ≤ length l = omega arith in
    rw (
      o,
      e,
      get_or-eq_default l nobody h,
      nobody_free,
      set_out l (length l) (none_on x seq nobody).session h,
      none_number seq nobody s x,
      none_message seq nobody s x,
      none_session x seq s,
      set-get_or l (control_place teid) nobody,
    ))
