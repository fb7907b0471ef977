-- What concerns one session leaves a record that may stand where it stood, whatever came: so it keeps the table rules.
-- Assumes nothing.
use Rattle.std.specs.Prelude.{ℕ, true, false, not, ◌≡◌, eqb, Option, Some, None, Result, Ok, Err, unwrap_or}
use Rattle.std.proofs.Math.Path.{refl}
use Rattle.std.proofs.Common.{arith}
use Rattle.std.proofs.lemmas.Bool.{not-true}
use Rattle.base_octets.specs.Choice.{split, and_left, and_right, differs}
use Rattle.unit_session.specs.declared.Session.{Session}
use Rattle.unit_session.specs.declared.Bounds.{Bounds}
use Rattle.unit_session.specs.Session.{is_free, waits_for, record_ok, held_ok, read_ok, moved}
use Rattle.unit_session.specs.Keep.{live_of, ok_moved, lighter_moved}
use Rattle.wire_requests.specs.declared.Modify as M
use Rattle.wire_requests.specs.declared.Delete as D
use Rattle.wire_requests.specs.Change.{moves_of, means_of, PeerSound, ModifySound, MovesSound, moves_sound, new_live}
use Rattle.call_asked.specs.declared.Concern.{Concern}
use Rattle.call_asked.specs.declared.Concern.TheVariants as S
use Rattle.call_asked.specs.Sound.{ConcernSound}
use Rattle.call_own.specs.Outcome.{bare_on}
use Rattle.call_own.specs.OnSession.{Fits, fits_same, fits-freed}
use Rattle.call_control.specs.Amends.{cause_on, control_end, user_end, peers_of, moved_on, modify_by, modify_on, freed_on, delete_on, bearer_on, concern_on, none_on, session_on}
use Rattle.wire_requests.specs.declared.Moves.{Moves}
use Rattle.wire_fields.specs.declared.Refusal.{Refusal}
use Rattle.wire_fields.specs.declared.Tunnel.{Tunnel}
use Rattle.wire_requests.specs.declared.Unreadable.{Unreadable}

-- ---- the peers after a Modify are never 0
peers_known : (b : Bounds) (s : Session) → record_ok b s ≡ true → is_free s ≡ false → (s.control ≡ 0 → ⊥) × (s.user ≡ 0 → ⊥)
unfolding held_ok read_ok
peers_known b s e n =
    let h = (live_of b s e n).held in
    let c : not (eqb s.control 0) ≡ true = search (and_left, and_right) depth 9 in
    let u : not (eqb s.user 0) ≡ true = search (and_left, and_right) depth 9 in
    (differs s.control 0 (not-true (eqb s.control 0) c), differs s.user 0 (not-true (eqb s.user 0) u))

peer_some : (p : Option Tunnel) (old : Tunnel) → PeerSound p → (old.teid ≡ 0 → ⊥) → (unwrap_or p old).teid ≡ 0 → ⊥
peer_some None old h o e = o e
peer_some (Some end) old h o e = let k = new_live end h in omega arith

module _ (b : Bounds) (s : Session) (ok : record_ok b s ≡ true) where
  moved-fits : (x : Moves) → is_free s ≡ false → MovesSound x → Fits b s (moved (peers_of x.control x.user s) s)
  unfolding peers_of
  moved-fits x n q =
      let k = peers_known b s ok n in
      record {
        ok = ok_moved b s ok (peers_of x.control x.user s) n (peer_some x.control (control_end s) q.control k.0) (peer_some x.user (user_end s) q.user k.1);
        lighter = lighter_moved s (peers_of x.control x.user s);
      }

  modify_fits : (m : M.Modify) (seq : ℕ) → is_free s ≡ false → ModifySound m → Fits b s (modify_on m seq s).session
  unfolding modify_on modify_by moved_on cause_on
  modify_fits m seq n h = by (moves_of m s.ebi) refl
    where
      by : (x : Result Moves Refusal) → moves_of m s.ebi ≡ x → Fits b s (modify_by x m.context seq s).session
      by (Err w) e = fits_same b s ok
      by (Ok moves) e = moved-fits moves n (moves_sound m s.ebi moves h e)

  delete_fits : (d : D.Delete) (seq : ℕ) → Fits b s (delete_on d seq s).session
  unfolding delete_on freed_on cause_on
  delete_fits d seq = split (means_of d s.ebi) (λ e. rw e (fits-freed b s ok)) (λ e. rw e (fits_same b s ok))

  bearer_fits : (x : Result ℕ Unreadable) (seq : ℕ) → Fits b s (bearer_on x seq s).session
  unfolding bearer_on bare_on
  bearer_fits (Err u) seq = fits_same b s ok
  bearer_fits (Ok cause) seq = split (waits_for seq s) (λ e. rw e (fits-freed b s ok)) (λ e. rw e (fits_same b s ok))

  live-fits : (x : Concern) (seq : ℕ) → is_free s ≡ false → ConcernSound x → Fits b s (concern_on x seq s).session
  unfolding concern_on cause_on ConcernSound
  live-fits (S.Modify m) seq n h = modify_fits m seq n h
  live-fits (S.Delete d) seq n h = delete_fits d seq
  live-fits (S.Refused type w) seq n h = fits_same b s ok
  live-fits (S.Bearer x) seq n h = bearer_fits x seq

  none_fits : (x : Concern) (seq : ℕ) → Fits b s (none_on x seq s).session
  unfolding none_on cause_on bare_on
  none_fits (S.Modify m) seq = fits_same b s ok
  none_fits (S.Delete d) seq = fits_same b s ok
  none_fits (S.Refused type w) seq = fits_same b s ok
  none_fits (S.Bearer x) seq = fits_same b s ok

  pub session_fits : (x : Concern) (seq : ℕ) → ConcernSound x → Fits b s (session_on x seq s).session
  unfolding session_on
  session_fits x seq h = split (is_free s) (λ e. rw e (none_fits x seq)) (λ e. rw e (live-fits x seq e h))
