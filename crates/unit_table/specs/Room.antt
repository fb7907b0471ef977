-- Room: a session that the sharing rule admits finds a free place, on every table that keeps its rules; so number 11 does not come.
-- Assumes nothing.
use Rattle.std.specs.Prelude.{◌≡◌, ℕ, ◌<◌, true, false, not, ◌&&◌, ltb, List, length, ◌==◌, nat_lt, slice_index_or}
use Rattle.std.proofs.Common.{sym, ◌∙◌, arith, ltb-true, ltb-false}
use mir.Val.{bool_byte}
use Rattle.base_octets.specs.Choice.{split, impossible, and_left, and_right}
use Rattle.base_octets.specs.Every.{every}
use Rattle.base_octets.specs.Sums.{count_of, sum_agree}
use Rattle.base_octets.specs.Below.{sum_to, to_none, to_swap, hits_in, to_equal}
use Rattle.base_octets.specs.Search.{first_of, first-room, first_passes}
use Rattle.unit_plan.specs.declared.Plan.{Plan}
use Rattle.unit_plan.specs.Limits.{parties}
use Rattle.unit_sharing.specs.Sharing.{admits, admits_out, guarantee_at, ceiling_at}
use Rattle.unit_sharing.proofs.Sharing.{admitted-room}
use Rattle.unit_session.specs.declared.OwnRequest.{OwnRequest}
use Rattle.unit_session.specs.declared.Session.{Session}
use Rattle.unit_session.specs.declared.Bounds.{Bounds}
use Rattle.unit_session.specs.Session.{is_free, is_on, record_ok, held_ok, read_ok}
use Rattle.unit_session.specs.Keep.{live_of}
use Rattle.unit_table.specs.Rules.{live_on, live, bounds_of, Rules}
use Rattle.unit_table.specs.Change.{nobody}

-- the lowest free place, or the number of places where none is free
unfoldable pub free_place : List Session → ℕ
free_place l = first_of is_free l

-- the sessions of the unit, live or closing
unfoldable pub sessions : List Session → ℕ
sessions l = count_of (λ s. not (is_free s)) l

-- an access point that is admitted is one of the plan's
pub admits-known : (p : Plan) (u : ℕ → ℕ) (a : ℕ) → admits p u a ≡ true → a < parties p
admits-known p u a e =
    split (nat_lt a (parties p)) (λ t. ltb-true a (parties p) t)
    (λ t. impossible (sym (admits_out p u a (ltb-false a (parties p) t)) ∙ e))

-- ---- each session is on one access point of the plan
pub point-known : (b : Bounds) (s : Session) → record_ok b s ≡ true → is_free s ≡ false → s.point < b.parties
unfolding held_ok read_ok
point-known b s e n =
    let h = (live_of b s e n).held in
    let k : ltb s.point b.parties ≡ true = search (and_left, and_right) depth 9 in
    ltb-true s.point b.parties k

on_one : (b : Bounds) (s : Session) → record_ok b s ≡ true → sum_to (λ a. bool_byte (is_on a s)) b.parties ≡ bool_byte (not (is_free s))
unfolding is_on
on_one b s e =
    split (is_free s)
    (λ n. to_equal (λ a. bool_byte (not (is_free s) && s.point == a)) (λ a. 0) b.parties (λ a h. rw n) ∙ (to_none b.parties ∙ rw n))
    (λ n. to_equal (λ a. bool_byte (not (is_free s) && s.point == a)) (λ a. bool_byte (s.point == a)) b.parties (λ a h. rw n)
    ∙ (hits_in b.parties s.point (point-known b s e n) ∙ rw n))

pub sessions_are : (p : Plan) (l : List Session) → every (record_ok (bounds_of p)) l ≡ true → sum_to (live l) (parties p) ≡ sessions l
unfolding live_on sessions bounds_of
sessions_are p l e =
    to_swap (λ a s. bool_byte (is_on a s)) (parties p) l
    ∙ sum_agree (record_ok (bounds_of p)) (λ s. sum_to (λ a. bool_byte (is_on a s)) (parties p)) (λ s. bool_byte (not (is_free s))) l e
    (λ s h. on_one (bounds_of p) s h)

-- ---- a place for whoever is admitted
module _ (p : Plan) (echo : OwnRequest) (next : ℕ) (l : List Session) (r : Rules p echo next l) (a : ℕ) (e : admits p (live l) a ≡ true) where
  pub place_free : free_place l < length l
  unfolding free_place sessions
  place_free =
      let s = sessions_are p l r.each in
      let h = admitted-room (parties p) (guarantee_at p) (ceiling_at p) (live l) a (admits-known p (live l) a e) r.within e in
      let n = r.size in
      first-room is_free l (omega arith)

  pub place_is_free : is_free (slice_index_or l (free_place l) nobody) ≡ true
  unfolding free_place
  place_is_free = first_passes is_free l nobody place_free
