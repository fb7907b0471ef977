-- User datagrams with lent records, in numbers: what the one record that was read says is what the whole lent list says.
-- Assumes nothing.
use Rattle.std.specs.Prelude.{ℕ, ◌-◌, ◌≤◌, Bool, false, List, ◌≡◌, length, get_or, ltb}
use Rattle.std.proofs.Common.{◌∙◌, arith, subst, refl}
use Rattle.std.specs.Borrow.{Bor}
use Rattle.base_octets.specs.Choice.{split}
use Rattle.unit_session.specs.declared.Session.{Session}
use Rattle.unit_session.specs.Session.{blank_at}
use Rattle.unit_table.specs.declared.Node.{Node}
use Rattle.unit_table.specs.Rules.{keeps_rules}
use Rattle.unit_store.specs.Store.{store_ok}
use Rattle.wire_user.specs.Part.{IsRest, rest_length}
use Rattle.call_own.specs.Outcome.{least_reply}
use Rattle.call_user.specs.User.{Took, took}
use Rattle.call_store.specs.Stored.{keeps, broken_number, user_stored}
use Rattle.call_store.specs.Steps.{keeps_by, keeps-not}
use Rattle.call_user.specs.OneRecord.{place_in, done, done_is, done_within}
use Rattle.call_user.specs.Parcel.{parcel, parcel_of}

-- what was read and answered is what is said of the lent list
pub user_lent : (node : Node) (l : List Session) (w : List (List ℕ)) (d reply : List ℕ) (kept : Bool) (at : ℕ) (s : Session)
    → kept ≡ keeps node l w → at ≡ place_in d → s ≡ get_or l at (blank_at 0) → done kept node s d reply ≡ user_stored node l w d reply
unfolding user_stored broken_number done
user_lent node l w d reply kept at s e-k e-a e-s =
    split (store_ok w)
    (λ ok. let k : kept ≡ keeps_rules node l = e-k ∙ keeps_by node l w ok in rw (ok, e-s, e-a, k) (done_is node l d reply))
    (λ ok. let k : kept ≡ false = e-k ∙ keeps-not node l w ok in
    split (ltb (length reply) least_reply) (λ b. rw (ok, k, b)) (λ b. rw (ok, k, b)))

-- what is handed up begins within the datagram, or at its end
pub stored_within : (node : Node) (l : List Session) (w : List (List ℕ)) (d reply : List ℕ) → (user_stored node l w d reply).start ≤ length d
stored_within node l w d reply =
    let s = get_or l (place_in d) (blank_at 0) in
    subst (λ (x : Took). x.start ≤ length d) (user_lent node l w d reply (keeps node l w) (place_in d) s refl refl refl) (done_within (keeps node l w) node s d reply)

-- the part's length gives its place
pub parcel_is : (r d : Bor (List ℕ)) (reply : List ℕ) (x : Took) (number place size : ℕ) → x.start ≤ length d.now
    → took number place size reply x.start ≡ x → IsRest r d x.start
    → parcel (record { number = number; place = place; size = size; start = length d.now - length r.now; octets = length r.now }) reply ≡ parcel_of (length d.now) x
unfolding parcel_of
parcel_is r d reply x number place size h e rest =
    let n = rest_length r d x.start rest in
    let s : length d.now - (length d.now - x.start) ≡ x.start = omega (arith, h) in
    rw (n, s, ← e)
