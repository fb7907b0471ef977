-- That what specs/Restarted.antt says holds, and what that rests on.
-- Assumes nothing.
use Rattle.std.specs.Prelude.{ℕ, ◌<◌, true, false, List, map, ◌≢◌, ◌≡◌, refl, length, get_or, Option, Some, None}
use Rattle.std.proofs.Common.{sym, ◌∙◌, arith}
use Rattle.std.proofs.Math.ListN.{length-map}
use borrow.Author.Tests.{ne_eqb}
use Rattle.base_octets.specs.Choice.{split, impossible}
use Rattle.base_octets.specs.Places.{map_at}
use Rattle.unit_tunnel.specs.Tunnel.{next_use}
use Rattle.unit_sharing.specs.Sharing.{admits}
use Rattle.unit_session.specs.declared.Session.{Session}
use Rattle.unit_session.specs.Session.{is_free, has_id, freed, opened, blank_at}
use Rattle.unit_table.specs.declared.Node.{Node}
use Rattle.unit_table.specs.declared.Judged.TheVariants as J
use Rattle.unit_table.specs.Rules.{live, keeps_rules, Rules, rules_of}
use Rattle.unit_table.specs.Change.{nobody, at_changed}
use Rattle.unit_table.specs.Find.{found_in, found_is}
use Rattle.unit_table.specs.Open.{freed_none}
use Rattle.unit_table.specs.Room.{free_place, place_free}
use Rattle.unit_table.specs.Recovery.{judged_by, hearing}
use Rattle.wire_requests.specs.declared.Create as C
use Rattle.call_asked.specs.declared.Asked.{Asked}
use Rattle.call_asked.specs.declared.Asked.TheVariants as A
use Rattle.call_own.specs.Outcome.{Outcome, no_reply}
use Rattle.call_own.specs.Calls.{timed}
use Rattle.call_control.specs.Echoes.{done_for, heard_by, heard-keeps, echo_taken, echo_ended, echo_reply_taken}
use Rattle.call_control.specs.Amends.{cause_taken}
use Rattle.call_control.specs.Creates.{opening_of, accepted_taken, opened_at, shared, settled_at, heard_create, create_taken}
use Rattle.call_control.specs.Control.{asked_taken}
use Rattle.promise_demands.proofs.Creates.{none_found}
use Rattle.promise_demands.specs.Place.{gone}
use Rattle.promise_demands.proofs.Place.{freed-gone, next_other}
use Rattle.promise_demands.specs.Restarted.{recovery_in, TableGone}

pub none_value : (value : ℕ) → None ≢ Some value
none_value value e = let z : ◌≡◌ {A = ℕ} 0 1 = cc in omega arith

module _ (node : Node) (t : List Session) (kept : keeps_rules node t ≡ true) (value : ℕ) (again : judged_by node value ≡ J.Restarted) where
  abbrev then' : Node
  then' = hearing value node

  abbrev none : List Session
  none = map freed t

  again_heard : (r : Option ℕ) → r ≡ Some value → heard_by r node t ≡ record { node = then'; table = none }
  unfolding heard_by done_for
  again_heard r e = rw (e, again)

  none_gone : (i : ℕ) → i < length t → gone (get_or t i nobody).usage (get_or none i nobody) ≡ true
  none_gone i h = rw (map_at freed t i nobody nobody h) (freed-gone (get_or t i nobody).usage (get_or t i nobody))

  all_gone : TableGone t value then' none
  unfolding hearing
  all_gone = record { heard = refl; recovery = refl; gone = none_gone }

  module _ (c : C.Create) (e : c.recovery ≡ Some value) (seq : ℕ) (reply : List ℕ) where
    abbrev Gone : Outcome → Type 0
    Gone o = TableGone t value o.answer.node o.table

    rules_none : Rules then'.plan then'.echo then'.next none
    rules_none = rules_of then' none (rw (again_heard c.recovery e) at (heard-keeps node t kept c.recovery))

    -- a place that is opened is in another use
    opened-gone : (i : ℕ) → i < length t → gone (get_or t i nobody).usage (opened (opening_of c seq) (get_or none i nobody)) ≡ true
    unfolding gone opened freed blank_at is_free
    opened-gone i h =
        rw (map_at freed t i nobody nobody h, ne_eqb (next_use (get_or t i nobody).usage) (get_or t i nobody).usage (next_other (get_or t i nobody).usage))

    place-gone : admits then'.plan (live none) c.point ≡ true → (f : Option ℕ) → found_in is_free none ≡ f → Gone (opened_at f c seq then' none node t reply)
    unfolding opened_at accepted_taken no_reply hearing free_place
    place-gone a None g =
        let x = none_found is_free none g in
        let y = place_free then'.plan then'.echo then'.next none rules_none c.point a in
        absurd (omega arith)
    place-gone a (Some j) g = record {
      heard = refl;
      recovery = refl;
      gone = λ i h. at_changed (λ x. gone (get_or t i nobody).usage x ≡ true) (opened (opening_of c seq)) none i j (let z = length-map t freed in omega arith)
          (none_gone i h) (λ z. opened-gone i h);
    }

    shared-gone : Gone (shared c seq then' none node t reply)
    unfolding shared cause_taken hearing
    shared-gone =
        split (admits then'.plan (live none) c.point) (λ a. rw a (place-gone a (found_in is_free none) refl)) (λ a. rw a all_gone)

    nobody_found : (j : ℕ) → j < length t → has_id c.imsi c.ebi (get_or none j nobody) ≡ false
    nobody_found j h = rw (map_at freed t j nobody nobody h) (freed_none c.imsi c.ebi (get_or t j nobody))

    settled-gone : (f : Option ℕ) → found_in (has_id c.imsi c.ebi) none ≡ f → Gone (settled_at f c seq then' none node t reply)
    unfolding settled_at
    settled-gone None g = shared-gone
    settled-gone (Some j) g =
        let x = found_is (has_id c.imsi c.ebi) none j g in
        let z = length-map t freed in
        impossible (sym (nobody_found j (omega arith)) ∙ x.1.1)

    create-gone : Gone (create_taken c seq node t reply)
    unfolding create_taken heard_create
    create-gone = rw (again_heard c.recovery e) (settled-gone (found_in (has_id c.imsi c.ebi) none) refl)

  pub asked_gone : (a : Asked) → recovery_in a ≡ Some value → (reply : List ℕ)
      → TableGone t value (asked_taken node t a reply).answer.node (asked_taken node t a reply).table
  unfolding asked_taken recovery_in echo_taken echo_reply_taken echo_ended timed no_reply
  asked_gone (A.Silent number) e reply = absurd (none_value value e)
  asked_gone A.Version e reply = absurd (none_value value e)
  asked_gone (A.Echo r seq) e reply = rw (again_heard r e) all_gone
  asked_gone (A.EchoReply r) e reply = rw (again_heard r e) (record { heard = all_gone.heard; recovery = all_gone.recovery; gone = all_gone.gone })
  asked_gone (A.Create c seq) e reply = create-gone c e seq reply
  asked_gone (A.Refused w to seq) e reply = absurd (none_value value e)
  asked_gone (A.Session teid seq x) e reply = absurd (none_value value e)
