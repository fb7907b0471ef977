-- That what specs/Ends.antt says holds, and what that rests on.
-- Assumes nothing.
use Rattle.std.specs.Prelude.{ℕ, suc, ◌+◌, ◌≤◌, Bool, true, false, List, [], ◌∷◌, map, refl, length, eqb, ltb}
use Rattle.std.proofs.Math.Path.{◌≡◌, ap}
use Rattle.std.proofs.Common.{sym, ◌∙◌, arith}
use Rattle.std.proofs.Math.ListN.{get_or}
use borrow.Author.Tests.{eqb-false, ne_eqb, leb-true, ltb-true, ltb-false, le-ltb}
use mir.Val.{bool_byte}
use Rattle.base_octets.specs.Choice.{split, impossible, and_left, and_right, and_no, bit_most}
use Rattle.base_octets.specs.Every.{every}
use Rattle.base_octets.specs.Search.{first_of, first_passes, first-before, first_none}
use Rattle.base_octets.specs.Sums.{sum_of, count_of, sum_set, sum_holds}
use Rattle.unit_tunnel.specs.Numbering.{places}
use Rattle.unit_plan.specs.Plan.{accepted_figures}
use Rattle.unit_session.specs.declared.Session.{Session}
use Rattle.unit_session.specs.OwnRequest.{sent_once}
use Rattle.unit_session.specs.Session.{is_due, is_closing, sent, turned}
use Rattle.unit_table.specs.Rules.{rules_of}
use Rattle.unit_table.specs.Change.{nobody, changed_at}
use Rattle.unit_table.specs.Number.{taken_number}
use Rattle.unit_table.specs.Own.{due_place, due_in_lem}
use Rattle.call_own.specs.Outcome.{Outcome, least_reply, no_reply}
use Rattle.call_own.specs.Calls.{timed, echo_sent, place_sent, due_sent, send_of}
use Rattle.call_store.specs.Stored.{State}
use Rattle.call_store.specs.Laws.{send_sound}
use Rattle.promise_demands.specs.Run.{left, send, step, answered, run, of_octets, Kept}
use Rattle.promise_demands.proofs.Run.{step_keeps, kept_table, kept_store, send_is}
use Rattle.promise_demands.specs.Bounds.{at}
use Rattle.promise_demands.specs.Ends.{NothingDue, roomy, SendsEnd}

-- ---- laws: how many requests are due, the echo's and the places'
unfoldable dues : State → ℕ
dues s = bool_byte (eqb s.node.echo.timer 0) + count_of is_due s.table

counts_most : (q : Session → Bool) (l : List Session) → count_of q l ≤ length l
unfolding sum_of
counts_most q [] = omega arith
counts_most q (x ∷ l) = let r = counts_most q l in let b = bit_most (q x) in omega arith

none_idle : (s : State) → Kept s → dues s ≡ 0 → NothingDue s
unfolding dues
none_idle s k z = record {
  echo = split (eqb s.node.echo.timer 0) (λ q. let y = rw q at z in absurd (omega arith)) (λ q. eqb-false s.node.echo.timer 0 q);
  place = λ i. split (is_due (at s i))
      (λ d. let h = due_in_lem s.node.plan s.node.echo s.node.next s.table (rules_of s.node s.table (kept_table s k)) i d in
      let u = rw d at (sum_holds (λ x. bool_byte (is_due x)) s.table i nobody h) in
      absurd (omega arith))
      (λ d. d);
}

module _ (reply : List ℕ) (room : roomy reply ≡ true) where
  long : ltb (length reply) least_reply ≡ false
  unfolding roomy least_reply
  long = le-ltb (length reply) least_reply (leb-true least_reply (length reply) room)

  -- nothing is due: 17, and nothing changes
  idle : (s : State) → Kept s → NothingDue s → send_of s.node s.table reply ≡ no_reply 17 s.node s.table reply
  unfolding send_of due_sent due_place
  idle s k n =
      split (ltb (first_of is_due s.table) (length s.table))
      (λ d. let h = ltb-true (first_of is_due s.table) (length s.table) d in
      impossible (sym (n.place (first_of is_due s.table)) ∙ first_passes is_due s.table nobody h))
      (λ d. rw (long, kept_table s k, ne_eqb s.node.echo.timer 0 n.echo, d))

  -- 17: nothing is due
  due : (s : State) → Kept s → (send_of s.node s.table reply).answer.number ≡ 17 → NothingDue s
  unfolding send_of due_sent echo_sent place_sent no_reply due_place
  due s k e =
      split (eqb s.node.echo.timer 0) (λ b. let z : ◌≡◌ {A = ℕ} 0 17 = rw (long, kept_table s k, b) at e in absurd (omega arith))
      (λ b. split (ltb (first_of is_due s.table) (length s.table))
      (λ c. let z : ◌≡◌ {A = ℕ} 0 17 = rw (long, kept_table s k, b, c) at e in absurd (omega arith))
      (λ c. let n = ltb-false (first_of is_due s.table) (length s.table) c in
      record {
        echo = eqb-false s.node.echo.timer 0 b;
        place = λ i. split (is_due (at s i))
            (λ d. let h = due_in_lem s.node.plan s.node.echo s.node.next s.table (rules_of s.node s.table (kept_table s k)) i d in
            let m = first-before is_due s.table i nobody h d in
            absurd (omega arith))
            (λ d. d);
      }))

  seventeen : (s : State) → Kept s → NothingDue s → answered (send reply) s ≡ 17
  unfolding answered no_reply
  seventeen s k n = ap (λ (o : Outcome). o.answer.number) (send_sound s.node s.table s.store (kept_store s k) reply ∙ idle s k n)

  -- a request that is sent is not due
  not_due : (t k : ℕ) (x : Session) → 1 ≤ t → is_due (sent t k x) ≡ false
  unfolding is_due sent turned sent_once
  not_due t k x h = rw (ne_eqb t 0 (λ z. omega arith)) (and_no (is_closing (turned x.state (sent_once t k x.own) x)))

  -- something is due: one less after the send
  fewer : (s : State) → Kept s → (n : ℕ) → dues s ≤ suc n → dues (step (send reply) s) ≤ n
  unfolding dues left send_of due_sent echo_sent place_sent no_reply timed sent_once due_place changed_at
  fewer s k n m =
      let i = first_of is_due s.table in
      let j = taken_number s.node.next s.node.echo s.table in
      let t = s.node.plan.resend in
      let r = (accepted_figures s.node.plan (rules_of s.node s.table (kept_table s k)).planned).resends in
      split (eqb s.node.echo.timer 0)
      (λ q. let y = rw q at m in rw (send_is s k reply, long, kept_table s k, q, ne_eqb s.node.plan.resend 0 (λ z. omega arith)) (omega arith))
      (λ q. split (ltb (first_of is_due s.table) (length s.table))
      (λ d. let h = ltb-true (first_of is_due s.table) (length s.table) d in
      let x = get_or s.table i nobody in
      let v = sum_set (λ y. bool_byte (is_due y)) s.table i (sent t j x) nobody h in
      let u = rw (first_passes is_due s.table nobody h, not_due t j x r) at v in
      let y = rw q at m in
      rw (send_is s k reply, long, kept_table s k, q, d) (omega arith))
      (λ d. let e = first_none is_due s.table (ltb-false (first_of is_due s.table) (length s.table) d) in
      rw (send_is s k reply, long, kept_table s k, q, d, e, q) (omega arith)))

sent_all : (replies : List (List ℕ)) (s : State) → every roomy replies ≡ true → Kept s → dues s ≤ length replies
    → NothingDue (run (map send replies) s)
unfolding run every of_octets
sent_all [] s w q m = none_idle s q (omega arith)
sent_all (r ∷ rs) s w q m =
    sent_all rs (step (send r) s) (and_right (roomy r) (every roomy rs) w) (step_keeps (send r) s refl q)
    (fewer r (and_left (roomy r) (every roomy rs) w) s q (length rs) m)

pub sends_end : SendsEnd
unfolding answered dues places
sends_end = record {
  exactly = λ s k reply room. ((λ e. due reply room s k (sym (ap (λ (o : Outcome). o.answer.number) (send_sound s.node s.table s.store (kept_store s k) reply)) ∙ e)), seventeen reply room s k);
  ends = λ s k replies w h.
      let n = (rules_of s.node s.table (kept_table s k)).size in
      let a = bit_most (eqb s.node.echo.timer 0) in
      let b = counts_most is_due s.table in
      sent_all replies s w k (omega arith);
}
