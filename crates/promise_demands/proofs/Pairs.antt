-- That what specs/Pairs.antt says holds, and what that rests on.
-- Assumes nothing.
use Rattle.std.specs.Prelude.{ℕ, ◌+◌, ◌≤◌, max, Bool, true, false, ◌&&◌, ◌||◌, List, [], ◌∷◌, ◌≡◌, refl, length, get_or, ltb, Some, None}
use Rattle.std.proofs.Common.{sym, ◌∙◌, ap, arith, le-ltb}
use Rattle.base_octets.specs.Overlay.{overlay}
use Rattle.base_octets.specs.Below.{sum_to}
use Rattle.base_octets.specs.BigEndian.{number_from, number_of}
use Rattle.unit_tunnel.specs.Numbering.{places, base, control_offset, user_offset, last_use, teids, user_fits}
use Rattle.unit_tunnel.specs.Tunnel.{number_at, user_number, next_use, numbers as numbersOf, holder_of}
use Rattle.wire_user.specs.Header.{ours, optional, size_of, type_taken, user_teid_of, refusal_of, user_header_of, user_sequence_of}
use Rattle.wire_user.specs.Extensions.{unfit, walk_of, extensions_of}
use Rattle.wire_user.specs.User.{first_type, user_of}
use Rattle.wire_user.specs.declared.Header.TheVariants as H
use Rattle.wire_header.specs.Header.{version_of}
use Rattle.wire_header.specs.Gate.{gate_of, control_version}
use Rattle.unit_plan.specs.Limits.{parties}
use Rattle.unit_sharing.specs.Sharing.{share, sharable, admitted, admits, guarantee_at, ceiling_at}
use Rattle.unit_table.specs.Rules.{rules_of}
use Rattle.unit_table.specs.Find.{owner_of, held_in, owner_is}
use Rattle.wire_messages.specs.Messages.{version_not_supported, error_indication}
use Rattle.wire_requests.specs.declared.Create as C
use Rattle.call_own.specs.Outcome.{outcome, least_reply, no_places}
use Rattle.call_asked.specs.Asked.{asked_of}
use Rattle.call_control.specs.Control.{restarts_in, asked_taken}
use Rattle.call_user.specs.User.{took, silent, user_replied, packet_taken, header_taken, user_taken, user_read_lem, user_unread}
use Rattle.call_store.specs.Stored.{State, stored, user_stored, asks_store, is_kept, store_after, taken_stored, control_stored}
use Rattle.call_store.specs.Laws.{user_sound}
use Rattle.promise_demands.specs.Run.{control, answered, Kept}
use Rattle.promise_demands.proofs.Run.{kept_table, kept_store}
use Rattle.promise_demands.specs.Bounds.{at}
use Rattle.promise_demands.specs.Creates.{NewCreate, asked_u}
use Rattle.promise_demands.proofs.Share.{number_yes, number_no}
use Rattle.promise_demands.proofs.Carried.{live_owner}
use Rattle.promise_demands.specs.Pairs.{Lives, Shares, Holds, pairs, AllHold, PairsHold}

-- ---- what shows a row
-- a control number is nobody's user number
nobody_has : (s : State) → Kept s → owner_of user_offset 256 s.table ≡ None
unfolding holder_of numbersOf held_in places base user_offset
nobody_has s k = let z = (rules_of s.node s.table (kept_table s k)).size in owner_is user_offset 256 s.table user_fits (omega arith)

sound : (s : State) → Kept s → (d reply : List ℕ) → user_stored s.node s.table s.store d reply ≡ user_taken s.node s.table d reply
sound s k d reply = user_sound s.node s.table s.store (kept_store s k) d reply

handed_up_lem : (d : List ℕ) (start : ℕ) → (user_of d).number ≡ 0 → (user_of d).size ≡ start → user_header_of d ≡ H.Packet (record { 0 = 384 })
    → (s : State) (reply : List ℕ) → Lives s reply → user_stored s.node s.table s.store d reply ≡ took 0 0 0 reply start
unfolding header_taken packet_taken least_reply number_at base user_offset places
handed_up_lem d start n z q s reply h =
    let own : owner_of user_offset (user_number (at s 0).usage 0) s.table ≡ Some 0 = live_owner s h.kept 0 (omega arith) h.live in
    let o : owner_of user_offset 384 s.table ≡ Some 0 = rw h.usage at own in
    sound s h.kept d reply ∙ user_read_lem s.node s.table d reply h.room (kept_table s h.kept) n ∙ rw (q, o, z)

refused_so : (d : List ℕ) (number : ℕ) → (user_of d).number ≡ number → (number ≡ 0 → ⊥) → (s : State) (reply : List ℕ) → Lives s reply
    → user_stored s.node s.table s.store d reply ≡ silent number (length d) reply
unfolding least_reply
refused_so d number e n s reply h =
    sound s h.kept d reply ∙ user_unread s.node s.table d reply h.room (kept_table s h.kept) (λ z. n (sym e ∙ z)) ∙ ap (λ (k : ℕ). silent k (length d) reply) e

unknown_so : (d : List ℕ) (teid : ℕ) → (user_of d).number ≡ 0 → user_header_of d ≡ H.Packet (record { 0 = teid })
    → (s : State) (reply : List ℕ) → Lives s reply → owner_of user_offset teid s.table ≡ None
    → user_stored s.node s.table s.store d reply ≡ user_replied 15 (error_indication teid s.node.plan.user) (length d) reply
unfolding header_taken packet_taken least_reply
unknown_so d teid n q s reply h o = sound s h.kept d reply ∙ user_read_lem s.node s.table d reply h.room (kept_table s h.kept) n ∙ rw (q, o)

-- the sharing rule by the figures of a row
abbrev rule : List ℕ → List ℕ → List ℕ → ℕ → Bool
rule g k u a = ltb (get_or u a 0) (get_or k a 0) && (ltb (get_or u a 0) (get_or g a 0) || ltb (max (get_or u 1 0) (get_or g 1 0) + (max (get_or u 0 0) (get_or g 0 0) + 0)) places)

by_figures : (n : ℕ) (f h v : ℕ → ℕ) (g k u : List ℕ) (a : ℕ) → n ≡ 2 → ((b : ℕ) → f b ≡ get_or g b 0) → ((b : ℕ) → h b ≡ get_or k b 0) → ((b : ℕ) → v b ≡ get_or u b 0)
    → admitted n f h v a ≡ rule g k u a
unfolding admitted sharable share sum_to places
by_figures n f h v g k u a e x y z = rw (e, ← x a, ← x 0, ← x 1, ← y a, ← z a, ← z 0, ← z 1)

module _ (g k u : List ℕ) (a : ℕ) (s : State) (d reply : List ℕ) (c : C.Create) (kept : Kept s) (n : NewCreate s.node.plan s d c) (room : least_reply ≤ length reply)
    (h : Shares s c g k u) (e : c.point ≡ a) where
  ruled : admits s.node.plan (asked_u c s) c.point ≡ rule g k u a
  ruled =
      ap (λ (i : ℕ). admits s.node.plan (asked_u c s) i) e
      ∙ by_figures (parties s.node.plan) (guarantee_at s.node.plan) (ceiling_at s.node.plan) (asked_u c s) g k u a h.parties h.guarantees h.ceilings h.live

  asks_yes : rule g k u a ≡ true → answered (control d reply) s ≡ 0
  asks_yes t = number_yes s.node.plan s kept refl d c n reply room (ruled ∙ t)

  asks_no : rule g k u a ≡ false → answered (control d reply) s ≡ 73
  asks_no t = number_no s.node.plan s kept refl d c n reply room (ruled ∙ t)

version_so : (d : List ℕ) → gate_of d ≡ 5 → (s : State) (reply : List ℕ) → Kept s → least_reply ≤ length reply
    → control_stored s.node s.table s.store d reply
    ≡ stored (outcome (record { number = 5; size = length version_not_supported; node = s.node; span = no_places }) s.table (overlay version_not_supported reply)) s.store
unfolding control_stored taken_stored is_kept asks_store store_after restarts_in asked_taken asked_of least_reply
version_so d e s reply kept room = rw (le-ltb (length reply) least_reply room, kept, e)

pub pairs_hold : PairsHold
unfolding PairsHold AllHold pairs Holds number_at next_use places base control_offset user_offset last_use teids number_from number_of ours optional size_of type_taken user_teid_of refusal_of user_header_of user_sequence_of unfit walk_of extensions_of first_type user_of gate_of version_of control_version version_not_supported
pairs_hold = (
  (refl, refl),
  (
    (refl, refl),
    (
      refl,
      (
        (λ s reply h. (handed_up_lem _ 8 refl refl refl s reply h, refl)),
        (
          (λ s reply h. refused_so _ 6 refl (λ z. omega arith) s reply h),
          (
            (λ s reply h. unknown_so _ 256 refl refl s reply h (nobody_has s h.kept)),
            (
              (λ s reply h. (handed_up_lem _ 16 refl refl refl s reply h, refl)),
              (
                (λ s reply h. refused_so _ 14 refl (λ z. omega arith) s reply h),
                (
                  (λ s reply h. refused_so _ 13 refl (λ z. omega arith) s reply h),
                  (
                    (λ s d reply c k n room h e. asks_no (10 ∷ 20 ∷ []) (places ∷ places ∷ []) (44 ∷ 0 ∷ []) 0 s d reply c k n room h e refl),
                    (
                      (λ s d reply c k n room h e. asks_yes (10 ∷ 20 ∷ []) (places ∷ places ∷ []) (44 ∷ 0 ∷ []) 1 s d reply c k n room h e refl),
                      (
                        (λ s d reply c k n room h e. asks_yes (10 ∷ 20 ∷ []) (places ∷ places ∷ []) (43 ∷ 0 ∷ []) 0 s d reply c k n room h e refl),
                        ((λ s reply k room. version_so _ refl s reply k room), tt),
                      ),
                    ),
                  ),
                ),
              ),
            ),
          ),
        ),
      ),
    ),
  ),
)
