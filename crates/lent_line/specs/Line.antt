-- The line of a place of lent records needs one record, and that all keep the rules.
-- Assumes nothing.
use Rattle.std.specs.Prelude.{ℕ, Bool, false, List, ◌≡◌, length, get_or, ltb}
use Rattle.std.proofs.Common.{ap, ◌∙◌}
use Rattle.base_octets.specs.Choice.{split}
use Rattle.unit_tunnel.specs.Numbering.{places}
use Rattle.unit_session.specs.declared.Session.{Session}
use Rattle.unit_session.specs.Session.{blank_at}
use Rattle.unit_table.specs.declared.Node.{Node}
use Rattle.unit_table.specs.Rules.{keeps_rules, rules_of}
use Rattle.call_own.specs.declared.Answer.{Answer}
use Rattle.call_own.specs.Outcome.{outcome, least_reply, no_reply, Back, back, back_with}
use Rattle.call_line.specs.Line.{line_by, line_of}
use Rattle.unit_store.specs.Store.{store_ok}
use Rattle.call_store.specs.Stored.{keeps, broken_number, line_stored}
use Rattle.call_store.specs.Steps.{keeps_by, keeps-not}
use Rattle.call_line.specs.Where.{peer_of, peer_at}

-- records that keep the rules are as many as there are places
one_line : (node : Node) (l : List Session) (place : ℕ) (reply after : List ℕ) (kept : Bool) (s : Session) (r : Answer)
    → kept ≡ keeps_rules node l → s ≡ get_or l place (blank_at 0) → back r after ≡ line_by kept (ltb place places) node place s reply
    → outcome r l after ≡ line_of node l place reply
unfolding line_of line_by
one_line node l place reply after kept s r k e made =
    ap (λ (x : Back). back_with l x) made
    ∙ rw (k, e) (split (keeps_rules node l) (λ q. let n = (rules_of node l q).size in rw (q, n)) (λ q. rw q))

-- where the store breaks its rules there is none
pub line_lent : (node : Node) (l : List Session) (w : List (List ℕ)) (place : ℕ) (reply after : List ℕ) (kept : Bool) (s : Session) (r : Answer)
    → kept ≡ keeps node l w → s ≡ get_or l place (blank_at 0) → back r after ≡ line_by kept (ltb place places) node place s reply
    → outcome r l after ≡ line_stored node l w place reply
unfolding line_stored line_by broken_number no_reply
line_lent node l w place reply after kept s r e-k e made =
    split (store_ok w)
    (λ ok. let k : kept ≡ keeps_rules node l = e-k ∙ keeps_by node l w ok in rw ok (one_line node l place reply after kept s r k e made))
    (λ ok. let k : kept ≡ false = e-k ∙ keeps-not node l w ok in
    ap (λ (x : Back). back_with l x) made ∙ split (ltb (length reply) least_reply) (λ b. rw (ok, k, b)) (λ b. rw (ok, k, b)))

-- where its peer is needs one record alone
pub peer_lent : (l : List Session) (place : ℕ) (s : Session) (r : ℕ) → s ≡ get_or l place (blank_at 0) → r ≡ peer_of s → r ≡ peer_at l place
unfolding peer_at
peer_lent l place s r e-s e-r = rw (e-r, e-s)
