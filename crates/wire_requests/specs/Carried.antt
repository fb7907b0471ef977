-- What the types 1 (Echo Request), 2 (Echo Response) and 100 (Delete Bearer Response) carry. Only the message's own fields are walked: a Bearer
-- Context is an unknown field here.
-- Assumes nothing.
use Rattle.std.specs.Prelude.{ℕ, List, Option, None, Result, Ok, Err}
use Rattle.base_octets.specs.Choice.{pick}
use Rattle.wire_fields.specs.Walk.{overruns}
use Rattle.wire_fields.specs.Kinds.{cause_kind}
use Rattle.wire_fields.specs.Readers.{octet_in, recovery_in}
use Rattle.wire_fields.specs.declared.Flaw.{Flaw}
use Rattle.wire_requests.specs.declared.Unreadable.{Unreadable}

-- a reply that cannot be read
abbrev pub unreadable : Unreadable
unreadable = record {}

-- an overrun in type 1 counts as no Recovery
unfoldable pub echo_read : List ℕ → Option ℕ
echo_read s = pick (overruns s) None (recovery_in s)

-- in type 2 it makes the reply unreadable
unfoldable pub echo_reply_read : List ℕ → Result (Option ℕ) Unreadable
echo_reply_read s = pick (overruns s) (Err unreadable) (Ok (recovery_in s))

-- in type 100 too, and a Cause of 2 octets is needed
unfoldable pub cause_of : Result ℕ Flaw → Result ℕ Unreadable
cause_of (Ok x) = Ok x
cause_of (Err e) = Err unreadable

unfoldable pub bearer_reply_read : List ℕ → Result ℕ Unreadable
bearer_reply_read s = pick (overruns s) (Err unreadable) (cause_of (octet_in s cause_kind 2))
