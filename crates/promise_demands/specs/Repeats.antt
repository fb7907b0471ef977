-- A repeated Create after any run: the accepted reply is written from the record, and nothing else changes but what Recovery does.
-- Assumes nothing.
use Rattle.std.specs.Prelude.{ℕ, ◌<◌, ◌≤◌, true, List, ◌≡◌, length, get_or}
use Rattle.unit_tunnel.specs.Numbering.{places}
use Rattle.unit_plan.specs.declared.Plan.{Plan}
use Rattle.unit_sharing.specs.Sharing.{admits}
use Rattle.base_octets.specs.Every.{every}
use Rattle.base_octets.specs.BigEndian.{is_octet}
use Rattle.unit_table.specs.Change.{nobody}
use Rattle.call_control.specs.Creates.{accepted_taken}
use Rattle.call_own.specs.Outcome.{least_reply, no_places, changing}
use Rattle.wire_header.specs.Header.{header_of}
use Rattle.wire_requests.specs.declared.Create as C
use Rattle.call_store.specs.Stored.{State, stored, control_stored}
use Rattle.promise_demands.specs.Run.{Event, control, step, run, Run}
use Rattle.promise_demands.specs.Creates.{SoundCreate, NewCreate, heard, repeats, asked_u}

-- place i, as it is after Recovery, has the session that the Create repeats
unfoldable pub RepeatsAnswered : Type 0
RepeatsAnswered = (p : Plan) (s : State) (es : List Event) → Run p s es → (d : List ℕ) (c : C.Create) → SoundCreate p d c
    → (i : ℕ) → i < places → repeats c (header_of d).sequence (get_or (heard c (run es s)).table i nobody) ≡ true
    → (reply : List ℕ) → least_reply ≤ length reply
    → control_stored (run es s).node (run es s).table (run es s).store d reply
    ≡ stored (accepted_taken (header_of d).sequence i (get_or (heard c (run es s)).table i nobody) (heard c (run es s)).node (heard c (run es s)).table reply)
    (run es s).store

-- so a Create that was accepted, sent again with the same buffer lent, has the very same outcome, number, reply, and table with its store; but no
-- place has changed then
unfoldable pub AgainTheSame : Type 0
AgainTheSame = (p : Plan) (s : State) (es : List Event) → Run p s es → (d : List ℕ) (c : C.Create) → every is_octet d ≡ true → NewCreate p (run es s) d c
    → admits p (asked_u c (run es s)) c.point ≡ true → (reply : List ℕ) → least_reply ≤ length reply
    → control_stored (step (control d reply) (run es s)).node (step (control d reply) (run es s)).table (step (control d reply) (run es s)).store d reply
    ≡ stored (changing no_places (control_stored (run es s).node (run es s).table (run es s).store d reply).call) (step (control d reply) (run es s)).store
