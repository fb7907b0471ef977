-- Nothing that the bench prints for a line of input is cut. What a line prints is told as a text without a buffer (`line_prints`); every line lays that
-- text behind what was printed before (`line_adds`), and it is laid whole wherever there is room for a line (`line_room`, `line_whole`). The same of the
-- lines at the end (`end_whole`). The program `bench` keeps that room.
-- Assumes nothing.
use Rattle.std.specs.Prelude.{ℕ, zero, suc, ◌+◌, ◌*◌, ◌≤◌, true, false, ◌&&◌, List, [], ◌++◌, ◌≡◌, length, take, drop, replicate, eqb, leb}
use Rattle.std.proofs.Math.Path.{refl}
use Rattle.std.proofs.Common.{ap, ◌∙◌, arith, length-append, length-take, length-drop}
use Rattle.std.proofs.lemmas.List.{length-replicate}
use Rattle.base_octets.specs.Choice.{pick, split}
use Rattle.base_octets.specs.BigEndian.{octets_of, length_octets}
use Rattle.unit_session.specs.declared.Session.{Session}
use Rattle.unit_table.specs.declared.Node.{Node}
use Rattle.call_own.specs.Outcome.{Outcome, least_reply}
use Rattle.call_user.specs.User.{Took}
use Rattle.call_down.specs.Down.{Output}
use Rattle.call_store.specs.Stored.{Stored, stored, close_stored, send_stored, user_stored, down_stored, fresh_stored, tick_stored, control_stored}
use Rattle.bench_text.specs.declared.Line.{Line}
use Rattle.bench_text.specs.declared.Line.TheVariants as L
use Rattle.bench_text.specs.Lines.{Told, line_read, datagram_most}
use Rattle.bench_text.specs.Prints.{answer_text, due_text, bad_text}
use Rattle.bench_text.specs.Sizes.{answer_most, packet_most, due_most, bad_most, line_read_length}
use Rattle.bench_unit.specs.declared.Phase.{Phase}
use Rattle.bench_unit.specs.declared.Phase.TheVariants as P
use Rattle.bench_unit.specs.declared.Bench.{Bench}
use Rattle.bench_unit.specs.State.{Ran, is_over, lent_reply, with_line, with_made, kept_in, printed, answered_shown, unit_shown}
use Rattle.bench_unit.specs.Plans.{first_line, one_more, plan_taken, start_line}
use Rattle.bench_unit.specs.Ended.{end_of_input}
use Rattle.bench_unit.specs.Whole.{Adds, adds_none, adds_on, adds_printed, adds_within, adds_whole, plan_prints, end_prints, bad_adds, plan_adds, plan_phase, plan_node, plan_table, plan_store, plan_lines, plan_most, place_room, end_adds, end_most}
use Rattle.bench_run.specs.Run.{send_try, has_due, sent_shown, one_sent, sent_times, all_sent, then_sent, control_run, tick_run, close_run, user_text, user_shown, user_run, down_text, down_shown, gpdu_most, lent_output, down_run}
use Rattle.bench_run.specs.Taken.{run_line, is_point, point_line, left, leave_plan, plan_line, lent_octets, taken_by, told_taken, line_taken}
use Rattle.bench_run.specs.Replies.{control_length, user_length, output-length, tick_length, close_length, sent_most}
use Rattle.unit_tunnel.specs.Numbering.{places}

-- ---- the texts
-- number and reply
unfoldable pub unit_prints : Outcome → List ℕ
unit_prints x = answer_text x.answer.number (take x.answer.size x.reply)

-- all that is due, so many at most
unfoldable pub sends_print : ℕ → Node → List Session → List (List ℕ) → List ℕ
sends_print zero node t w = []
sends_print (suc k) node t w =
    pick (eqb (send_stored node t w lent_reply).answer.number 0)
    (due_text (take (send_stored node t w lent_reply).answer.size (send_stored node t w lent_reply).reply)
    ++ sends_print k (send_stored node t w lent_reply).answer.node (send_stored node t w lent_reply).table w)
    []

unfoldable pub then_prints : Stored → List ℕ
then_prints x = unit_prints x.call ++ sends_print (places + 1) x.call.answer.node x.call.table x.store

unfoldable pub took_prints : Took → List ℕ → List ℕ
took_prints x d = user_text x.number x.size x.reply (drop x.start d)

unfoldable pub output_prints : Output → List ℕ
output_prints x = down_text x.written.number x.written.size x.buffer x.written.peer

-- once the plan is taken, of a line of this number
unfoldable pub call_prints : Line → List ℕ → ℕ → Node → List Session → List (List ℕ) → List ℕ
call_prints (L.Control size) octets lines node t w = unit_prints (control_stored node t w (take size octets) lent_reply).call
call_prints (L.User size) octets lines node t w = took_prints (user_stored node t w (take size octets) lent_reply) (take size octets)
call_prints (L.Down size) octets lines node t w = output_prints (down_stored node t w (take size octets) lent_output)
call_prints L.Tick octets lines node t w = then_prints (tick_stored node t w)
call_prints (L.Close place) octets lines node t w = then_prints (stored (close_stored node t w place) w)
call_prints (L.Node control user pool recovery resend sends interval) octets lines node t w = bad_text lines
call_prints (L.Point guarantee ceiling size) octets lines node t w = bad_text lines
call_prints L.BadPoint octets lines node t w = bad_text lines
call_prints L.Bad octets lines node t w = bad_text lines

-- the plan is taken first
unfoldable pub leave_prints : Line → List ℕ → Bench → List Session → List (List ℕ) → List ℕ
leave_prints line octets b t w =
    pick (is_over (plan_taken b t w []).bench.phase) (plan_prints (fresh_stored b.node.plan t w).call.answer)
    (plan_prints (fresh_stored b.node.plan t w).call.answer ++ call_prints line octets b.lines (plan_taken b t w []).bench.node (plan_taken b t w []).table (plan_taken b t w []).store)

-- the first line
unfoldable pub start_prints : Line → ℕ → List ℕ
start_prints (L.Node control user pool recovery resend sends interval) lines = []
start_prints (L.Point guarantee ceiling size) lines = bad_text lines
start_prints (L.Control size) lines = bad_text lines
start_prints (L.User size) lines = bad_text lines
start_prints (L.Down size) lines = bad_text lines
start_prints L.Tick lines = bad_text lines
start_prints (L.Close place) lines = bad_text lines
start_prints L.BadPoint lines = bad_text lines
start_prints L.Bad lines = bad_text lines

-- one of an access point, where there are so many
unfoldable pub point_prints : Line → ℕ → ℕ → List ℕ
point_prints (L.Point guarantee ceiling size) count lines = pick (leb 4 count) (bad_text lines) []
point_prints (L.Node control user pool recovery resend sends interval) count lines = bad_text lines
point_prints (L.Control size) count lines = bad_text lines
point_prints (L.User size) count lines = bad_text lines
point_prints (L.Down size) count lines = bad_text lines
point_prints L.Tick count lines = bad_text lines
point_prints (L.Close place) count lines = bad_text lines
point_prints L.BadPoint count lines = bad_text lines
point_prints L.Bad count lines = bad_text lines

unfoldable pub plan_line_prints : Line → List ℕ → Bench → List Session → List (List ℕ) → List ℕ
plan_line_prints line octets b t w = pick (is_point line) (point_prints line b.node.plan.count b.lines) (leave_prints line octets b t w)

unfoldable pub told_prints_by : Phase → Told → Bench → List Session → List (List ℕ) → List ℕ
told_prints_by P.First x b t w = start_prints x.line (with_line b).lines
told_prints_by P.Plan x b t w = plan_line_prints x.line x.octets (with_line b) t w
told_prints_by P.Runs x b t w = call_prints x.line x.octets (with_line b).lines b.node t w
told_prints_by P.Over x b t w = []

unfoldable pub told_prints : Told → Bench → List Session → List (List ℕ) → List ℕ
told_prints x b t w = told_prints_by b.phase x b t w

unfoldable pub line_prints : List ℕ → Bench → List Session → List (List ℕ) → List ℕ
line_prints text b t w = told_prints (line_read text lent_octets) b t w

-- ---- each line prints its text
unit_adds : (x : Stored) (b : Bench) (out : List ℕ) → Adds (unit_prints x.call) b.made out (unit_shown x b out).bench.made (unit_shown x b out).out
unfolding unit_prints unit_shown answered_shown kept_in
unit_adds x b out = adds_printed _ _ b.made out (λ k. refl)

module _ (b : Bench) (t : List Session) (w : List (List ℕ)) (out : List ℕ) where
  sent_due : eqb (send_stored b.node t w lent_reply).answer.number 0 ≡ true
      → Adds (due_text (take (send_stored b.node t w lent_reply).answer.size (send_stored b.node t w lent_reply).reply)) b.made out
      (one_sent b t w out).bench.made (one_sent b t w out).out
  unfolding one_sent sent_shown send_try kept_in
  sent_due e = rw e (adds_printed _ _ b.made out (λ k. refl))

  sent_node : eqb (send_stored b.node t w lent_reply).answer.number 0 ≡ true → (one_sent b t w out).bench.node ≡ (send_stored b.node t w lent_reply).answer.node
  unfolding one_sent sent_shown send_try kept_in printed
  sent_node e = rw e

  sent_table : (one_sent b t w out).table ≡ (send_stored b.node t w lent_reply).table
  unfolding one_sent send_try
  sent_table = refl

  sent_nothing : b.made ≤ length out → eqb (send_stored b.node t w lent_reply).answer.number 0 ≡ false
      → Adds [] b.made out (one_sent b t w out).bench.made (one_sent b t w out).out
  unfolding one_sent sent_shown send_try
  sent_nothing h e = rw e (adds_none b.made out h)

sends_add : (k : ℕ) (x : Ran) → x.bench.made ≤ length x.out
    → Adds (sends_print k x.bench.node x.table x.store) x.bench.made x.out (sent_times k x).bench.made (sent_times k x).out
unfolding sends_print sent_times has_due send_try one_sent
sends_add zero x h = adds_none _ _ h
sends_add (suc k) x h =
    split (eqb (send_stored x.bench.node x.table x.store lent_reply).answer.number 0)
    (λ e.
    let d = sent_due x.bench x.table x.store x.out e in
    let r = sends_add k (one_sent x.bench x.table x.store x.out) (adds_within _ _ _ _ _ d) in
    rw (e, ← sent_node x.bench x.table x.store x.out e, ← sent_table x.bench x.table x.store x.out) (adds_on _ _ _ _ _ _ _ _ d r))
    (λ e. rw e (sent_nothing x.bench x.table x.store x.out h e))

then_adds : (x : Stored) (b : Bench) (out : List ℕ)
    → Adds (then_prints x) b.made out (then_sent (unit_shown x b out)).bench.made (then_sent (unit_shown x b out)).out
unfolding then_prints then_sent all_sent unit_prints unit_shown answered_shown printed kept_in
then_adds x b out =
    let u = unit_adds x b out in
    let s = sends_add (places + 1) (unit_shown x b out) (adds_within _ _ _ _ _ u) in
    adds_on _ _ _ _ _ _ _ _ u s

user_adds : (d : List ℕ) (b : Bench) (t : List Session) (w : List (List ℕ)) (out : List ℕ)
    → Adds (took_prints (user_stored b.node t w d lent_reply) d) b.made out (user_run d b t w out).bench.made (user_run d b t w out).out
unfolding took_prints user_run user_shown with_made
user_adds d b t w out = adds_printed _ _ b.made out (λ k. refl)

down_adds : (packet : List ℕ) (b : Bench) (t : List Session) (w : List (List ℕ)) (out : List ℕ)
    → Adds (output_prints (down_stored b.node t w packet lent_output)) b.made out (down_run packet b t w out).bench.made (down_run packet b t w out).out
unfolding output_prints down_run down_shown with_made
down_adds packet b t w out = adds_printed _ _ b.made out (λ k. refl)

call_adds : (line : Line) (octets : List ℕ) (b : Bench) (t : List Session) (w : List (List ℕ)) (out : List ℕ)
    → Adds (call_prints line octets b.lines b.node t w) b.made out (run_line line octets b t w out).bench.made (run_line line octets b t w out).out
unfolding call_prints run_line control_run tick_run close_run
call_adds (L.Control size) octets b t w out = unit_adds _ b out
call_adds (L.User size) octets b t w out = user_adds (take size octets) b t w out
call_adds (L.Down size) octets b t w out = down_adds (take size octets) b t w out
call_adds L.Tick octets b t w out = then_adds _ b out
call_adds (L.Close place) octets b t w out = then_adds _ b out
call_adds (L.Node control user pool recovery resend sends interval) octets b t w out = bad_adds b out
call_adds (L.Point guarantee ceiling size) octets b t w out = bad_adds b out
call_adds L.BadPoint octets b t w out = bad_adds b out
call_adds L.Bad octets b t w out = bad_adds b out

call_lines : (line : Line) (octets : List ℕ) (lines : ℕ) (b : Bench) (t : List Session) (w : List (List ℕ)) (out : List ℕ) → b.lines ≡ lines
    → Adds (call_prints line octets lines b.node t w) b.made out (run_line line octets b t w out).bench.made (run_line line octets b t w out).out
call_lines line octets lines b t w out e = rw (← e) (call_adds line octets b t w out)

leave_adds : (line : Line) (octets : List ℕ) (b : Bench) (t : List Session) (w : List (List ℕ)) (out : List ℕ) → b.made ≤ length out
    → Adds (leave_prints line octets b t w) b.made out (leave_plan line octets b t w out).bench.made (leave_plan line octets b t w out).out
unfolding leave_prints leave_plan left
leave_adds line octets b t w out h =
    rw (plan_phase b t w out h) (split (is_over (plan_taken b t w []).bench.phase)
    (λ e. rw e (plan_adds b t w out h))
    (λ e. rw (e, ← plan_node b t w out h, ← plan_table b t w out h, ← plan_store b t w out h)
    (adds_on _ _ _ _ _ _ _ _ (plan_adds b t w out h)
    (call_lines line octets b.lines (plan_taken b t w out).bench (plan_taken b t w out).table (plan_taken b t w out).store (plan_taken b t w out).out (plan_lines b t w out h)))))

start_adds : (line : Line) (b : Bench) (out : List ℕ) → b.made ≤ length out
    → Adds (start_prints line b.lines) b.made out (start_line line b out).bench.made (start_line line b out).out
unfolding start_prints start_line first_line
start_adds (L.Node control user pool recovery resend sends interval) b out h = adds_none b.made out h
start_adds (L.Point guarantee ceiling size) b out h = bad_adds b out
start_adds (L.Control size) b out h = bad_adds b out
start_adds (L.User size) b out h = bad_adds b out
start_adds (L.Down size) b out h = bad_adds b out
start_adds L.Tick b out h = bad_adds b out
start_adds (L.Close place) b out h = bad_adds b out
start_adds L.BadPoint b out h = bad_adds b out
start_adds L.Bad b out h = bad_adds b out

point_adds : (line : Line) (octets : List ℕ) (b : Bench) (out : List ℕ) → b.made ≤ length out
    → Adds (point_prints line b.node.plan.count b.lines) b.made out (point_line line octets b out).bench.made (point_line line octets b out).out
unfolding point_prints point_line one_more
point_adds (L.Point guarantee ceiling size) octets b out h =
    split (leb 4 b.node.plan.count) (λ e. rw e (bad_adds b out)) (λ e. rw e (adds_none b.made out h))
point_adds (L.Node control user pool recovery resend sends interval) octets b out h = bad_adds b out
point_adds (L.Control size) octets b out h = bad_adds b out
point_adds (L.User size) octets b out h = bad_adds b out
point_adds (L.Down size) octets b out h = bad_adds b out
point_adds L.Tick octets b out h = bad_adds b out
point_adds (L.Close place) octets b out h = bad_adds b out
point_adds L.BadPoint octets b out h = bad_adds b out
point_adds L.Bad octets b out h = bad_adds b out

plan_line_adds : (line : Line) (octets : List ℕ) (b : Bench) (t : List Session) (w : List (List ℕ)) (out : List ℕ) → b.made ≤ length out
    → Adds (plan_line_prints line octets b t w) b.made out (plan_line line octets b t w out).bench.made (plan_line line octets b t w out).out
unfolding plan_line_prints plan_line
plan_line_adds line octets b t w out h =
    split (is_point line) (λ e. rw e (point_adds line octets b out h)) (λ e. rw e (leave_adds line octets b t w out h))

told_adds : (p : Phase) (x : Told) (b : Bench) (t : List Session) (w : List (List ℕ)) (out : List ℕ) → b.made ≤ length out
    → Adds (told_prints_by p x b t w) b.made out (taken_by p x b t w out).bench.made (taken_by p x b t w out).out
unfolding told_prints_by taken_by with_line
told_adds P.First x b t w out h = start_adds x.line (with_line b) out h
told_adds P.Plan x b t w out h = plan_line_adds x.line x.octets (with_line b) t w out h
told_adds P.Runs x b t w out h = call_adds x.line x.octets (with_line b) t w out
told_adds P.Over x b t w out h = adds_none b.made out h

pub line_adds : (text : List ℕ) (b : Bench) (t : List Session) (w : List (List ℕ)) (out : List ℕ) → b.made ≤ length out
    → Adds (line_prints text b t w) b.made out (line_taken text b t w out).bench.made (line_taken text b t w out).out
unfolding line_prints line_taken told_prints told_taken
line_adds text b t w out h = told_adds b.phase (line_read text lent_octets) b t w out h

-- ---- how long the texts are
part_most : (n : ℕ) (l : List ℕ) → length (take n l) ≤ length l
part_most n l = simp length-take (omega arith)

rest_most : (n : ℕ) (l : List ℕ) → length (drop n l) ≤ length l
rest_most n l = simp length-drop (omega arith)

lent_most : length lent_reply ≡ least_reply
unfolding lent_reply least_reply
lent_most = refl

unit_most : (x : Outcome) (n : ℕ) → length x.reply ≡ n → length (unit_prints x) ≤ 2 * n + 23
unfolding unit_prints
unit_most x n h =
    let a = answer_most x.answer.number (take x.answer.size x.reply) in
    let b = part_most x.answer.size x.reply in
    omega arith

-- a datagram that is due is 17 octets at most: 38 characters
sends_most : (k : ℕ) (node : Node) (t : List Session) (w : List (List ℕ)) → length (sends_print k node t w) ≤ 38 * k
unfolding sends_print
sends_most zero node t w = omega arith
sends_most (suc k) node t w =
    let a = due_most (take (send_stored node t w lent_reply).answer.size (send_stored node t w lent_reply).reply) in
    let s = sent_most node t w lent_reply in
    let r = sends_most k (send_stored node t w lent_reply).answer.node (send_stored node t w lent_reply).table w in
    split (eqb (send_stored node t w lent_reply).answer.number 0) (λ e. rw e (simp length-append (omega arith))) (λ e. rw e (omega arith))

then_most : (x : Stored) → length x.call.reply ≡ 0 → length (then_prints x) ≤ 61 + 38 * places
unfolding then_prints
then_most x h =
    let a = unit_most x.call 0 h in
    let b = sends_most (places + 1) x.call.answer.node x.call.table x.store in
    simp length-append (omega arith)

took_most : (x : Took) (d : List ℕ) → length x.reply ≡ least_reply → length d ≤ 2048 → length (took_prints x d) ≤ 4377
unfolding took_prints user_text least_reply
took_most x d h k =
    let a = answer_most x.number (take x.size x.reply) in
    let b = packet_most x.number (take x.size x.reply) (drop x.start d) in
    let p = part_most x.size x.reply in
    let q = rest_most x.start d in
    split (eqb x.number 0 && eqb x.size 0) (λ e. rw e (omega arith)) (λ e. rw e (omega arith))

lent_output_lem : length lent_output ≡ gpdu_most
unfolding lent_output
lent_output_lem = length-replicate {A = ℕ} gpdu_most 0

-- 2,056 octets and an address
output_most : (x : Output) → length x.buffer ≡ gpdu_most → length (output_prints x) ≤ 4145
unfolding output_prints down_text gpdu_most datagram_most
output_most x h =
    let a = answer_most x.written.number (take x.written.size x.buffer) in
    let b = packet_most x.written.number (take x.written.size x.buffer) (octets_of 4 x.written.peer) in
    let p = part_most x.written.size x.buffer in
    let q = length_octets 4 x.written.peer in
    split (eqb x.written.number 0) (λ e. rw e (omega arith)) (λ e. rw e (omega arith))

call_most : (line : Line) (octets : List ℕ) (lines : ℕ) (node : Node) (t : List Session) (w : List (List ℕ)) → length octets ≡ 2048
    → length (call_prints line octets lines node t w) ≤ 4377 + 38 * places
unfolding call_prints least_reply
call_most (L.Control size) octets lines node t w h =
    let l = lent_most in
    let c = unit_most (control_stored node t w (take size octets) lent_reply).call least_reply (control_length node t lent_reply w (take size octets) ∙ lent_most) in
    omega arith
call_most (L.User size) octets lines node t w h =
    let l = lent_most in
    let p = part_most size octets in
    let u = took_most (user_stored node t w (take size octets) lent_reply) (take size octets) (user_length node t lent_reply w (take size octets) ∙ lent_most) (omega arith) in
    omega arith
call_most (L.Down size) octets lines node t w h =
    let o = output_most (down_stored node t w (take size octets) lent_output) (output-length node t w (take size octets) lent_output ∙ lent_output_lem) in
    omega arith
call_most L.Tick octets lines node t w h = let k = then_most (tick_stored node t w) (tick_length node t w) in omega arith
call_most (L.Close place) octets lines node t w h =
    let x = then_most (stored (close_stored node t w place) w) (close_length node t w place) in omega arith
call_most (L.Node control user pool recovery resend sends interval) octets lines node t w h = let b = bad_most lines in omega arith
call_most (L.Point guarantee ceiling size) octets lines node t w h = let b = bad_most lines in omega arith
call_most L.BadPoint octets lines node t w h = let b = bad_most lines in omega arith
call_most L.Bad octets lines node t w h = let b = bad_most lines in omega arith

leave_most : (line : Line) (octets : List ℕ) (b : Bench) (t : List Session) (w : List (List ℕ)) → length octets ≡ 2048
    → length (leave_prints line octets b t w) ≤ 4400 + 38 * places
unfolding leave_prints
leave_most line octets b t w h =
    let p = plan_most (fresh_stored b.node.plan t w).call.answer in
    let a = call_most line octets b.lines (plan_taken b t w []).bench.node (plan_taken b t w []).table (plan_taken b t w []).store h in
    split (is_over (plan_taken b t w []).bench.phase) (λ e. rw e (omega arith)) (λ e. rw e (simp length-append (omega arith)))

start_most : (line : Line) (lines : ℕ) → length (start_prints line lines) ≤ 23
unfolding start_prints
start_most (L.Node control user pool recovery resend sends interval) lines = omega arith
start_most (L.Point guarantee ceiling size) lines = bad_most lines
start_most (L.Control size) lines = bad_most lines
start_most (L.User size) lines = bad_most lines
start_most (L.Down size) lines = bad_most lines
start_most L.Tick lines = bad_most lines
start_most (L.Close place) lines = bad_most lines
start_most L.BadPoint lines = bad_most lines
start_most L.Bad lines = bad_most lines

point_most : (line : Line) (count lines : ℕ) → length (point_prints line count lines) ≤ 23
unfolding point_prints
point_most (L.Point guarantee ceiling size) count lines =
    let b = bad_most lines in
    split (leb 4 count) (λ e. rw e (omega arith)) (λ e. rw e (omega arith))
point_most (L.Node control user pool recovery resend sends interval) count lines = bad_most lines
point_most (L.Control size) count lines = bad_most lines
point_most (L.User size) count lines = bad_most lines
point_most (L.Down size) count lines = bad_most lines
point_most L.Tick count lines = bad_most lines
point_most (L.Close place) count lines = bad_most lines
point_most L.BadPoint count lines = bad_most lines
point_most L.Bad count lines = bad_most lines

octets_length : (text : List ℕ) → length (line_read text lent_octets).octets ≡ 2048
unfolding lent_octets
octets_length text = line_read_length text (replicate 2048 0) ∙ length-replicate {A = ℕ} 2048 0

told_most : (p : Phase) (x : Told) (b : Bench) (t : List Session) (w : List (List ℕ)) → length x.octets ≡ 2048
    → length (told_prints_by p x b t w) ≤ 4400 + 38 * places
unfolding told_prints_by plan_line_prints
told_most P.First x b t w o = let s = start_most x.line (with_line b).lines in omega arith
told_most P.Plan x b t w o =
    let l = leave_most x.line x.octets (with_line b) t w o in
    let k = point_most x.line (with_line b).node.plan.count (with_line b).lines in
    split (is_point x.line) (λ g. rw g (omega arith)) (λ g. rw g (omega arith))
told_most P.Runs x b t w o = let a = call_most x.line x.octets (with_line b).lines b.node t w o in omega arith
told_most P.Over x b t w o = omega arith

pub line_most : (text : List ℕ) (b : Bench) (t : List Session) (w : List (List ℕ)) → length (line_prints text b t w) ≤ 4400 + 38 * places
unfolding line_prints told_prints
line_most text b t w = told_most b.phase (line_read text lent_octets) b t w (octets_length text)

-- the first line of a run
pub first_most : (text : List ℕ) (b : Bench) (t : List Session) (w : List (List ℕ)) → b.phase ≡ P.First → length (line_prints text b t w) ≤ 23
unfolding line_prints told_prints told_prints_by
first_most text b t w h =
    let s = start_most (line_read text lent_octets).line (with_line b).lines in
    let e = ap (λ (q : Phase). length (told_prints_by q (line_read text lent_octets) b t w)) h in
    omega arith

-- ---- with room for a line nothing is cut: the text stands whole behind what was printed before, and the rest of the buffer is as it was
-- for what one line prints, and for the places at the end of a run before it
unfoldable pub line_room : ℕ
line_room = 4400 + place_room * places

pub line_whole : (text : List ℕ) (b : Bench) (t : List Session) (w : List (List ℕ)) (out : List ℕ) → b.made + line_room ≤ length out
    → ((line_taken text b t w out).bench.made ≡ b.made + length (line_prints text b t w))
    × ((line_taken text b t w out).out ≡ take b.made out ++ (line_prints text b t w ++ drop (b.made + length (line_prints text b t w)) out))
unfolding line_room place_room least_reply
line_whole text b t w out h =
    let m = line_most text b t w in
    adds_whole _ _ _ _ _ (line_adds text b t w out (omega arith)) (omega arith)

pub end_whole : (b : Bench) (t : List Session) (w : List (List ℕ)) (out : List ℕ) → b.made + line_room ≤ length out
    → ((end_of_input b t w out).bench.made ≡ b.made + length (end_prints b t w))
    × ((end_of_input b t w out).out ≡ take b.made out ++ (end_prints b t w ++ drop (b.made + length (end_prints b t w)) out))
unfolding line_room place_room least_reply
end_whole b t w out h =
    let m = end_most b t w in
    adds_whole _ _ _ _ _ (end_adds b t w out (omega arith)) (omega arith)
