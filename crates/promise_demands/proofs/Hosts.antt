-- That what specs/Hosts.antt says holds, and what that rests on.
-- Assumes nothing.
use Rattle.std.specs.Prelude.{ℕ, suc, ◌<◌, true, List, [], ◌∷◌, ◌≡◌, refl, get_or}
use Rattle.std.proofs.Common.{◌∙◌, ap, lt-ltb}
use Rattle.base_octets.specs.Every.{every}
use Rattle.base_octets.specs.BigEndian.{is_octet}
use Rattle.unit_plan.specs.declared.Plan.{Plan}
use Rattle.call_own.specs.declared.Answer.{Answer}
use Rattle.call_own.specs.Outcome.{Outcome, outcome}
use Rattle.call_user.specs.Parcel.{Parcel, parcel_of}
use Rattle.call_down.specs.Down.{Output}
use Rattle.call_store.specs.Stored.{State, fresh_state, Stored, stored, close_stored, send_stored, line_stored, fresh_stored, tick_stored, control_stored}
use Rattle.promise_demands.specs.Run.{left, Event, control, user, down, tick, send, close, line, step, answered, run, of_octets, left_beside}
use Rattle.promise_demands.specs.Run.{Start, Run}
use Rattle.promise_demands.proofs.Run.{fresh_start, fresh_left}
use Rattle.promise_demands.proofs.Stays.{run_start}
use Rattle.promise_demands.specs.Hosts.{Called, Hosted, Started, HostsRun}

-- ---- the type of a datagram: each of its octets is one, hence all
pub all_octets : (l : List ℕ) → ((i : ℕ) → get_or l i 0 < 256) → every is_octet l ≡ true
unfolding every is_octet
all_octets [] h = refl
all_octets (x ∷ l) h = rw (lt-ltb x 256 (h 0), all_octets l (λ i. h (suc i)))

-- ---- proofs
module _ (k : State) (r : Answer) (x : List ℕ) (s : k.node ≡ r.node) where
  holds-left : (o : Stored) → stored (outcome r k.table x) k.store ≡ o → k ≡ left o
  unfolding left
  holds-left o e = rw (← e, ← s)

  holds-beside : (h : State) (o : Outcome) → outcome r k.table x ≡ o → k.store ≡ h.store → k ≡ left_beside h o
  unfolding left
  holds-beside h o e w = rw (← e, ← s, ← w)

called_step : (e : Event) (h k : State) (n : ℕ) → Called e h k n → k ≡ step e h
unfolding Called step
called_step (control d reply) h k n c = holds-left k c.1 c.2 c.4.0 (control_stored h.node h.table h.store d reply) c.3
called_step (user d reply) h k n c = c.3
called_step (down packet out) h k n c = c.3
called_step tick h k n c = holds-left k c.0 [] c.2.0 (tick_stored h.node h.table h.store) c.1
called_step (send reply) h k n c = holds-beside k c.0 c.1 c.4.0 h (send_stored h.node h.table h.store reply) c.2 c.3
called_step (close place) h k n c = holds-beside k c.0 [] c.3.0 h (close_stored h.node h.table h.store place) c.1 c.2
called_step (line place reply) h k n c =
    holds-beside k c.0 c.1 c.5.0 h (line_stored h.node h.table h.store place reply) (rw c.3 c.2) c.4

called_number : (e : Event) (h k : State) (n : ℕ) → Called e h k n → n ≡ answered e h
unfolding Called answered parcel_of
called_number (control d reply) h k n c = c.4.1 ∙ ap (λ (o : Stored). o.call.answer.number) c.3
called_number (user d reply) h k n c = c.4 ∙ ap (λ (o : Parcel). o.handed.number) c.2
called_number (down packet out) h k n c = c.4 ∙ ap (λ (o : Output). o.written.number) c.2
called_number tick h k n c = c.2.1 ∙ ap (λ (o : Stored). o.call.answer.number) c.1
called_number (send reply) h k n c = c.4.1 ∙ ap (λ (o : Outcome). o.answer.number) c.2
called_number (close place) h k n c = c.3.1 ∙ ap (λ (o : Outcome). o.answer.number) c.1
called_number (line place reply) h k n c = c.5.1 ∙ ap (λ (o : Outcome). o.answer.number) c.2

hosted_run : (es : List Event) (h k : State) → Hosted es h k → k ≡ run es h
unfolding Hosted run
hosted_run [] h k c = c
hosted_run (e ∷ es) h k c = hosted_run es c.0 k c.3 ∙ ap (λ (s : State). run es s) (called_step e h c.0 c.1 c.2)

called_octets : (e : Event) (h k : State) (n : ℕ) → Called e h k n → of_octets e ≡ true
unfolding Called of_octets
called_octets (control d reply) h k n c = c.0
called_octets (user d reply) h k n c = refl
called_octets (down packet out) h k n c = refl
called_octets tick h k n c = refl
called_octets (send reply) h k n c = refl
called_octets (close place) h k n c = refl
called_octets (line place reply) h k n c = refl

hosted_octets : (es : List Event) (h k : State) → Hosted es h k → every of_octets es ≡ true
unfolding Hosted every
hosted_octets [] h k c = refl
hosted_octets (e ∷ es) h k c = rw (called_octets e h c.0 c.1 c.2, hosted_octets es c.0 k c.3)

started_is : (p : Plan) (h : State) → Started p h → h ≡ fresh_state p
unfolding Started
started_is p h s = holds-left h s.4 [] s.6 (fresh_stored p s.0 s.1) s.5 ∙ fresh_left p s.0 s.1 s.2 s.3

hosted_start : (p : Plan) (es : List Event) (h k : State) → Start p h → Hosted es h k → Run p h es × Start p k
hosted_start p es h k g c = (r, rw (hosted_run es h k c) (run_start p h es r))
  where
    r : Run p h es
    r = record { start = g; octets = hosted_octets es h k c }

pub hosts_run : HostsRun
hosts_run = record {
  holds = hosted_run;
  number = called_number;
  runs = hosted_start;
  starts = λ p h a s. let e = started_is p h s in (e, rw e (fresh_start p a));
}
