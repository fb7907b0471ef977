-- That what specs/Refusals.antt says holds, and what that rests on.
-- Assumes nothing.
use Rattle.std.specs.Prelude.{ℕ, refl, length}
use Rattle.std.proofs.Common.{◌∙◌, ap}
use Rattle.call_own.specs.Outcome.{no_reply}
use Rattle.call_user.specs.User.{silent}
use Rattle.call_store.specs.Stored.{stored, close_stored, send_stored, line_stored, user_stored, down_stored, fresh_stored, tick_stored, control_stored}
use Rattle.call_store.specs.Laws.{broken_long, close_broken, send_broken, line_broken, user_broken, down_shut, tick_broken, control_broken, send_short, line_short, user_shut, control_short}
use Rattle.promise_demands.specs.Numbers.{fresh_numbers, tick_numbers, close_numbers, send_numbers, control_numbers, line_numbers, FreshNumbers, TickNumbers, CloseNumbers, SendNumbers, ControlNumbers, LineNumbers}
use Rattle.promise_demands.proofs.Numbers.{among_other, fresh_numbers_lem, tick_numbers_lem, close_numbers_lem, send_numbers_lem, control_numbers_lem, line_numbers_lem}
use Rattle.promise_demands.specs.UserNumbers.{user_numbers, UserNumbers, down_numbers, DownNumbers}
use Rattle.promise_demands.proofs.UserNumbers.{user_numbers_lem, down_numbers_lem}
use Rattle.promise_demands.specs.Refusals.{NumbersKnown, NoEleven, TwoNever, TwoAlways, OneFirst}

pub numbers-known : NumbersKnown
numbers-known = record {
  fresh = fresh_numbers_lem;
  tick = tick_numbers_lem;
  close = close_numbers_lem;
  send = send_numbers_lem;
  control = control_numbers_lem;
  line = line_numbers_lem;
  user = user_numbers_lem;
  down = down_numbers_lem;
}

pub no_eleven : NoEleven
unfolding NoEleven control_numbers ControlNumbers
no_eleven node t w d reply e =
    among_other (control_stored node t w d reply).call.answer.number 11 control_numbers (control_numbers_lem node t w d reply e) refl

pub two_never : TwoNever
unfolding fresh_numbers tick_numbers close_numbers send_numbers control_numbers line_numbers user_numbers down_numbers FreshNumbers TickNumbers CloseNumbers SendNumbers ControlNumbers LineNumbers UserNumbers DownNumbers
two_never = record {
  fresh = λ plan t w n m. among_other (fresh_stored plan t w).call.answer.number 2 fresh_numbers (fresh_numbers_lem plan t w n m) refl;
  tick = λ node t w e. among_other (tick_stored node t w).call.answer.number 2 tick_numbers (tick_numbers_lem node t w e) refl;
  close = λ node t w place e. among_other (close_stored node t w place).answer.number 2 close_numbers (close_numbers_lem node t w place e) refl;
  send = λ node t w reply e. among_other (send_stored node t w reply).answer.number 2 send_numbers (send_numbers_lem node t w reply e) refl;
  control = λ node t w d reply e. among_other (control_stored node t w d reply).call.answer.number 2 control_numbers (control_numbers_lem node t w d reply e) refl;
  line = λ node t w place reply e. among_other (line_stored node t w place reply).answer.number 2 line_numbers (line_numbers_lem node t w place reply e) refl;
  user = λ node t w d reply e. among_other (user_stored node t w d reply).number 2 user_numbers (user_numbers_lem node t w d reply e) refl;
  down = λ node t w packet out e. among_other (down_stored node t w packet out).written.number 2 down_numbers (down_numbers_lem node t w packet out e) refl;
}

pub two_always : TwoAlways
two_always = record {
  tick = tick_broken;
  close = λ node t w place e. close_broken node t w e place;
  send = λ node t w reply h e. send_broken node t w e reply ∙ ap (λ (n : ℕ). no_reply n node t reply) (broken_long reply h);
  control = λ node t w d reply h e. control_broken node t w d reply e ∙ ap (λ (n : ℕ). stored (no_reply n node t reply) w) (broken_long reply h);
  line = λ node t w place reply h e. line_broken node t w e place reply ∙ ap (λ (n : ℕ). no_reply n node t reply) (broken_long reply h);
  user = λ node t w d reply h e. user_broken node t w e d reply ∙ ap (λ (n : ℕ). silent n (length d) reply) (broken_long reply h);
  down = λ node t w packet out e. down_shut node t w e packet out;
}

pub one_first : OneFirst
one_first = record { send = send_short; control = control_short; line = line_short; user = user_shut }
