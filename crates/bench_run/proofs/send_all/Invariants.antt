use Rattle.std.proofs.Common.{◌≡◌, ◌+◌, ◌-◌}
use Rattle.unit_tunnel.specs.Numbering.{places}
use Rattle.bench_unit.specs.State.{ran_of, on, SameLent}
use Rattle.bench_run.specs.Run.{all_sent, sent_times}
use Rattle.bench_run.proofs.send_all.Given as goal

-- As many more are to be tried as are left.
abbrev pub invariant-loop : goal.invariant-loop
invariant-loop l = let r = l.fn.run in record {
  sent : on all_sent r ≡ sent_times (places + 1 - l.counter) (ran_of l.run);
  lent : SameLent r l.run;
}
