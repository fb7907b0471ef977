-- That what specs/Demands.antt says holds, and what that rests on.
-- Assumes nothing.
use Rattle.promise_demands.proofs.Counts.{others_refused}
use Rattle.promise_demands.proofs.Refusals.{numbers-known, no_eleven, two_never, two_always, one_first}
use Rattle.promise_demands.proofs.Leaves.{all_leave}
use Rattle.promise_demands.proofs.Rests.{rests_stay}
use Rattle.promise_demands.proofs.Outside.{outside_stays}
use Rattle.promise_demands.proofs.Sixteen.{sixteen_then_two}
use Rattle.promise_demands.proofs.Kept.{calls_keep}
use Rattle.promise_demands.proofs.Pairs.{pairs_hold}
use Rattle.promise_demands.proofs.Answers.{create-answers, modify_answers, delete_answers, creates_sound, modifies_sound, values_are_their_octets}
use Rattle.promise_demands.proofs.Written.{written_is_read}
use Rattle.promise_demands.proofs.Sent.{sent_is_found}
use Rattle.promise_demands.proofs.Wellformed.{good_is_read}
use Rattle.promise_demands.proofs.Encoded.{encoded_is_read}
use Rattle.promise_demands.proofs.Datagrams.{datagrams_taken}
use Rattle.promise_demands.proofs.Again.{asked_again, judged_anew}
use Rattle.promise_demands.proofs.Repeats.{repeats-answered, again_the_same}
use Rattle.promise_demands.proofs.Resends.{resends_whole}
use Rattle.promise_demands.proofs.Echoing.{echo_whole}
use Rattle.promise_demands.proofs.Printed.{lines_whole}
use Rattle.promise_demands.proofs.Packets.{live_only}
use Rattle.promise_demands.proofs.Carried.{all_carried}
use Rattle.promise_demands.proofs.Downlink.{downlink_whole}
use Rattle.promise_demands.proofs.InTime.{freed_in_time}
use Rattle.promise_demands.proofs.Ends.{sends_end}
use Rattle.promise_demands.proofs.Ticks.{every_tick_counts}
use Rattle.promise_demands.proofs.Impossible.{not_all_refused, not_one_reply_lem, counted_from_records}
use Rattle.promise_demands.proofs.Bounds.{rules_hold, neither_two_nor_eleven, ceilings_kept, none_shared}
use Rattle.promise_demands.proofs.Hosts.{hosts_run}
use Rattle.promise_demands.proofs.Uses.{any_uses_start}
use Rattle.promise_demands.proofs.Late.{late_keeps, restarts_free}
use Rattle.promise_demands.proofs.Share.{refusals_just, guarantees_kept, freed_is_room}
use Rattle.promise_demands.specs.Demands.{Demand1, Demand2, Demand3}

-- ---- that they hold
pub demand_1 : Demand1
demand_1 = record {
  numbers = numbers-known;
  broken = two_always;
  sound = two_never;
  counts = others_refused;
  short = one_first;
  leaves = all_leave;
  rests = rests_stay;
  outside = outside_stays;
  sixteen = sixteen_then_two;
  not_refused = not_all_refused;
}

pub demand_2 : Demand2
demand_2 = record {
  hosts = hosts_run;
  pairs = pairs_hold;
  create = create-answers;
  modify = modify_answers;
  delete = delete_answers;
  created = creates_sound;
  modified = modifies_sound;
  octets = values_are_their_octets;
  sent = sent_is_found;
  read = good_is_read;
  encoded = encoded_is_read;
  datagrams = datagrams_taken;
  written = written_is_read;
  handed_up = live_only;
  carried = all_carried;
  down = downlink_whole;
  apart = none_shared;
  repeats = repeats-answered;
  again = again_the_same;
  asked = asked_again;
  anew = judged_anew;
  ticks = every_tick_counts;
  resends = resends_whole;
  echoes = echo_whole;
  in_time = freed_in_time;
  all_sent = sends_end;
  lines = lines_whole;
  not_one_reply = not_one_reply_lem;
}

pub demand_3 : Demand3
demand_3 = record {
  hosts = hosts_run;
  uses = any_uses_start;
  keep = calls_keep;
  rules = rules_hold;
  neither = neither_two_nor_eleven;
  eleven = no_eleven;
  ceilings = ceilings_kept;
  guarantees = guarantees_kept;
  refusals = refusals_just;
  room = freed_is_room;
  late = late_keeps;
  restarts = restarts_free;
  counted = counted_from_records;
}
