-- The customer's three demands, each one statement. A record holds when each of its fields does: the field's name says it in short, its type
-- is the statement, in the file that the use line names.
-- Assumes nothing.
use Rattle.promise_demands.specs.Counts.{OthersRefused}
use Rattle.promise_demands.specs.Refusals.{NumbersKnown, NoEleven, TwoNever, TwoAlways, OneFirst}
use Rattle.promise_demands.specs.Leaves.{Leaves}
use Rattle.promise_demands.specs.Rests.{RestsStay}
use Rattle.promise_demands.specs.Outside.{OutsideStays}
use Rattle.promise_demands.specs.Sixteen.{SixteenThenTwo}
use Rattle.promise_demands.specs.Kept.{CallsKeep}
use Rattle.promise_demands.specs.Pairs.{PairsHold}
use Rattle.promise_demands.specs.Answers.{CreateAnswers, ModifyAnswers, DeleteAnswers, CreatesSound, ModifiesSound, ValuesAreTheirOctets}
use Rattle.promise_demands.specs.Written.{WrittenIsRead}
use Rattle.promise_demands.specs.Sent.{SentIsFound}
use Rattle.promise_demands.specs.Wellformed.{GoodIsRead}
use Rattle.promise_demands.specs.Encoded.{EncodedIsRead}
use Rattle.promise_demands.specs.Datagrams.{DatagramsTaken}
use Rattle.promise_demands.specs.Again.{AskedAgain, JudgedAnew}
use Rattle.promise_demands.specs.Repeats.{RepeatsAnswered, AgainTheSame}
use Rattle.promise_demands.specs.Resends.{ResendsWhole}
use Rattle.promise_demands.specs.Echoing.{EchoWhole}
use Rattle.promise_demands.specs.Printed.{LinesWhole}
use Rattle.promise_demands.specs.Packets.{LiveOnly}
use Rattle.promise_demands.specs.Carried.{AllCarried}
use Rattle.promise_demands.specs.Downlink.{DownlinkWhole}
use Rattle.promise_demands.specs.InTime.{FreedInTime}
use Rattle.promise_demands.specs.Ends.{SendsEnd}
use Rattle.promise_demands.specs.Ticks.{EveryTickCounts}
use Rattle.promise_demands.specs.Impossible.{NotAllRefused, NotOneReply, CountedFromRecords}
use Rattle.promise_demands.specs.Bounds.{RulesHold, NeitherTwoNorEleven, CeilingsKept, NoneShared}
use Rattle.promise_demands.specs.Hosts.{HostsRun}
use Rattle.promise_demands.specs.Uses.{AnyUsesStart}
use Rattle.promise_demands.specs.Late.{LateKeeps, RestartsFree}
use Rattle.promise_demands.specs.Share.{RefusalsJust, GuaranteesKept, FreedIsRoom}

-- 1. Every datagram, table and plan gets an answer, and the call ends; for each refusal it is fixed which number comes, and what buffer and
-- table hold. (That a call made twice on equal arguments comes to the same is said by the calls themselves, in crate promise_hosts.)
pub record Demand1 : Type 0 where
  pub numbers : NumbersKnown
  pub broken : TwoAlways
  pub sound : TwoNever
  pub counts : OthersRefused
  pub short : OneFirst
  pub leaves : Leaves
  pub rests : RestsStay
  pub outside : OutsideStays
  pub sixteen : SixteenThenTwo
  pub not_refused : NotAllRefused

-- 2. Reading and writing follow the standards: the same fields, reply octets, tunnel numbers and resends; a user packet is handed up only under
-- a live user number, as exactly the octets it carried; a downlink packet is written for a live session alone, to its peer, and reading what is
-- written gives it back
pub record Demand2 : Type 0 where
  pub hosts : HostsRun
  pub pairs : PairsHold
  pub create : CreateAnswers
  pub modify : ModifyAnswers
  pub delete : DeleteAnswers
  pub created : CreatesSound
  pub modified : ModifiesSound
  pub octets : ValuesAreTheirOctets
  pub sent : SentIsFound
  pub read : GoodIsRead
  pub encoded : EncodedIsRead
  pub datagrams : DatagramsTaken
  pub written : WrittenIsRead
  pub handed_up : LiveOnly
  pub carried : AllCarried
  pub down : DownlinkWhole
  pub apart : NoneShared
  pub repeats : RepeatsAnswered
  pub again : AgainTheSame
  pub asked : AskedAgain
  pub anew : JudgedAnew
  pub ticks : EveryTickCounts
  pub resends : ResendsWhole
  pub echoes : EchoWhole
  pub in_time : FreedInTime
  pub all_sent : SendsEnd
  pub lines : LinesWhole
  pub not_one_reply : NotOneReply

-- 3. A rented place stays rented: from any table that keeps its rules under an accepted plan, of which a fresh one is one, after any run of calls
pub record Demand3 : Type 0 where
  pub hosts : HostsRun
  pub uses : AnyUsesStart
  pub keep : CallsKeep
  pub rules : RulesHold
  pub neither : NeitherTwoNorEleven
  pub eleven : NoEleven
  pub ceilings : CeilingsKept
  pub guarantees : GuaranteesKept
  pub refusals : RefusalsJust
  pub room : FreedIsRoom
  pub late : LateKeeps
  pub restarts : RestartsFree
  pub counted : CountedFromRecords
