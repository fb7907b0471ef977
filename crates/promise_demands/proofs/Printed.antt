-- That what specs/Printed.antt says holds, and what that rests on.
-- Assumes nothing.
use Rattle.std.specs.Prelude.{◌<◌, ◌≤◌, ◌^◌, false, ◌&&◌, ◌≡◌, length}
use Rattle.std.proofs.Math.Bool.{true}
use native.Mathlib.Omega.{arith}
use Rattle.std.proofs.Math.Dec.{eqb, leb, ltb}
use borrow.Author.Tests.{eqb-true, ltb-true, leb-true, lt-ltb, le-ltb}
use Rattle.base_octets.specs.Choice.{split, and_left, and_right}
use Rattle.unit_tunnel.specs.Numbering.{last_use, teids}
use Rattle.unit_plan.specs.Plan.{parties_four}
use Rattle.unit_session.specs.declared.Session.{Session}
use Rattle.unit_session.specs.declared.Bounds.{Bounds}
use Rattle.unit_session.specs.Session.{is_free, blank, held_ok, read_ok, record_ok, imsis, last_created}
use Rattle.unit_session.specs.Keep.{live_of, ok_usage}
use Rattle.unit_table.specs.Rules.{bounds_of, rules_of}
use Rattle.unit_table.specs.Change.{record_ok_lem}
use Rattle.call_own.specs.Outcome.{least_reply}
use Rattle.call_line.specs.Line.{line_by, line_of, line_fits}
use Rattle.call_store.specs.Laws.{line_sound}
use Rattle.promise_demands.proofs.Run.{kept_table, kept_store}
use Rattle.promise_demands.specs.Bounds.{at}
use Rattle.promise_demands.specs.Printed.{LinesWhole}

-- ---- proofs
-- what of a record the line's length rests on
record Small (x : Session) : Type 0 where
  imsi : x.imsi < 10 ^ 15
  point : x.point < 10 ^ 1
  ebi : x.ebi < 10 ^ 2
  created : x.created < 10 ^ 8

module _ (b : Bounds) (few : b.parties ≤ 4) (x : Session) (ok : record_ok b x ≡ true) where
  small_free : is_free x ≡ true → Small x
  unfolding record_ok blank
  small_free f =
      let v : (leb x.usage last_use && blank x) ≡ true = rw f at ok in
      let i : eqb x.imsi 0 ≡ true = search (and_left, and_right) depth 14 in
      let p : eqb x.point 0 ≡ true = search (and_left, and_right) depth 14 in
      let e : eqb x.ebi 0 ≡ true = search (and_left, and_right) depth 14 in
      let c : eqb x.created 0 ≡ true = search (and_left, and_right) depth 14 in
      let i' = eqb-true x.imsi 0 i in
      let p' = eqb-true x.point 0 p in
      let e' = eqb-true x.ebi 0 e in
      let c' = eqb-true x.created 0 c in
      record { imsi = omega arith; point = omega arith; ebi = omega arith; created = omega arith }

  small_live : is_free x ≡ false → Small x
  unfolding held_ok read_ok imsis last_created
  small_live f =
      let v = (live_of b x ok f).held in
      let i : ltb x.imsi 1000000000000000 ≡ true = search (and_left, and_right) depth 9 in
      let p : ltb x.point b.parties ≡ true = search (and_left, and_right) depth 9 in
      let e : leb x.ebi 15 ≡ true = search (and_left, and_right) depth 9 in
      let c : leb x.created last_created ≡ true = search (and_left, and_right) depth 9 in
      let i' = ltb-true x.imsi 1000000000000000 i in
      let p' = ltb-true x.point b.parties p in
      let e' = leb-true x.ebi 15 e in
      let c' = leb-true x.created last_created c in
      record { imsi = omega arith; point = omega arith; ebi = omega arith; created = omega arith }

  small : Small x
  small = split (is_free x) small_free small_live

pub lines_whole : LinesWhole
unfolding LinesWhole line_of line_by least_reply bounds_of last_use teids
lines_whole s k i h control user reply room =
    let r = rules_of s.node s.table (kept_table s k) in
    let ok = record_ok_lem s.node.plan s.node.echo s.node.next s.table r i in
    let m = small (bounds_of s.node.plan) (let f = parties_four s.node.plan r.planned in omega arith) (at s i) ok in
    let z = r.size in
    let g = ok_usage (bounds_of s.node.plan) (at s i) ok in
    rw (
      line_sound s.node s.table s.store (kept_store s k) i reply,
      le-ltb (length reply) least_reply room,
      kept_table s k,
      lt-ltb i (length s.table) (omega arith),
      line_fits (at s i) m.imsi m.point m.ebi (omega arith) (omega arith) m.created (omega arith) i reply h room,
    )
