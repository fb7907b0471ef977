-- How the records and the store stand is found where they lie, then all of them are changed there, or none.
use Rattle.lent_own.specs.Ticks.{tick_lent}
use Rattle.lent_own.proofs.grugavorn_tick.Goals as goal

pub returns : goal.returns
returns c = tick_lent c.args.node c.args.recs.now c.change_each.new.recs c.args.store.now c.take_life.new.rows c.store_ok-sound.result c.stands-stands.result c.how_with-how.result c.tick_change-c.result c.tick_count-n.result c.aged_count-rows.result c.tick_answer.result c.store_ok-sound.ensures c.stands-stands.ensures c.how_with-how.ensures c.tick_change-c.ensures c.tick_count-n.ensures c.change_each.ensures c.aged_count-rows.ensures c.take_life.ensures c.tick_answer.ensures
