-- The datagram is read, the store is asked, what is left to ask of the records is done on the two that it concerns,
-- and the store is settled.
use Rattle.lent_control.specs.Lent.{control_lent}
use Rattle.lent_control.proofs.grugavorn_control.Goals as goal

pub returns : goal.returns
returns c = control_lent c.args.node c.args.recs.now c.put_concerned.new.recs c.args.store.now c.settled-size.new.store c.args.d.now c.args.reply.now c.taken_on-o.new.reply c.settled-size.new.reply c.asked_of-asked.result c.wish_of-wish.result c.ask_of-ask.result c.concerned_lent-p.result c.taken_on-o.result c.settled-size.result c.taken_answer.result c.asked_of-asked.ensures c.ask_of-ask.ensures c.wish_of-wish.ensures c.concerned_lent-p.ensures c.taken_on-o.ensures c.taken_on-o.auto.reply c.put_concerned.ensures c.settled-size.ensures c.taken_answer.ensures
