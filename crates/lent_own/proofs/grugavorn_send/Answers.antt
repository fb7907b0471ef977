-- The rules are checked where the records and the store lie, one number of each record says who is due, and the record
-- of a place that is sent is read and put back.
use Rattle.lent_own.specs.Sends.{send_lent}
use Rattle.lent_own.proofs.grugavorn_send.Goals as goal

pub returns : goal.returns
returns c = send_lent c.args.node c.args.recs.now c.put.new.recs c.args.reply.now c.send_answer.new.reply c.due_with-p.result c.place_of-place.result c.read-s.result c.sent_by-t.result c.send_answer.result c.place_of-place.ensures c.read-s.ensures c.sent_by-t.ensures c.put.ensures c.send_answer.ensures c.args.store.now c.store_ok-sound.result c.checked-checked.result c.awaiting_in-awaiting.result c.awaited-waits.result c.next_due-due.result c.store_ok-sound.ensures c.checked-checked.ensures c.awaiting_in-awaiting.ensures c.awaited-waits.ensures c.next_due-due.ensures c.due_with-p.ensures
