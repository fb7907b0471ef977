-- The rules are checked, one record is read, and the line is written from it.
use Rattle.lent_line.specs.Line.{line_lent}
use Rattle.lent_line.proofs.grugavorn_line.Goals as goal

pub returns : goal.returns
returns c = line_lent c.args.node c.args.recs.now c.args.store.now c.args.place c.args.reply.now c.line_by.new.reply c.keeps-kept.result c.read-s.result c.line_by.result c.keeps-kept.ensures c.read-s.ensures c.line_by.ensures
