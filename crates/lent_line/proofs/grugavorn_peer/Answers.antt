-- One record is read, and says where its peer is.
use Rattle.lent_line.specs.Line.{peer_lent}
use Rattle.lent_line.proofs.grugavorn_peer.Goals as goal

pub returns : goal.returns
returns c = peer_lent c.args.recs.now c.args.place c.read-s.result c.peer_of.result c.read-s.ensures c.peer_of.ensures
