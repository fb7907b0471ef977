use mathlib.Core.Path.{sym, ◌∙◌}
use Rattle.base_octets.specs.BigEndian.{octets_of}
use Rattle.base_octets.specs.Overlay.{length-overlay, overlay-two, overlay_full}
use Rattle.wire_messages.specs.Messages.{gpdu_of, size_gpdu}
use Rattle.wire_messages.proofs.gpdu_of.Goals as goal

pub returns-then-out-lt8 : goal.returns-then-out-lt8
unfolding gpdu_of octets_of
returns-then-out-lt8 c = let e = rw (c.octets32-teid.ensures, c.to_be_bytes-length.ensures) at c.copy_front.ensures in record {
  length = sym (size_gpdu c.args.teid c.args.packet.now);
  octets = e ∙ overlay_full _ _ _ (simp length-overlay at (rw e at c.if-out-lt8.true));
}

pub returns : goal.returns
unfolding gpdu_of octets_of
returns c = let e = rw (c.octets32-teid.ensures, c.to_be_bytes-length.ensures) at c.copy_front.ensures in record {
  length = sym (size_gpdu c.args.teid c.args.packet.now);
  octets = overlay-two _ _ _ _ _ e c.if-out-lt8.false c.copy_front-2.ensures;
}
