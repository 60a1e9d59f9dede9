use Rattle.std.proofs.Common.{◌∙◌, ◌&&◌, not, ap}
use Rattle.om_geom.specs.Fit.{has_bit}
use Rattle.om_geom.proofs.Masks.{has_bit-and, has_bit-not, has_bit-mask, mask_below}
use Rattle.om_geom.proofs.runs.clear_run.Goals as goal

pub returns : goal.returns
returns c = record {
  bits = λ i lt. rw c.run_mask.ensures (
      has_bit-and c.args.bits _ i ∙ ap (λ b. has_bit c.args.bits i && b)
      (has_bit-not _ i (mask_below c.args.first c.args.n c.requires.within) lt ∙ ap not (has_bit-mask c.args.first c.args.n i)));
}
