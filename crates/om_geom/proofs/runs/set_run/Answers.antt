use Rattle.std.proofs.Common.{◌∙◌, ◌||◌, ap}
use Rattle.om_geom.specs.Fit.{has_bit}
use Rattle.om_geom.proofs.Masks.{has_bit-or, has_bit-mask}
use Rattle.om_geom.proofs.runs.set_run.Goals as goal

pub returns : goal.returns
returns c = record { bits = λ i lt. rw c.run_mask.ensures (has_bit-or c.args.bits _ i ∙ ap (λ b. has_bit c.args.bits i || b) (has_bit-mask c.args.first c.args.n i)) }
