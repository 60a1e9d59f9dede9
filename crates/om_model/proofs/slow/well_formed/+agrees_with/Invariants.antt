use Rattle.std.proofs.Common.{length}
use Rattle.om_model.proofs.slow.well_formed.+agrees_with.Given as goal

abbrev pub decreases-agrees_with : goal.decreases-agrees_with
decreases-agrees_with l = length l.others.now
