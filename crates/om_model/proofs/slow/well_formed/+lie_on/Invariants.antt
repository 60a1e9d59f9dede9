use Rattle.std.proofs.Common.{length}
use Rattle.om_model.proofs.slow.well_formed.+lie_on.Given as goal

abbrev pub decreases-lie_on : goal.decreases-lie_on
decreases-lie_on l = length l.used.now
