use Rattle.std.proofs.Common.{length}
use Rattle.om_model.proofs.slow.well_formed.+begin_right.Given as goal

abbrev pub decreases-begin_right : goal.decreases-begin_right
decreases-begin_right l = length l.used.now
