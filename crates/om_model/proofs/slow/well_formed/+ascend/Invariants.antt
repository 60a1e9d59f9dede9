use Rattle.std.proofs.Common.{length}
use Rattle.om_model.proofs.slow.well_formed.+ascend.Given as goal

abbrev pub decreases-ascend : goal.decreases-ascend
decreases-ascend l = length l.pages.now
