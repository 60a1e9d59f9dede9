use Rattle.std.proofs.Common.{length}
use Rattle.om_model.proofs.slow.well_formed.+is_apart_from.Given as goal

abbrev pub decreases-is_apart_from : goal.decreases-is_apart_from
decreases-is_apart_from l = length l.others.now
