use Rattle.std.proofs.Common.{length}
use Rattle.om_model.proofs.slow.well_formed.+are_apart.Given as goal

abbrev pub decreases-are_apart : goal.decreases-are_apart
decreases-are_apart l = length l.used.now
