use Rattle.std.proofs.Common.{length}
use Rattle.om_model.proofs.slow.looks.+are_true_taken.Given as goal

abbrev pub decreases-are_true_taken : goal.decreases-are_true_taken
decreases-are_true_taken l = length l.taken.now
