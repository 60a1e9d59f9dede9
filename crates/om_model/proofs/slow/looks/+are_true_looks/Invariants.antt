use Rattle.std.proofs.Common.{length}
use Rattle.om_model.proofs.slow.looks.+are_true_looks.Given as goal

abbrev pub decreases-are_true_looks : goal.decreases-are_true_looks
decreases-are_true_looks l = length l.looks.now
