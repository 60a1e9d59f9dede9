use Rattle.std.proofs.Common.{length}
use Rattle.om_model.proofs.slow.moves.+moves_from.Given as goal

abbrev pub decreases-moves_from : goal.decreases-moves_from
decreases-moves_from l = length l.journals.now
