use Rattle.std.proofs.Common.{length}
use Rattle.om_model.proofs.slow.looks.+rises.Given as goal

abbrev pub decreases-rises : goal.decreases-rises
decreases-rises l = length l.named.now
