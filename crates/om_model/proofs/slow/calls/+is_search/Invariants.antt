use Rattle.std.proofs.Common.{length}
use Rattle.om_model.proofs.slow.calls.+is_search.Given as goal

abbrev pub decreases-is_search : goal.decreases-is_search
decreases-is_search l = length l.replies.now
