use Rattle.std.proofs.Common.{length}
use Rattle.om_model.proofs.slow.well_formed.+agree_on_pages.Given as goal

abbrev pub decreases-agree_on_pages : goal.decreases-agree_on_pages
decreases-agree_on_pages l = length l.used.now
