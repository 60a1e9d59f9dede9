use Rattle.om_model.proofs.PlainExtents.{apart-decided}
use Rattle.om_model.proofs.slow.well_formed.are_two_apart.Goals as goal

pub returns : goal.returns
returns c = apart-decided c.args.one.now.extent c.args.other.now.extent c.shares_byte.result c.shares_byte.ensures
