use Rattle.om_model.proofs.Lawful.{state_of-well_formed}
use Rattle.om_model.proofs.laws.blocks_are_apart.Goals as goal

pub returns : goal.returns
returns c = state_of-well_formed
