use Rattle.om_model.proofs.SecondFree.{freed-once}
use Rattle.om_model.proofs.laws.blocks_are_freed_once.Goals as goal

pub returns : goal.returns
returns c = freed-once
