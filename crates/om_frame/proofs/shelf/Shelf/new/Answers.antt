use Rattle.std.proofs.Common.{arith}
use Rattle.om_frame.proofs.Shelves.{are_blocks-none}
use Rattle.om_frame.proofs.shelf.Shelf.new.Goals as goal

pub invariant_of-result : goal.invariant_of-result
invariant_of-result c = are_blocks-none c.loop.blocks.items c.loop.counter c.loop.invariant (omega arith)
