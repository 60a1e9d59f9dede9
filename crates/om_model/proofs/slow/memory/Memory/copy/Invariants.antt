use Rattle.std.proofs.Common.{◌≡◌, take}
use Rattle.om_frame.specs.Blocks.{memory_of}
use Rattle.om_model.proofs.slow.memory.Memory.copy.Given as goal

abbrev pub invariant-loop-page : goal.invariant-loop-page
invariant-loop-page l = memory_of l.pages.items ≡ memory_of (take l.page-index l.page-items)
