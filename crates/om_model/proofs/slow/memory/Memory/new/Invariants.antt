use Rattle.std.proofs.Common.{◌≡◌, [], replicate}
use Rattle.om_frame.specs.Blocks.{memory_of}
use Rattle.om_model.proofs.slow.memory.Memory.new.Given as goal

abbrev pub invariant-loop : goal.invariant-loop
invariant-loop l = memory_of l.pages.items ≡ replicate l.counter []
