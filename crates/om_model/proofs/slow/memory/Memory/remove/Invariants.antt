use Rattle.std.proofs.Common.{◌≡◌}
use Rattle.om_frame.specs.Frames.{without_pages}
use Rattle.om_model.proofs.slow.memory.Memory.remove.Given as goal

abbrev pub invariant-loop-i : goal.invariant-loop-i
invariant-loop-i l = l.self ≡ without_pages l.fn.self l.first l.i
