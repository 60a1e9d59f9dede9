use Rattle.std.proofs.Common.{◌≡◌}
use Rattle.om_frame.specs.Memory.{filled}
use Rattle.om_model.proofs.slow.memory.Memory.fill.Given as goal

abbrev pub invariant-loop-i : goal.invariant-loop-i
invariant-loop-i l = l.self ≡ filled l.fn.self l.address l.i l.byte
