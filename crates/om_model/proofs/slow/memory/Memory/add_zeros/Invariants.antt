use Rattle.std.proofs.Common.{◌≡◌}
use Rattle.om_frame.specs.Frames.{with_frames, zero_frames}
use Rattle.om_model.proofs.slow.memory.Memory.add_zeros.Given as goal

abbrev pub invariant-loop-i : goal.invariant-loop-i
invariant-loop-i l = l.self ≡ with_frames l.fn.self (zero_frames l.first l.i)
