use Rattle.std.proofs.Common.{◌≡◌, ◌*◌}
use Rattle.om_frame.specs.Frames.{zero_frames}
use Rattle.om_broker.proofs.home.zone_frames.Given as goal

abbrev pub invariant-loop-i : goal.invariant-loop-i
invariant-loop-i l = l.bundle ≡ zero_frames (32 * l.zone) l.i
