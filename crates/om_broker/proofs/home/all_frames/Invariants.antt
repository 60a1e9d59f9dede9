use Rattle.std.proofs.Common.{◌≡◌, ◌*◌}
use Rattle.om_broker.proofs.HomeLaws.{first_frames}
use Rattle.om_broker.proofs.home.all_frames.Given as goal

abbrev pub invariant-loop-zone : goal.invariant-loop-zone
invariant-loop-zone l = l.home ≡ first_frames l.zones (32 * l.zone)
