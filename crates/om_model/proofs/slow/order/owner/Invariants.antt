use Rattle.std.proofs.Common.{◌≡◌}
use Rattle.om_model.specs.Zones.Order.{owner}
use Rattle.om_model.proofs.slow.order.owner.Given as goal

abbrev pub invariant-loop-i : goal.invariant-loop-i
invariant-loop-i l = l.holder ≡ owner l.moves l.zone l.i l.bit
