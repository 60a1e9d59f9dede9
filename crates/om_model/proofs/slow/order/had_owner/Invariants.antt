use Rattle.std.proofs.Common.{◌≡◌, ℕ, ◌+◌, ◌-◌, ◌<◌}
use Rattle.om_model.specs.Zones.Order.{owner}
use Rattle.om_model.proofs.slow.order.had_owner.Given as goal

abbrev pub invariant-loop-i : goal.invariant-loop-i
invariant-loop-i l = (k : ℕ) → k < l.i → owner l.moves l.m.made.zone (l.m.made.version - 1) (l.m.made.first + k) ≡ l.holder
