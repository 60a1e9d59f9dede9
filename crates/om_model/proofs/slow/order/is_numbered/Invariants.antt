use Rattle.std.proofs.Common.{◌≡◌, ℕ, ◌≤◌, count_by}
use Rattle.om_model.specs.Zones.Order.{is_at}
use Rattle.om_model.proofs.slow.order.is_numbered.Given as goal

abbrev pub invariant-loop-i : goal.invariant-loop-i
invariant-loop-i l = (version : ℕ) → 1 ≤ version → version ≤ l.i → count_by (is_at l.zone version) l.moves ≡ 1
