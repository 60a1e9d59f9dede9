use Rattle.std.proofs.Common.{◌≡◌, drop}
use Rattle.om_delay.specs.Changes.{first_changed}
use Rattle.om_delay.proofs.slots.Slots.check_all.Given as goal

-- no slot before it has a changed place
abbrev pub invariant-loop-slot : goal.invariant-loop-slot
invariant-loop-slot l = first_changed l.shelf (drop l.slot-index l.self) ≡ first_changed l.shelf l.self
