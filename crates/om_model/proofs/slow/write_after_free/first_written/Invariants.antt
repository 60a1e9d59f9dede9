use Rattle.std.proofs.Common.{◌≡◌, drop}
use Rattle.om_delay.specs.Changes.{first_changed}
use Rattle.om_model.specs.Pool.WriteAfterFree.{slot_extents}
use Rattle.om_model.proofs.slow.write_after_free.first_written.Given as goal

-- no slot before it has a place that was written
abbrev pub invariant-loop-slot : goal.invariant-loop-slot
invariant-loop-slot l = first_changed l.state.memory (slot_extents (drop l.slot-index l.slots)) ≡ first_changed l.state.memory (slot_extents l.slots)
