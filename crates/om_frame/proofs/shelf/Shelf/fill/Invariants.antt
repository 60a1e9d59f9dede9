use Rattle.std.proofs.Common.{◌≡◌, ◌≤◌, ◌-◌}
use Rattle.om_frame.specs.Memory.{filled}
use Rattle.om_frame.proofs.shelf.Shelf.fill.Given as goal

abbrev pub invariant-loop-done : goal.invariant-loop-done
invariant-loop-done l = record {
  filled : l.self ≡ filled l.fn.self l.at.0 l.done l.byte;
  within : l.done ≤ l.len;
}

abbrev pub decreases-loop-done : goal.decreases-loop-done
decreases-loop-done l = l.len - l.done
