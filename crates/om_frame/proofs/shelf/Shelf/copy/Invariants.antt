use Rattle.std.proofs.Common.{◌≡◌, ◌≤◌, ◌-◌}
use Rattle.om_frame.specs.Memory.{copied}
use Rattle.om_frame.proofs.shelf.Shelf.copy.Given as goal

abbrev pub invariant-loop-done : goal.invariant-loop-done
invariant-loop-done l = record {
  copied : l.self ≡ copied l.fn.self l.from.0 l.to.0 l.done;
  within : l.done ≤ l.len;
}

abbrev pub decreases-loop-done : goal.decreases-loop-done
decreases-loop-done l = l.len - l.done
