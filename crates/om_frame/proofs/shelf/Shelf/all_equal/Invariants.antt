use Rattle.std.proofs.Common.{◌≡◌, ◌≤◌, ◌-◌}
use Rattle.std.specs.Prelude.{None}
use Rattle.om_frame.specs.Memory.{first_other}
use Rattle.om_frame.proofs.shelf.Shelf.all_equal.Given as goal

abbrev pub invariant-loop-done : goal.invariant-loop-done
invariant-loop-done l = record {
  equal : first_other l.self l.at.0 l.done l.byte ≡ None;
  within : l.done ≤ l.len;
}

abbrev pub decreases-loop-done : goal.decreases-loop-done
decreases-loop-done l = l.len - l.done
