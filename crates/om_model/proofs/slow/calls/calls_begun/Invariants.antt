use Rattle.std.proofs.Common.{◌≡◌, take}
use Rattle.std.specs.List.{flat_map}
use Rattle.om_model.specs.Slow.{begun_by}
use Rattle.om_model.proofs.slow.calls.calls_begun.Given as goal

abbrev pub invariant-loop-asked : goal.invariant-loop-asked
invariant-loop-asked l = l.calls.items ≡ flat_map begun_by (take l.asked-index l.seen)
