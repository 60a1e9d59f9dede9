use Rattle.std.proofs.Common.{◌≡◌, ◌++◌, map, take}
use Rattle.om_model.specs.Pool.InUse.{use_of_place}
use Rattle.om_model.proofs.slow.in_use.push_delayed.Given as goal

abbrev pub invariant-loop-place : goal.invariant-loop-place
invariant-loop-place l = l.used.items ≡ l.initial.used.items ++ map use_of_place (take l.place-index l.places)
