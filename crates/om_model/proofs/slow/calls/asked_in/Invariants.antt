use Rattle.std.proofs.Common.{◌≡◌, take}
use Rattle.std.specs.List.{flat_map}
use Rattle.om_model.specs.Scripts.Calls.{asked_in}
use Rattle.om_model.specs.Slow.{answers_in}
use Rattle.om_model.proofs.slow.calls.asked_in.Given as goal

abbrev pub invariant-loop-one : goal.invariant-loop-one
invariant-loop-one l = l.asked.items ≡ flat_map (asked_in l.pools l.caller l.pool) (answers_in (take l.one-index l.answered))
