use Rattle.std.proofs.Common.{◌≡◌, map, take}
use Rattle.om_model.specs.Data.Room.{entries_of}
use Rattle.om_model.specs.Slow.{answers_in, answered_from, seen_at}
use Rattle.om_model.proofs.slow.calls.calls_read.Given as goal

abbrev pub invariant-loop-call : goal.invariant-loop-call
invariant-loop-call l = answers_in l.read.items ≡ map (answered_from l.pools l.caller (seen_at l.caller (entries_of l.journals))) (take l.call-index l.call-items)
