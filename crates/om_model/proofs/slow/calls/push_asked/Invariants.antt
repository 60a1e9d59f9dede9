use Rattle.std.proofs.Common.{◌≡◌, ◌++◌, take}
use Rattle.std.specs.List.{flat_map, enumerate_from}
use Rattle.om_model.specs.Scripts.Calls.{asked_of}
use Rattle.om_model.proofs.slow.calls.push_asked.Given as goal

abbrev pub invariant-loop-hop : goal.invariant-loop-hop
invariant-loop-hop l = l.asked.items ≡ l.initial.asked.items ++ flat_map (asked_of l.pools l.caller l.pool l.answered.call) (enumerate_from 0 (take l.hop l.answered.replies.items))
