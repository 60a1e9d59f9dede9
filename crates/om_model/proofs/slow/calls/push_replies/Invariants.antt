use Rattle.std.proofs.Common.{◌≡◌, ◌++◌, take}
use Rattle.std.specs.List.{flat_map}
use Rattle.om_model.specs.Slow.{reply_to}
use Rattle.om_model.proofs.slow.calls.push_replies.Given as goal

abbrev pub invariant-loop-asked : goal.invariant-loop-asked
invariant-loop-asked l = l.replies.items ≡ l.initial.replies.items ++ flat_map (reply_to l.command l.hop) (take l.asked-index l.seen)
