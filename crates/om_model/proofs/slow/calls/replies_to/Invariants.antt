use Rattle.std.proofs.Common.{◌≡◌}
use Rattle.std.specs.List.{flat_map, range_with_len}
use Rattle.om_model.specs.Data.Room.{entries_of}
use Rattle.om_model.specs.Slow.{replies_at, seen_at}
use Rattle.om_model.proofs.slow.calls.replies_to.Given as goal

abbrev pub invariant-loop-hop : goal.invariant-loop-hop
invariant-loop-hop l = l.replies.items ≡ flat_map (replies_at l.pools l.caller (seen_at l.caller (entries_of l.journals)) l.command) (range_with_len 0 l.hop)
