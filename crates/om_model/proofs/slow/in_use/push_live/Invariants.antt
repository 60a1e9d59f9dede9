use Rattle.std.proofs.Common.{◌≡◌, ◌++◌, take}
use Rattle.std.specs.List.{flat_map}
use Rattle.om_model.specs.Output.Head.{rules_of}
use Rattle.om_model.specs.Pool.InUse.{uses_of_block}
use Rattle.om_model.proofs.slow.in_use.push_live.Given as goal

abbrev pub invariant-loop-block : goal.invariant-loop-block
invariant-loop-block l = l.used.items ≡ l.initial.used.items ++ flat_map (uses_of_block (rules_of l.head l.pool)) (take l.block-index l.live)
