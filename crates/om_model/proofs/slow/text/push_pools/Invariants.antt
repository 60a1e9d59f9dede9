use Rattle.std.proofs.Common.{◌≡◌, ◌++◌, take}
use Rattle.std.specs.List.{flat_map, enumerate_from}
use Rattle.om_model.specs.Data.Room.{entries_of}
use Rattle.om_model.specs.Output.Text.{pool_text}
use Rattle.om_model.proofs.slow.text.push_pools.Given as goal

abbrev pub invariant-loop-pool : goal.invariant-loop-pool
invariant-loop-pool l = l.out.items ≡ l.initial.out.items ++ flat_map (pool_text l.head) (take l.pool (enumerate_from 0 (entries_of l.journals)))
