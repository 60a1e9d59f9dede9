use Rattle.std.proofs.Common.{take}
use Rattle.std.specs.List.{AllByRecursion}
use Rattle.om_model.specs.Output.Head.{rules_of}
use Rattle.om_model.specs.Zones.Looks.{HasTrueLooks}
use Rattle.om_model.proofs.slow.looks.are_true.Given as goal

abbrev pub invariant-loop-entry : goal.invariant-loop-entry
invariant-loop-entry l = AllByRecursion (HasTrueLooks (rules_of l.head l.pool) l.moves) (take l.entry-index l.journal.items)
