use Rattle.std.proofs.Common.{take}
use Rattle.std.specs.List.{AllByRecursion}
use Rattle.om_model.specs.Zones.Looks.{ComesAfter}
use Rattle.om_model.proofs.slow.looks.all_come_after.Given as goal

abbrev pub invariant-loop-named : goal.invariant-loop-named
invariant-loop-named l = AllByRecursion (ComesAfter l.earlier) (take l.named-index l.later)
