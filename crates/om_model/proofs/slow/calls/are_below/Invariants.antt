use Rattle.std.proofs.Common.{take}
use Rattle.std.specs.List.{AllByRecursion}
use Rattle.om_model.specs.Scripts.Calls.{CallerBelow}
use Rattle.om_model.proofs.slow.calls.are_below.Given as goal

abbrev pub invariant-loop-entry : goal.invariant-loop-entry
invariant-loop-entry l = AllByRecursion (CallerBelow l.callers) (take l.entry-index l.journal.items)
