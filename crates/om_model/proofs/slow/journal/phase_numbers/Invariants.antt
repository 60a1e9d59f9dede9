use Rattle.std.proofs.Common.{◌≡◌, take}
use Rattle.om_model.specs.Pool.Journal.{phase_numbers}
use Rattle.om_model.proofs.slow.journal.phase_numbers.Given as goal

abbrev pub invariant-loop-entry : goal.invariant-loop-entry
invariant-loop-entry l = l.phases.items ≡ phase_numbers (take l.entry-index l.journal.items)
