use Rattle.std.proofs.Common.{◌≡◌, take}
use Rattle.om_model.specs.Output.Head.{rules_of}
use Rattle.om_model.specs.Zones.Moves.{moves_of}
use Rattle.om_model.proofs.slow.moves.moves_in.Given as goal

abbrev pub invariant-loop-entry : goal.invariant-loop-entry
invariant-loop-entry l = l.moves.items ≡ moves_of (rules_of l.head l.pool) l.pool (take l.entry-index l.journal.items)
