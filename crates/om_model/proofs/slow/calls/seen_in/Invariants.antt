use Rattle.std.proofs.Common.{◌≡◌, ◌++◌, drop}
use Rattle.om_model.specs.Scripts.Calls.{seen_from, seen_in}
use Rattle.om_model.proofs.slow.calls.seen_in.Given as goal

-- what is left to see comes behind what was seen
abbrev pub invariant-loop-entry : goal.invariant-loop-entry
invariant-loop-entry l = l.seen.items ++ seen_from l.caller l.phase (drop l.entry-index l.journal.items) ≡ seen_in l.caller l.journal.items
