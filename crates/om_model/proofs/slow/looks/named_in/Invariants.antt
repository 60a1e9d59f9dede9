use Rattle.std.proofs.Common.{◌≡◌, take}
use Rattle.std.specs.List.{flat_map}
use Rattle.om_model.specs.Zones.Looks.{named_in}
use Rattle.om_model.proofs.slow.looks.named_in.Given as goal

abbrev pub invariant-loop-entry : goal.invariant-loop-entry
invariant-loop-entry l = l.named.items ≡ flat_map named_in (take l.entry-index l.journal.items)
