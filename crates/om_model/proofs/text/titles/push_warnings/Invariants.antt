use Rattle.std.proofs.Common.{◌≡◌, ◌++◌, take}
use Rattle.std.specs.List.{flat_map}
use Rattle.om_model.specs.Output.Text.{warned_line}
use Rattle.om_model.proofs.text.titles.push_warnings.Given as goal

abbrev pub invariant-loop-byte : goal.invariant-loop-byte
invariant-loop-byte l = l.out.items ≡ l.initial.out.items ++ flat_map warned_line (take l.byte-index l.warned)
