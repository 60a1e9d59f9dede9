use Rattle.std.proofs.Common.{◌≡◌, ◌++◌, take}
use Rattle.std.specs.List.{flat_map, enumerate_from}
use Rattle.om_model.specs.Output.Text.{script_text}
use Rattle.om_model.proofs.slow.text.push_scripts.Given as goal

abbrev pub invariant-loop-number : goal.invariant-loop-number
invariant-loop-number l = l.out.items ≡ l.initial.out.items ++ flat_map script_text (take l.number (enumerate_from 0 l.scripts))
