use Rattle.std.proofs.Common.{◌≡◌, ◌++◌, take}
use Rattle.std.specs.List.{flat_map}
use Rattle.om_model.specs.Output.Text.{look_text}
use Rattle.om_model.proofs.text.entries.push_looks.Given as goal

abbrev pub invariant-loop-look : goal.invariant-loop-look
invariant-loop-look l = l.out.items ≡ l.initial.out.items ++ flat_map look_text (take l.look-index l.looks.items)
