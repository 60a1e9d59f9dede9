use Rattle.std.proofs.Common.{◌≡◌, ◌++◌, take}
use Rattle.std.specs.List.{flat_map, enumerate_from}
use Rattle.om_model.specs.Output.Text.{numbered_line}
use Rattle.om_model.proofs.slow.text.push_outcomes.Given as goal

abbrev pub invariant-loop-i : goal.invariant-loop-i
invariant-loop-i l = l.out.items ≡ l.initial.out.items ++ flat_map numbered_line (take l.i (enumerate_from 1 l.outcomes))
