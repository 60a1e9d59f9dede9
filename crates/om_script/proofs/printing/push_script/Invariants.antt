use Rattle.std.proofs.Common.{◌≡◌, ◌++◌, take}
use Rattle.std.specs.List.{flat_map}
use Rattle.om_script.proofs.PrintedParts.{title_text, command_text}
use Rattle.om_script.proofs.printing.push_script.Given as goal

abbrev pub invariant-loop-command : goal.invariant-loop-command
invariant-loop-command l = l.out.items ≡ (l.fn.out.items ++ title_text l.script) ++ flat_map (command_text l.script.names) (take l.command-index l.script.commands)
