use Rattle.std.proofs.Common.{◌≡◌, take}
use Rattle.std.specs.List.{flat_map}
use Rattle.om_script.specs.Canonical.{script_text}
use Rattle.om_script.proofs.printing.print.Given as goal

abbrev pub invariant-loop-script : goal.invariant-loop-script
invariant-loop-script l = l.out.items ≡ flat_map script_text (take l.script-index l.scripts)
