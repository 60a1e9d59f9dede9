use Rattle.std.proofs.Common.{◌≤◌, ◌∙◌, ap, length, take_all, arith}
use Rattle.std.specs.List.{flat_map}
use Rattle.om_script.specs.Canonical.{script_text}
use Rattle.om_script.specs.Scripts.{scripts_in}
use Rattle.om_script.proofs.PrintedScripts.{canonical_reads}
use Rattle.om_script.proofs.printing.print.Goals as goal

pub returns-clause-again : goal.returns-clause-again
returns-clause-again c =
    let all : length c.args.scripts.now ≤ c.loop-script.script-index = omega (arith, ap length c.scripts-script-items.ensures.items) in
    ap scripts_in (c.loop-script.invariant ∙ ap (flat_map script_text) (take_all c.loop-script.script-index c.args.scripts.now all))
    ∙ canonical_reads c.args.scripts.now c.scripts-script-items.ensures.form
