use Rattle.std.proofs.Common.{◌≤◌, ◌∙◌, ap, length, arith}
use Rattle.om_script.proofs.PrintedParts.{script_ends}
use Rattle.om_script.proofs.printing.push_script.Goals as goal

pub returns : goal.returns
returns c =
    let all : length c.args.script.now.commands ≤ c.loop-command.command-index = omega (arith, ap length c.commands-command-items.ensures) in
    c.in_ok-extend_from_slice-3.ensures.items
    ∙ script_ends c.args.script.now c.args.out.now.items c.loop-command.out.items c.loop-command.command-index c.loop-command.invariant all
