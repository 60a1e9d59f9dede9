use Rattle.std.proofs.Common.{◌≡◌, ◌≤◌, length}
use Rattle.om_script.specs.Lines.{words_in}
use Rattle.om_script.proofs.line.behind_blanks.Given as goal

abbrev pub invariant-loop-rest : goal.invariant-loop-rest
invariant-loop-rest l = record { same : words_in l.rest ≡ words_in l.text; shorter : length l.rest ≤ length l.text }

abbrev pub decreases-loop-rest : goal.decreases-loop-rest
decreases-loop-rest l = length l.rest
