use Rattle.std.proofs.Common.{◌≡◌, ◌+◌, ◌≤◌, length}
use Rattle.om_script.specs.Lines.{text_lines}
use Rattle.om_script.specs.Steps.{start, go_on}
use Rattle.om_script.proofs.reading.read.Given as goal

-- reading on from here comes to what reading all comes to
abbrev pub invariant-loop-line : goal.invariant-loop-line
invariant-loop-line l = record {
  same : go_on l.reader l.number (text_lines l.rest) ≡ go_on start 1 (text_lines l.fn.text);
  small : l.number + length l.rest ≤ length l.fn.text + 1;
}

abbrev pub decreases-loop-line : goal.decreases-loop-line
decreases-loop-line l = length l.rest
