use Rattle.std.proofs.Common.{◌≡◌, ◌+◌, ◌*◌, ◌≤◌, length}
use Rattle.om_io.specs.Source.{input_limit}
use Rattle.omalloc.specs.AcceptedInput.{text_lines, script_from}
use Rattle.omalloc.proofs.read.go_on.Given as goal

-- reading on from here gives what reading all gives
abbrev pub invariant-loop-line : goal.invariant-loop-line
invariant-loop-line l = record {
  same : script_from l.number l.script (text_lines l.rest) ≡ script_from l.fn.number l.fn.script (text_lines l.fn.rest);
  small : l.number + length l.rest ≤ 2 * input_limit;
}

abbrev pub decreases-loop-line : goal.decreases-loop-line
decreases-loop-line l = length l.rest
