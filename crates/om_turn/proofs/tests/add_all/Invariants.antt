use Rattle.std.proofs.Common.{◌≡◌, ◌+◌}
use Rattle.om_turn.specs.Shares.{IsSamePart}
use Rattle.om_turn.proofs.tests.add_all.Given as goal

abbrev pub invariant-loop-number : goal.invariant-loop-number
invariant-loop-number g l = IsSamePart l.lock l.initial.pass l.pass × (l.number + l.pass.left ≡ l.fn.from + l.initial.pass.left)
