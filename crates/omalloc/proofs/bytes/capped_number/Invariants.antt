use Rattle.std.proofs.Common.{◌≡◌, take, min}
use Rattle.omalloc.specs.AcceptedInput.{number_of}
use Rattle.omalloc.proofs.bytes.capped_number.Given as goal

abbrev pub invariant-loop-b : goal.invariant-loop-b
invariant-loop-b l = l.number ≡ min (number_of (take l.b-index l.digits)) l.cap
