use Rattle.std.proofs.Common.{◌≡◌, replicate, false}
use Rattle.om_chunk.proofs.open.OpenPages.new.Given as goal

abbrev pub invariant-loop : goal.invariant-loop
invariant-loop l = l.sets.items ≡ replicate l.counter (replicate l.count false)
