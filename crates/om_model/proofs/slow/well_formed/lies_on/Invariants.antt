use Rattle.std.proofs.Common.{◌≡◌, ℕ, ◌+◌, ◌<◌, true}
use Rattle.om_model.specs.Output.Head.{rules_of}
use Rattle.om_model.specs.Pool.State.{holds}
use Rattle.om_model.proofs.slow.well_formed.lies_on.Given as goal

abbrev pub invariant-loop-i : goal.invariant-loop-i
invariant-loop-i l = (k : ℕ) → k < l.i → holds (rules_of l.head l.pool) l.state ((l.one.extent).first + k) ≡ true
