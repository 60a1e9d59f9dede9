use Rattle.std.proofs.Common.{◌≡◌, ℕ, ◌+◌, ◌<◌, false}
use Rattle.om_model.specs.Pool.State.{is_held}
use Rattle.om_model.proofs.slow.answers.is_new.Given as goal

abbrev pub invariant-loop-i : goal.invariant-loop-i
invariant-loop-i l = (k : ℕ) → k < l.i → is_held l.state.held (l.first + k) ≡ false
