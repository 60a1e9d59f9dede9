use Rattle.std.proofs.Common.{ℕ, ◌<◌}
use Rattle.om_model.specs.Pool.WellFormed.{HasBytes}
use Rattle.om_model.proofs.slow.well_formed.have_bytes.Given as goal

abbrev pub invariant-loop-page : goal.invariant-loop-page
invariant-loop-page l = (k : ℕ) → k < l.page → HasBytes l.state k
