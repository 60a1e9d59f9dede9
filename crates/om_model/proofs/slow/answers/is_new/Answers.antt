use Rattle.std.proofs.Common.{◌≡◌, ◌+◌, ◌-◌, false, refl, subst, arith}
use Rattle.om_model.specs.Pool.State.{is_held}
use Rattle.om_model.proofs.slow.answers.is_new.Goals as goal

pub returns : goal.returns
returns c = (
  (λ is page low high.
      let same : c.args.first + (page - c.args.first) ≡ page = omega arith in
      subst (λ p. is_held c.args.state.now.held p ≡ false) same (c.loop-i.invariant (page - c.args.first) (omega arith))),
  (λ all. refl),
)
