use Rattle.std.proofs.Common.{◌≡◌, ◌+◌, ◌-◌, refl, subst, arith}
use Rattle.om_model.specs.Zones.Order.{owner}
use Rattle.om_model.proofs.slow.order.had_owner.Goals as goal

pub returns : goal.returns
returns c = (
  (λ is bit low high.
      let same : c.args.m.made.first + (bit - c.args.m.made.first) ≡ bit = omega arith in
      subst (λ b. owner c.args.moves.now c.args.m.made.zone (c.args.m.made.version - 1) b ≡ c.args.holder) same (c.loop-i.invariant (bit - c.args.m.made.first) (omega arith))),
  (λ all. refl),
)
