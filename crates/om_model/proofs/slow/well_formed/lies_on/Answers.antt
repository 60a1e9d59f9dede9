use Rattle.std.proofs.Common.{◌≤◌, refl, ap, arith}
use Rattle.om_model.specs.Output.Head.{rules_of}
use Rattle.om_model.specs.Pool.InUse.{Use}
use Rattle.om_model.specs.Pool.State.{holds}
use Rattle.om_model.proofs.PlainExtents.{byte-behind}
use Rattle.om_model.proofs.slow.well_formed.lies_on.Goals as goal

pub returns : goal.returns
returns c =
    let one = c.args.one.now in
    let same = ap (λ (u : Use). (u.extent).len) c.one.view_is in
    let whole : (one.extent).len ≤ c.loop-i.i = omega arith in (
      (λ is. byte-behind (holds (rules_of c.args.head.now c.args.pool) c.args.state.now) one.extent c.loop-i.i whole c.loop-i.invariant),
      (λ lies. refl),
    )
