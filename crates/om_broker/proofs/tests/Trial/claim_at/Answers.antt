use Rattle.std.proofs.Common.{arith}
use Rattle.om_broker.specs.Claims.{ShowsPlace}
use Rattle.om_broker.specs.ZoneStand.{HasMade}
use Rattle.om_broker.proofs.HasLaws.{keeps-claim_at, spends_at-few}
use Rattle.om_broker.proofs.tests.Trial.claim_at.Goals as goal

pub invariant_of-self : goal.invariant_of-self
invariant_of-self g c =
    let spent = spends_at-few c.self.inside.broker.left c.claim_at.new.self.left c.args.n c.claim_at.result c.claim_at.ensures.spent in
    let room = c.self.invariant.0 in let inside = c.requires.inside in let arena = c.claim_at.ensures.arena in let zones = c.self.invariant.1 in (
      omega arith,
      omega arith,
      keeps-claim_at (HasMade c.self.inside.broker.table) (HasMade c.claim_at.new.self.table) (ShowsPlace c.args.first c.args.n c.claim_at.result) c.self.invariant.2
          c.args.zone c.args.first c.args.n c.claim_at.result c.requires.inside c.claim_at.ensures.found c.claim_at.ensures.made,
    )
