use Rattle.std.proofs.Common.{length, arith}
use Rattle.om_broker.specs.Claims.{ShowsSearch}
use Rattle.om_broker.specs.ZoneStand.{HasMade}
use Rattle.om_broker.proofs.HasLaws.{keeps-claim, spends-few}
use Rattle.om_broker.proofs.tests.Trial.claim.Goals as goal

pub invariant_of-self : goal.invariant_of-self
invariant_of-self g c =
    let spent = spends-few c.self.inside.broker.left c.claim.new.self.left c.args.n c.claim.result c.claim.ensures.spent in
    let room = c.self.invariant.0 in let few = c.requires.few in let arena = c.claim.ensures.arena in let zones = c.self.invariant.1 in (
      omega arith,
      omega arith,
      keeps-claim (HasMade c.self.inside.broker.table) (HasMade c.claim.new.self.table) (ShowsSearch c.args.n c.args.word c.claim.new.looks.items c.claim.result) c.self.invariant.2
          _ c.args.n c.args.word (length c.claim.new.looks.items) c.claim.result c.claim.ensures.found c.claim.ensures.made,
    )

pub invariant_of-self-2 : goal.invariant_of-self-2
invariant_of-self-2 g c =
    let spent = spends-few c.self.inside.broker.left c.claim.new.self.left c.args.n c.claim.result c.claim.ensures.spent in
    let room = c.self.invariant.0 in let few = c.requires.few in let arena = c.claim.ensures.arena in let zones = c.self.invariant.1 in (
      omega arith,
      omega arith,
      keeps-claim (HasMade c.self.inside.broker.table) (HasMade c.claim.new.self.table) (ShowsSearch c.args.n c.args.word c.claim.new.looks.items c.claim.result) c.self.invariant.2
          _ c.args.n c.args.word (length c.claim.new.looks.items) c.claim.result c.claim.ensures.found c.claim.ensures.made,
    )
