use Rattle.std.proofs.Common.{length, Some, refl, arith}
use Rattle.om_broker.specs.Claims.{ShowsSearch, ShowsNothingElse}
use Rattle.om_broker.specs.declared.broker.Claim.TheVariants as answer
use Rattle.om_broker.specs.Sights.{claimed}
use Rattle.om_broker.specs.ZoneStand.{HasMade}
use Rattle.om_broker.proofs.HasLaws.{are-zeros, has-frames, keeps-claim, keeps-release, spends-few}
use Rattle.om_broker.proofs.tests.Trial.borrow.Goals as goal

pub release-requires-clause-zeros : goal.release-requires-clause-zeros
release-requires-clause-zeros g c =
    let found = c.in-Claimed.ensures.found in
    are-zeros c.in-Claimed.at c.args.n c.in-Claimed.frames c.requires.some found.inside found.frames_are

pub release-requires-clause-has : goal.release-requires-clause-has
release-requires-clause-has g c =
    let found = c.in-Claimed.ensures.found in
    let inside = found.inside in let count = found.count in let some = c.requires.some in
    has-frames (HasMade c.self.inside.broker.table) (HasMade c.claim.new.self.table) (claimed c.in-Claimed.at (Some c.args.word)) (ShowsSearch c.args.n c.args.word c.claim.new.looks.items (answer.Claimed c.in-Claimed.at c.in-Claimed.frames))
    (omega arith) c.self.invariant.2 c.in-Claimed.ensures.made refl (omega arith) c.in-Claimed.frames (rw count found.frames_are)

pub invariant_of-self : goal.invariant_of-self
invariant_of-self g c =
    let spent = spends-few c.self.inside.broker.left c.claim.new.self.left c.args.n c.claim.result c.claim.ensures.spent in
    let room = c.self.invariant.0 in let few = c.requires.few in let zones = c.self.invariant.1 in
    let arena = c.claim.ensures.arena in let arena_after = c.release.ensures.arena in let moves = c.release.ensures.moves in
    let found = c.in-Claimed.ensures.found in
    let zeros = are-zeros c.in-Claimed.at c.args.n c.in-Claimed.frames c.requires.some found.inside found.frames_are in
    let some = zeros.some in (
      omega arith,
      omega arith,
      keeps-release (HasMade c.claim.new.self.table) (HasMade c.release.new.self.table) ShowsNothingElse
          (keeps-claim (HasMade c.self.inside.broker.table) (HasMade c.claim.new.self.table) (ShowsSearch c.args.n c.args.word c.claim.new.looks.items c.claim.result) c.self.invariant.2
          _ c.args.n c.args.word (length c.claim.new.looks.items) c.claim.result c.claim.ensures.found c.claim.ensures.made)
          c.in-Claimed.frames c.release.result zeros c.release.ensures.back c.release.ensures.made,
    )

pub invariant_of-self-in-NoRun : goal.invariant_of-self-in-NoRun
invariant_of-self-in-NoRun g c =
    let spent = spends-few c.self.inside.broker.left c.claim.new.self.left c.args.n c.claim.result c.claim.ensures.spent in
    let room = c.self.invariant.0 in let few = c.requires.few in let arena = c.claim.ensures.arena in let zones = c.self.invariant.1 in (
      omega arith,
      omega arith,
      keeps-claim (HasMade c.self.inside.broker.table) (HasMade c.claim.new.self.table) (ShowsSearch c.args.n c.args.word c.claim.new.looks.items c.claim.result) c.self.invariant.2
          _ c.args.n c.args.word (length c.claim.new.looks.items) c.claim.result c.claim.ensures.found c.claim.ensures.made,
    )
