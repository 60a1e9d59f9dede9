use Rattle.std.proofs.Common.{sym, subst, ap, arith}
use Rattle.om_broker.specs.Lone.{Lone}
use Rattle.om_broker.specs.ZoneStand.{HasMade}
use Rattle.om_broker.proofs.LoneLaws.{named-searched, claimed-lone, claim-adds, norun-adds}
use Rattle.om_broker.proofs.lone.LoneBrokerBroker.claim.Goals as goal

pub invariant_of-self : goal.invariant_of-self
invariant_of-self g c =
    let found = (c.in-Some.ensures.claim).found in
    let free = found.free in
    let left = ap (λ (b : Lone). b.left) c.self.view_is in
    rw c.remove-frames.ensures.rest (claimed-lone _ c.self.invariant c.claim.new.self c.in-Some.at.zone c.in-Some.at.first c.args.n free.there free.within c.in-Some.at free (c.in-Some.ensures.claim).claimed (let enough = c.requires.moves in omega arith) _)

pub returns-in-Some-clause-named : goal.returns-in-Some-clause-named
returns-in-Some-clause-named g c = rw (← c.self.view_is) (named-searched c.self.inside.zones c.args.n c.args.word c.claim.new.looks.items c.claim.ensures.passed)

pub returns-in-None-clause-named : goal.returns-in-None-clause-named
returns-in-None-clause-named g c = rw (← c.self.view_is) (named-searched c.self.inside.zones c.args.n c.args.word c.claim.new.looks.items c.claim.ensures.passed)

pub returns-in-Some-clause-made : goal.returns-in-Some-clause-made
returns-in-Some-clause-made g c = λ moves sight made.
    let Made : Lone → Type 0 = λ b. HasMade b.table moves sight in
    claim-adds c.self.inside.zones c.claim.new.self moves sight (subst Made (sym c.self.view_is) made) c.args.n c.args.word c.claim.new.looks.items c.claim.ensures.passed c.in-Some.at c.remove-frames.result c.in-Some.ensures.claim

pub returns-in-None-clause-made : goal.returns-in-None-clause-made
returns-in-None-clause-made g c = λ moves sight made.
    let Made : Lone → Type 0 = λ b. HasMade b.table moves sight in
    norun-adds c.self.inside.zones c.claim.new.self moves sight (subst Made (sym c.self.view_is) made) c.args.n c.args.word c.claim.new.looks.items c.claim.ensures.passed (c.self.invariant).some (c.in-None.ensures.claim).1
