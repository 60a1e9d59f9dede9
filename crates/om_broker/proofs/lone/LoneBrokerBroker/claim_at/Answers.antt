use Rattle.std.proofs.Common.{length, sym, subst, ap, arith}
use Rattle.om_broker.specs.Lone.{Lone}
use Rattle.om_broker.specs.ZoneStand.{HasMade}
use Rattle.om_broker.proofs.LoneLaws.{claimed-lone, given-adds, held-adds}
use Rattle.om_broker.proofs.lone.LoneBrokerBroker.claim_at.Goals as goal

pub invariant_of-self : goal.invariant_of-self
invariant_of-self g c =
    let free = c.in-Ok.ensures.free in
    let left = ap (λ (b : Lone). b.left) c.self.view_is in
    rw c.remove-frames.ensures.rest (claimed-lone _ c.self.invariant c.claim_at.new.self c.args.zone.0 c.args.first c.args.n free.there free.within c.in-Ok.at free c.in-Ok.ensures.claimed (let enough = c.requires.moves in omega arith) _)

pub returns-in-Ok-clause-made : goal.returns-in-Ok-clause-made
returns-in-Ok-clause-made g c = λ moves sight made.
    let Made : Lone → Type 0 = λ b. HasMade b.table moves sight in
    given-adds c.self.inside.zones c.claim_at.new.self moves sight (subst Made (sym c.self.view_is) made) c.args.zone.0 c.args.first c.args.n c.in-Ok.at c.remove-frames.result c.in-Ok.ensures.free c.in-Ok.ensures.claimed

pub returns-in-Err-clause-made : goal.returns-in-Err-clause-made
returns-in-Err-clause-made g c = λ moves sight made.
    let Made : Lone → Type 0 = λ b. HasMade b.table moves sight in
    held-adds c.self.inside.zones c.claim_at.new.self moves sight (subst Made (sym c.self.view_is) made) c.args.zone.0 c.args.first c.args.n c.in-Err.look c.in-Err.ensures.held c.in-Err.ensures.look c.in-Err.ensures.stays (let there = c.requires.there in let same = ap (λ (b : Lone). length (b.table).bits) c.self.view_is in omega arith)
