use Rattle.std.proofs.Common.{◌/◌, sym, subst, arith}
use Rattle.om_broker.specs.Claims.{HasFrames}
use Rattle.om_broker.specs.Lone.{Lone}
use Rattle.om_broker.specs.ZoneStand.{HasMade}
use Rattle.om_broker.proofs.LoneLaws.{frames-add, frames-fit, frames-new, frames-released, frames-zone}
use Rattle.om_broker.proofs.ZoneLaws.{version-low}
use Rattle.om_broker.proofs.lone.LoneBrokerBroker.release.Goals as goal

pub take_home-page-requires-clause-there : goal.take_home-page-requires-clause-there
take_home-page-requires-clause-there g c =
    let Has : Lone → Type 0 = λ b. HasFrames (HasMade b.table) c.args.frames in
    frames-fit _ c.self.invariant c.args.frames c.requires.zeros (subst Has (sym c.self.view_is) c.requires.has)

pub take_home-page-requires-clause-new : goal.take_home-page-requires-clause-new
take_home-page-requires-clause-new g c =
    let Has : Lone → Type 0 = λ b. HasFrames (HasMade b.table) c.args.frames in
    frames-new _ c.self.invariant c.args.frames c.requires.zeros (subst Has (sym c.self.view_is) c.requires.has)

pub release-requires-clause-zone : goal.release-requires-clause-zone
release-requires-clause-zone g c =
    let Has : Lone → Type 0 = λ b. HasFrames (HasMade b.table) c.args.frames in
    rw c.take_home-page.ensures.page (frames-zone _ c.self.invariant c.args.frames c.requires.zeros (subst Has (sym c.self.view_is) c.requires.has))

pub release-requires-clause-version : goal.release-requires-clause-version
release-requires-clause-version g c =
    let low = version-low c.self.inside.zones (c.take_home-page.result.0 / 32) in
    let share = (c.self.invariant).share in omega arith

pub invariant_of-self : goal.invariant_of-self
invariant_of-self g c =
    let Has : Lone → Type 0 = λ b. HasFrames (HasMade b.table) c.args.frames in
    frames-released _ c.self.invariant c.args.frames c.requires.zeros (subst Has (sym c.self.view_is) c.requires.has)
    c.release.new.self c.take_home-page.result.0 c.len-n.result c.take_home-page.ensures.page c.len-n.ensures.len c.release.result c.release.ensures
    c.take_home-page.new.home c.take_home-page.ensures.home _

pub returns-clause-made : goal.returns-clause-made
returns-clause-made g c = λ moves sight made.
    let Has : Lone → Type 0 = λ b. HasFrames (HasMade b.table) c.args.frames in
    let Made : Lone → Type 0 = λ b. HasMade b.table moves sight in
    frames-add _ c.self.invariant c.args.frames c.requires.zeros (subst Has (sym c.self.view_is) c.requires.has)
    c.release.new.self c.take_home-page.result.0 c.len-n.result c.take_home-page.ensures.page c.len-n.ensures.len c.release.result c.release.ensures
    moves sight (subst Made (sym c.self.view_is) made)
