use Rattle.std.proofs.Common.{◌≡◌, ℕ, ◌↔◌, ◌<◌, ◌*◌, List, IsTrue, length, ap, ◌∙◌, sym, subst}
use Rattle.std.specs.List.{AllByRecursion}
use Rattle.om_geom.specs.Classes.{is_class}
use Rattle.om_geom.specs.Numbers.{zone_pages}
use Rattle.om_model.specs.Output.Head.{Head, rules_of}
use Rattle.om_model.specs.Pool.InUse.{Use}
use Rattle.om_model.specs.Pool.State.{State}
use Rattle.om_model.specs.Pool.WellFormed.{EachPair, AreApart, AgreeOnPages, BeginsRight, FitsZone, HasBytes, LiesOn, IsWellFormed}
use Rattle.om_model.specs.declared.block.Block.{Block}
use Rattle.om_model.specs.declared.block.Place.{Place}
use Rattle.om_model.proofs.PlainExtents.{well-formed-decided}
use Rattle.om_model.proofs.slow.state.State.is_well_formed.Goals as goal

pub returns : goal.returns
returns c =
    let pool_rules = rules_of c.args.head.now c.args.pool in
    let state = c.args.self.now in
    let zones = ap (λ (h : Head). h.zones) c.head.view_is in
    let pages = c.deref.ensures.value ∙ ap (λ (s : State). s.held) c.self.view_is in
    let live = c.deref-3.ensures.value ∙ ap (λ (s : State). s.live) c.self.view_is in
    let delayed_is = c.deref-2.ensures.value ∙ c.in_ok-places.ensures in
    let placed = c.deref-4.ensures.value ∙ c.in_ok-used.ensures in
    let lying = c.deref-5.ensures.value ∙ c.in_ok-used.ensures in
    let Bytes : ℕ → Type 0 = λ z. AllByRecursion (λ page. page < zone_pages * z) state.held × (length state.memory ≡ zone_pages * z) × ((page : ℕ) → HasBytes state page) in
    let Classes : List Place → Type 0 = λ places. AllByRecursion (λ place. IsTrue (is_class place.class)) places in
    let Zoned : List Block → Type 0 = λ blocks. AllByRecursion (FitsZone pool_rules) blocks in
    let Placed : List Use → Type 0 = λ used. AllByRecursion (λ one. BeginsRight (one.extent).first one.kind) used × EachPair AreApart used × EachPair AgreeOnPages used in
    subst (λ test. IsTrue test ↔ IsWellFormed pool_rules state) (sym c.are_all.ensures)
    (well-formed-decided pool_rules state c.ascend-held.result c.has_its_bytes-bytes.result c.have_classes-classes.result c.are_zoned-zoned.result c.are_placed-placed.result c.lie_on-lie.result
    (sym (ap (λ (s : State). length s.slots) c.self.view_is) ∙ c.slots_fit.ensures)
    (subst (λ ps. IsTrue c.ascend-held.result ↔ EachPair (λ page other. page < other) ps) pages c.ascend-held.ensures)
    (subst (λ z. IsTrue c.has_its_bytes-bytes.result ↔ Bytes z) zones c.has_its_bytes-bytes.ensures)
    (subst (λ places. IsTrue c.have_classes-classes.result ↔ Classes places) delayed_is c.have_classes-classes.ensures)
    (subst (λ blocks. IsTrue c.are_zoned-zoned.result ↔ Zoned blocks) live c.are_zoned-zoned.ensures)
    (subst (λ used. IsTrue c.are_placed-placed.result ↔ Placed used) placed c.are_placed-placed.ensures)
    (subst (λ used. IsTrue c.lie_on-lie.result ↔ AllByRecursion (LiesOn pool_rules state) used) lying c.lie_on-lie.ensures))
