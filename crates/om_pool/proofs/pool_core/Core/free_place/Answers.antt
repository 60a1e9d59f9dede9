use Rattle.std.proofs.Common.{sym, subst, ap, ◌∙◌}
use Rattle.om_model.specs.Pool.Canaries.{broken_in}
use Rattle.om_model.specs.declared.block.Place.{Place}
use Rattle.om_model.specs.declared.operation.Op.TheVariants.{Free}
use Rattle.om_pool.specs.Chunks.{HoldsPlace}
use Rattle.om_pool.specs.CoreKept.{core_state}
use Rattle.om_pool.specs.HoldingsView.{rules_in, tables_in}
use Rattle.om_pool.proofs.CallLaws.{backed-quiet}
use Rattle.om_pool.proofs.CoreLaws.{core-sound}
use Rattle.om_pool.proofs.PlaceLeaving.{block-class, block-place, place-bytes}
use Rattle.om_pool.proofs.Spending.{uses-quiet}
use Rattle.om_pool.proofs.pool_core.Core.free_place.Goals as goal

pub broken_canary-requires-clause-class : goal.broken_canary-requires-clause-class
broken_canary-requires-clause-class g c =
    let old = c.args.self.now in
    block-class (rules_in old.state) (tables_in old.state) (core_state old) (core-sound old c.requires.kept) c.requires.kept.tables c.args.address c.args.place c.args.block c.requires.live

pub broken_canary-requires-clause-byte : goal.broken_canary-requires-clause-byte
broken_canary-requires-clause-byte g c = c.requires.kept.canary

pub broken_canary-requires-clause-bytes : goal.broken_canary-requires-clause-bytes
broken_canary-requires-clause-bytes g c =
    let old = c.args.self.now in
    let Holds : Place → Type 0 = λ p. HoldsPlace old.state.shelf p in
    subst Holds (block-place (rules_in old.state) (tables_in old.state) (core_state old) (core-sound old c.requires.kept) c.requires.kept.tables c.args.address c.args.place c.args.block c.requires.live)
    (place-bytes (rules_in old.state) (tables_in old.state) (core_state old) (core-sound old c.requires.kept) c.requires.kept.tables c.args.address c.args.place c.args.block c.requires.live)

pub delay-requires-clause-whole : goal.delay-requires-clause-whole
delay-requires-clause-whole g c =
    let old = c.args.self.now in
    let shown = ap (λ memory. broken_in (rules_in old.state) memory c.args.block) (sym c.requires.kept.tables.memory) in
    (c.args.block, c.requires.live, shown ∙ sym c.broken_canary.ensures ∙ c.in-None.is)

pub returns-in-Some-clause-backed : goal.returns-in-Some-clause-backed
returns-in-Some-clause-backed g c = backed-quiet g.B.Broker c.args.self.now c.tell.new.self c.args.broker.now c.args.who (Free c.args.address) c.tell.result c.tell.ensures.quiet c.requires.backed

pub returns-in-Some-clause-uses : goal.returns-in-Some-clause-uses
returns-in-Some-clause-uses g c = uses-quiet g.B.Broker c.args.self.now c.tell.new.self c.args.broker.now c.args.who (Free c.args.address) c.tell.result c.tell.ensures.quiet c.tell.ensures.reply
