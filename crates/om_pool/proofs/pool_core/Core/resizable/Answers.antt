use Rattle.std.proofs.Common.{refl, sym, subst, ◌∙◌}
use mathlib.Core.Logic.{⊎_elim}
use Rattle.om_model.specs.Pool.Standing as at
use Rattle.om_model.specs.declared.block.Place.{Place}
use Rattle.om_model.specs.declared.reply.Fault.TheVariants as fault
use Rattle.om_model.specs.declared.reply.Reply.TheVariants as reply
use Rattle.om_pool.specs.Chunks.{HoldsPlace}
use Rattle.om_pool.specs.CoreKept.{core_state}
use Rattle.om_pool.specs.HoldingsView.{rules_in, tables_in}
use Rattle.om_pool.specs.declared.standing.Standing.TheVariants as code
use Rattle.om_pool.proofs.CoreLaws.{core-sound, core-tied}
use Rattle.om_pool.proofs.FreeLaws.{means-at}
use Rattle.om_pool.proofs.PlaceLeaving.{block-class, block-place, place-bytes}
use Rattle.om_pool.proofs.FoundLaws.{denied-at, finds-block, finds-place, finds-broken}
use Rattle.om_pool.proofs.pool_core.Core.resizable.Goals as goal

pub standing-requires : goal.standing-requires
standing-requires c = core-tied c.args.self.now c.requires.kept

pub broken_canary-requires-clause-class : goal.broken_canary-requires-clause-class
broken_canary-requires-clause-class c =
    let old = c.args.self.now in
    let live = c.in-LivePlace in
    block-class (rules_in old.state) (tables_in old.state) (core_state old) (core-sound old c.requires.kept) c.requires.kept.tables c.args.address live.place live.block
    (means-at old c.args.address c.requires.kept (code.LivePlace live.place live.block) (sym live.is ∙ c.standing.ensures))

pub broken_canary-requires-clause-bytes : goal.broken_canary-requires-clause-bytes
broken_canary-requires-clause-bytes c =
    let old = c.args.self.now in
    let live = c.in-LivePlace in
    let here = means-at old c.args.address c.requires.kept (code.LivePlace live.place live.block) (sym live.is ∙ c.standing.ensures) in
    let Holds : Place → Type 0 = λ p. HoldsPlace old.state.shelf p in
    subst Holds (block-place (rules_in old.state) (tables_in old.state) (core_state old) (core-sound old c.requires.kept) c.requires.kept.tables c.args.address live.place live.block here)
    (place-bytes (rules_in old.state) (tables_in old.state) (core_state old) (core-sound old c.requires.kept) c.requires.kept.tables c.args.address live.place live.block here)

pub returns-in-PageBlock : goal.returns-in-PageBlock
returns-in-PageBlock c =
    let old = c.args.self.now in
    let block = c.in-PageBlock.block in
    let here = means-at old c.args.address c.requires.kept (code.PageBlock block) (sym c.in-PageBlock.is ∙ c.standing.ensures) in
    finds-block old c.requires.kept c.args.address c.args.size block here c.if_fits.result c.if_fits.ensures

pub returns-in-Some : goal.returns-in-Some
returns-in-Some c =
    let old = c.args.self.now in
    let live = c.in-LivePlace in
    let here = means-at old c.args.address c.requires.kept (code.LivePlace live.place live.block) (sym live.is ∙ c.standing.ensures) in
    finds-broken old c.requires.kept c.args.address c.args.size live.place live.block here c.in-Some.offset (sym c.broken_canary.ensures ∙ c.in-Some.is)

pub returns-in-None : goal.returns-in-None
returns-in-None c =
    let old = c.args.self.now in
    let live = c.in-LivePlace in
    let here = means-at old c.args.address c.requires.kept (code.LivePlace live.place live.block) (sym live.is ∙ c.standing.ensures) in
    finds-place old c.requires.kept c.args.address c.args.size live.place live.block here (sym c.broken_canary.ensures ∙ c.in-None.is) c.if_fits-in-None.result c.if_fits-in-None.ensures

pub returns-in-DelayedPlace : goal.returns-in-DelayedPlace
returns-in-DelayedPlace c =
    let place = c.in-DelayedPlace.place in
    denied-at c.args.self.now c.args.address c.args.size (at.DelayedPlace place) (means-at c.args.self.now c.args.address c.requires.kept (code.DelayedPlace place) (sym c.in-DelayedPlace.is ∙ c.standing.ensures)) (reply.Fault fault.DoubleFree) refl (λ site answers. refl) refl

pub returns-in-FreePage : goal.returns-in-FreePage
returns-in-FreePage c =
    let old = c.args.self.now in
    let bogus = reply.Fault fault.Bogus in
    ⊎_elim
    (λ is. denied-at old c.args.address c.args.size at.FreePage (means-at old c.args.address c.requires.kept code.FreePage (sym is ∙ c.standing.ensures)) bogus refl (λ site answers. refl) refl)
    (⊎_elim
    (λ is. denied-at old c.args.address c.args.size at.InPageBlock (means-at old c.args.address c.requires.kept code.InPageBlock (sym is ∙ c.standing.ensures)) bogus refl (λ site answers. refl) refl)
    (λ is. denied-at old c.args.address c.args.size at.OnGuard (means-at old c.args.address c.requires.kept code.OnGuard (sym is ∙ c.standing.ensures)) bogus refl (λ site answers. refl) refl))
    c.in-FreePage.is

pub returns-in-Unaligned : goal.returns-in-Unaligned
returns-in-Unaligned c =
    denied-at c.args.self.now c.args.address c.args.size at.Unaligned (means-at c.args.self.now c.args.address c.requires.kept code.Unaligned (sym c.in-Unaligned.is ∙ c.standing.ensures)) (reply.Fault fault.ModifiedPointer) refl (λ site answers. refl) refl

pub returns-in-FreePlace : goal.returns-in-FreePlace
returns-in-FreePlace c =
    denied-at c.args.self.now c.args.address c.args.size at.FreePlace (means-at c.args.self.now c.args.address c.requires.kept code.FreePlace (sym c.in-FreePlace.is ∙ c.standing.ensures)) (reply.Fault fault.AlreadyFree) refl (λ site answers. refl) refl

pub returns-in-NotHeld : goal.returns-in-NotHeld
returns-in-NotHeld c =
    denied-at c.args.self.now c.args.address c.args.size at.NotHeld (means-at c.args.self.now c.args.address c.requires.kept code.NotHeld (sym c.in-NotHeld.is ∙ c.standing.ensures)) reply.Miss refl (λ site answers. refl) refl
