use Rattle.std.proofs.Common.{◌≡◌, false, ◌≤◌, ◌<◌, ◌-◌, ◌^◌, Option, Some, arith, refl, sym, ap, ◌∙◌, subst}
use Rattle.om_broker.specs.declared.broker.ClaimAt.{ClaimAt}
use Rattle.om_broker.specs.declared.broker.ClaimAt.TheVariants as at
use Rattle.om_model.specs.Pool.Journal.{MayAnswer}
use Rattle.om_model.specs.Pool.Malloc.{is_too_large}
use Rattle.om_model.specs.Pool.Resizing.{Claims, pages_after}
use Rattle.om_model.specs.Pool.Steps.{Answers, Wish}
use Rattle.om_pool.specs.CoreKept.{core_state, IsLookRoom}
use Rattle.om_pool.specs.HoldingsView.{rules_in}
use Rattle.om_pool.specs.Moving.{MovesTo, StandsAs, resize_in}
use Rattle.om_pool.specs.declared.in_place.Growth.TheVariants.{Grown, Taken}
use Rattle.om_pool.specs.declared.pool_core.Core.{Core}
use Rattle.om_pool.proofs.CoreLaws.{core_drawn}
use Rattle.om_pool.proofs.ReallocLaws.{claims-after, comes-by, grown-answered, moving-answered, way-step, way-wish}
use Rattle.om_pool.proofs.TraceLaws.{wished_run}
use Rattle.om_pool.proofs.UnderwayLaws.{core-come}
use Rattle.om_pool.proofs.pool_core.Core.claim_or_move.Goals as goal

pub claim_after-requires-clause-come : goal.claim_after-requires-clause-come
claim_after-requires-clause-come g c =
    let old = c.args.self.now in
    (core_state old, core-come g.B.Broker old c.args.broker.now c.requires.kept c.requires.backed, comes-by old c.args.ask.size c.args.live c.requires.is.is Claims c.requires.is.way_is c.requires.kept)

pub relocate-moving-requires-clause-come : goal.relocate-moving-requires-clause-come
relocate-moving-requires-clause-come g c =
    let old = c.args.self.now in
    let taken = claims-after g.B.Broker old c.claim_after.new.self c.args.broker.now c.claim_after.new.broker c.args.ask c.args.live c.claim_after.result (Taken c.in-Taken.look) c.requires.kept c.requires.backed c.requires.is c.claim_after.ensures.grown c.in-Taken.is in
    let Stands : Core → Type 0 = λ x. StandsAs (rules_in x.state) (core_state old) c.args.live.block c.args.live.place in
    (core_state old, taken.come, subst Stands (sym taken.unchanged) c.requires.is.is.stands)

pub relocate-moving-requires-clause-fits : goal.relocate-moving-requires-clause-fits
relocate-moving-requires-clause-fits g c =
    let old = c.args.self.now in
    let taken = claims-after g.B.Broker old c.claim_after.new.self c.args.broker.now c.claim_after.new.broker c.args.ask c.args.live c.claim_after.result (Taken c.in-Taken.look) c.requires.kept c.requires.backed c.requires.is c.claim_after.ensures.grown c.in-Taken.is in
    let Fits : Core → Type 0 = λ x. is_too_large (rules_in x.state) c.args.ask.size ≡ false in
    subst Fits (sym taken.unchanged) c.requires.is.is.fits

pub relocate-moving-requires-clause-page : goal.relocate-moving-requires-clause-page
relocate-moving-requires-clause-page g c =
    let old = c.args.self.now in
    let taken = claims-after g.B.Broker old c.claim_after.new.self c.args.broker.now c.claim_after.new.broker c.args.ask c.args.live c.claim_after.result (Taken c.in-Taken.look) c.requires.kept c.requires.backed c.requires.is c.claim_after.ensures.grown c.in-Taken.is in
    let Room : Core → Type 0 = λ x. 1 ≤ x.state.chunks.spare in
    subst Room (sym taken.unchanged) c.requires.room.page

pub relocate-moving-requires-clause-drawn : goal.relocate-moving-requires-clause-drawn
relocate-moving-requires-clause-drawn g c =
    let old = c.args.self.now in
    let taken = claims-after g.B.Broker old c.claim_after.new.self c.args.broker.now c.claim_after.new.broker c.args.ask c.args.live c.claim_after.result (Taken c.in-Taken.look) c.requires.kept c.requires.backed c.requires.is c.claim_after.ensures.grown c.in-Taken.is in
    let Few : Core → Type 0 = λ x. x.state.words.place < 2 ^ 63 - 2 in
    subst Few (sym taken.unchanged) (core_drawn old c.requires.kept c.requires.room.short)

pub relocate-moving-requires-clause-moves : goal.relocate-moving-requires-clause-moves
relocate-moving-requires-clause-moves g c =
    let old = c.args.self.now in
    let taken = claims-after g.B.Broker old c.claim_after.new.self c.args.broker.now c.claim_after.new.broker c.args.ask c.args.live c.claim_after.result (Taken c.in-Taken.look) c.requires.kept c.requires.backed c.requires.is c.claim_after.ensures.grown c.in-Taken.is in
    let spent = (taken.asked).spent in
    omega (arith, spent.1, c.requires.moves)

pub returns-in-Grown : goal.returns-in-Grown
returns-in-Grown g c =
    let old = c.args.self.now in
    let mid = c.claim_after.new.self in
    let enters = c.enter_grown.ensures in
    let claim = c.in-Grown.claim in
    grown-answered g.B.Broker old mid c.enter_grown.new.self c.args.broker.now c.claim_after.new.broker c.args.ask c.args.live claim c.enter_grown.result c.requires.kept c.requires.backed
    (record {
      is = c.requires.is;
      grows = claims-after g.B.Broker old mid c.args.broker.now c.claim_after.new.broker c.args.ask c.args.live c.claim_after.result (Grown claim) c.requires.kept c.requires.backed c.requires.is c.claim_after.ensures.grown c.in-Grown.is;
      reply_is = enters.reply;
      room = subst (λ (x : Core). IsLookRoom x.room) (sym c.claim_after.ensures.same) c.requires.kept.room;
      journal = ap (λ (x : Core). x.journal.items) c.claim_after.ensures.same;
      same = enters.same;
      added = enters.added;
    })

pub returns-in-Taken : goal.returns-in-Taken
returns-in-Taken g c =
    let old = c.args.self.now in
    let b = c.args.broker.now in
    let live = c.args.live in
    let ask = c.args.ask in
    let is = c.requires.is in
    let rules = rules_in old.state in
    let state = core_state old in
    let mid = c.claim_after.new.self in
    let start = c.claim_after.new.broker in
    let taken = claims-after g.B.Broker old mid b start ask live c.claim_after.result (Taken c.in-Taken.look) c.requires.kept c.requires.backed is c.claim_after.ensures.grown c.in-Taken.is in
    let moved = c.relocate-moving.ensures in
    let moving = c.relocate-moving.result in
    let Stands : Core → Type 0 = λ x. StandsAs (rules_in x.state) state live.block live.place in
    let Moves : Core → Type 0 = λ x. MovesTo g.B.Broker (rules_in x.state) c.relocate-moving.new.self start c.relocate-moving.new.broker state (resize_in live ask.size ask.site) moving in
    let moves = subst Moves taken.unchanged (moved.moved state taken.come (subst Stands (sym taken.unchanged) is.is.stands)) in
    let run = pages_after rules live.block ask.size in
    let given : Option ClaimAt = Some (at.Taken c.in-Taken.look) in
    let answers : Answers = record { claim = moving.claim; looks = (moving.looks).items; taken = Some c.in-Taken.look } in
    let wish = way-wish old ask.size live is.is Claims is.way_is in
    let May : Wish → Type 0 = λ w. MayAnswer rules state w answers in
    moving-answered g.B.Broker old c.relocate-moving.new.self c.enter_moving.new.self b start c.relocate-moving.new.broker ask live moving (Some run) given c.requires.kept c.requires.backed
    (record {
      op = is.op;
      fits = is.is.fits;
      may = subst May (sym wish) ((taken.asked).found, moves.may);
      made_is = way-step old ask.size live is.is Claims is.way_is ask.site answers;
      asked_at = taken.asked;
      not_given = refl;
      held_is = refl;
      wished = λ some. ap wished_run wish;
      moves = moves;
      room = moved.empty;
      journal = ap (λ (x : Core). x.journal.items) moved.same ∙ ap (λ (x : Core). x.journal.items) taken.unchanged;
      same = c.enter_moving.ensures.same;
      added = c.enter_moving.ensures.added;
    })
