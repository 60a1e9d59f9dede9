use Rattle.std.proofs.Common.{None, refl, sym, ap, subst}
use Rattle.std.proofs.lemmas.Bool.{false≢true}
use Rattle.om_model.specs.Pool.Journal.{MayAnswer}
use Rattle.om_model.specs.Pool.Resizing.{Moves}
use Rattle.om_model.specs.Pool.Steps.{Wish}
use Rattle.om_pool.specs.CoreKept.{core_state}
use Rattle.om_pool.specs.HoldingsView.{rules_in}
use Rattle.om_pool.specs.Moving.{answers_to}
use Rattle.om_pool.specs.declared.pool_core.Core.{Core}
use Rattle.om_pool.proofs.CoreLaws.{core_drawn}
use Rattle.om_pool.proofs.ReallocLaws.{moving-answered, way-step, way-wish}
use Rattle.om_pool.proofs.UnderwayLaws.{core-come}
use Rattle.om_pool.proofs.pool_core.Core.move_block.Goals as goal

pub relocate-moving-requires-clause-come : goal.relocate-moving-requires-clause-come
relocate-moving-requires-clause-come g c =
    let old = c.args.self.now in
    (core_state old, core-come g.B.Broker old c.args.broker.now c.requires.kept c.requires.backed, c.requires.is.is.stands)

pub relocate-moving-requires-clause-fits : goal.relocate-moving-requires-clause-fits
relocate-moving-requires-clause-fits g c = c.requires.is.is.fits

pub relocate-moving-requires-clause-drawn : goal.relocate-moving-requires-clause-drawn
relocate-moving-requires-clause-drawn g c = core_drawn c.args.self.now c.requires.kept c.requires.room.short

pub returns : goal.returns
returns g c =
    let old = c.args.self.now in
    let b = c.args.broker.now in
    let live = c.args.live in
    let ask = c.args.ask in
    let is = c.requires.is in
    let moved = c.relocate-moving.ensures in
    let moving = c.relocate-moving.result in
    let rules = rules_in old.state in
    let state = core_state old in
    let moves = moved.moved state (core-come g.B.Broker old b c.requires.kept c.requires.backed) is.is.stands in
    let May : Wish → Type 0 = λ wish. MayAnswer rules state wish (answers_to moving) in
    moving-answered g.B.Broker old c.relocate-moving.new.self c.enter_moving.new.self b b c.relocate-moving.new.broker ask live moving None None c.requires.kept c.requires.backed
    (record {
      op = is.op;
      fits = is.is.fits;
      may = subst May (sym (way-wish old ask.size live is.is Moves is.way_is)) moves.may;
      made_is = way-step old ask.size live is.is Moves is.way_is ask.site (answers_to moving);
      asked_at = (refl, refl);
      not_given = refl;
      held_is = refl;
      wished = λ some. absurd (false≢true some);
      moves = moves;
      room = moved.empty;
      journal = ap (λ (x : Core). x.journal.items) moved.same;
      same = c.enter_moving.ensures.same;
      added = c.enter_moving.ensures.added;
    })
