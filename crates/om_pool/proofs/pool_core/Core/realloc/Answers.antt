use Rattle.std.proofs.Common.{ℕ, None, refl, sym, subst}
use Rattle.std.specs.Prelude.{Result}
use Rattle.om_model.specs.Pool.Steps.{unchanged}
use Rattle.om_model.specs.declared.reply.Reply.{Reply}
use Rattle.om_pool.specs.CoreKept.{core_state}
use Rattle.om_pool.specs.Realloc.{FindsBlock, IsAsk, IsDenied, IsResizable, Reallocs}
use Rattle.om_pool.specs.Unasked.{no_answers}
use Rattle.om_pool.specs.declared.moving.Live.{Live}
use Rattle.om_pool.proofs.ReallocLaws.{unasked-answered}
use Rattle.om_pool.proofs.UnderwayLaws.{core-come}
use Rattle.om_pool.proofs.pool_core.Core.realloc.Goals as goal

pub resize-requires-clause-op : goal.resize-requires-clause-op
resize-requires-clause-op g c =
    let Found : Result Live Reply → Type 0 = λ r. FindsBlock c.args.self.now c.args.address c.args.ask.size r in
    let is : IsResizable c.args.self.now c.args.address c.args.ask.size c.in-Ok.live = subst Found c.in-Ok.is c.resizable.ensures in
    subst (IsAsk c.args.self.now c.args.ask) (sym is.at) c.requires.op

pub resize-requires-clause-is : goal.resize-requires-clause-is
resize-requires-clause-is g c =
    let Found : Result Live Reply → Type 0 = λ r. FindsBlock c.args.self.now c.args.address c.args.ask.size r in
    let is : IsResizable c.args.self.now c.args.address c.args.ask.size c.in-Ok.live = subst Found c.in-Ok.is c.resizable.ensures in
    record { at = refl; stands = is.stands; whole = is.whole; fits = is.fits }

pub returns-in-Ok : goal.returns-in-Ok
returns-in-Ok g c =
    let Found : Result Live Reply → Type 0 = λ r. FindsBlock c.args.self.now c.args.address c.args.ask.size r in
    let is : IsResizable c.args.self.now c.args.address c.args.ask.size c.in-Ok.live = subst Found c.in-Ok.is c.resizable.ensures in
    let Done : ℕ → Type 0 = λ a. Reallocs g.B.Broker c.args.self.now c.resize.new.self c.args.broker.now c.resize.new.broker c.args.ask a c.resize.result in
    subst Done is.at c.resize.ensures

pub returns-in-Err : goal.returns-in-Err
returns-in-Err g c =
    let old = c.args.self.now in
    let b = c.args.broker.now in
    let Found : Result Live Reply → Type 0 = λ r. FindsBlock old c.args.address c.args.ask.size r in
    let is : IsDenied old c.args.address c.args.ask.size c.in-Err.reply = subst Found c.in-Err.is c.resizable.ensures in
    unasked-answered g.B.Broker old old c.enter_unasked.new.self b b c.args.ask c.args.address c.in-Err.reply c.empty.result None (unchanged (core_state old) c.in-Err.reply) c.requires.kept c.requires.backed
    (record {
      op = c.requires.op;
      wish = is.wish;
      made_is = is.step_is c.args.ask.site no_answers;
      gives_up = record { run_is = refl; inside = tt };
      reply_is = refl;
      words_are = c.empty.ensures;
      come = core-come g.B.Broker old b c.requires.kept c.requires.backed;
      rules_are = refl;
      room = c.requires.kept.room;
      journal = refl;
      same = c.enter_unasked.ensures.same;
      added = c.enter_unasked.ensures.added;
      left = (refl, refl);
      says = is.says;
    })
