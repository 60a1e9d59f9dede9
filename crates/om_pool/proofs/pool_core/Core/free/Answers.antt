use Rattle.std.proofs.Common.{sym, ap, ◌∙◌}
use mathlib.Core.Logic.{⊎_elim}
use Rattle.om_model.specs.Pool.Standing as at
use Rattle.om_model.specs.declared.operation.Op.TheVariants.{Free}
use Rattle.om_pool.proofs.CallLaws.{backed-quiet}
use Rattle.om_pool.specs.PoolView.{says_no_run}
use Rattle.om_pool.specs.declared.standing.Standing.TheVariants as code
use Rattle.om_pool.proofs.CoreLaws.{core-tied}
use Rattle.om_pool.proofs.FreeLaws.{frees-at, means-at}
use Rattle.om_pool.proofs.Spending.{uses-quiet}
use Rattle.om_pool.proofs.pool_core.Core.free.Goals as goal

pub standing-requires : goal.standing-requires
standing-requires g c = core-tied c.args.self.now c.requires.kept

pub answer-requires-clause-is : goal.answer-requires-clause-is
answer-requires-clause-is g c = frees-at c.args.self.now c.args.address at.NotHeld (means-at c.args.self.now c.args.address c.requires.kept code.NotHeld (sym c.in-NotHeld.is ∙ c.standing.ensures))

pub answer-requires-in-FreePage-clause-is : goal.answer-requires-in-FreePage-clause-is
answer-requires-in-FreePage-clause-is g c = ⊎_elim
    (λ is. frees-at c.args.self.now c.args.address at.FreePage (means-at c.args.self.now c.args.address c.requires.kept code.FreePage (sym is ∙ c.standing.ensures)))
    (⊎_elim
    (λ is. frees-at c.args.self.now c.args.address at.InPageBlock (means-at c.args.self.now c.args.address c.requires.kept code.InPageBlock (sym is ∙ c.standing.ensures)))
    (λ is. frees-at c.args.self.now c.args.address at.OnGuard (means-at c.args.self.now c.args.address c.requires.kept code.OnGuard (sym is ∙ c.standing.ensures))))
    c.in-FreePage.is

pub answer-requires-in-Unaligned-clause-is : goal.answer-requires-in-Unaligned-clause-is
answer-requires-in-Unaligned-clause-is g c = frees-at c.args.self.now c.args.address at.Unaligned (means-at c.args.self.now c.args.address c.requires.kept code.Unaligned (sym c.in-Unaligned.is ∙ c.standing.ensures))

pub answer-requires-in-FreePlace-clause-is : goal.answer-requires-in-FreePlace-clause-is
answer-requires-in-FreePlace-clause-is g c = frees-at c.args.self.now c.args.address at.FreePlace (means-at c.args.self.now c.args.address c.requires.kept code.FreePlace (sym c.in-FreePlace.is ∙ c.standing.ensures))

pub free_again-requires-clause-is : goal.free_again-requires-clause-is
free_again-requires-clause-is g c =
    let place = c.in-DelayedPlace.place in
    frees-at c.args.self.now c.args.address (at.DelayedPlace place) (means-at c.args.self.now c.args.address c.requires.kept (code.DelayedPlace place) (sym c.in-DelayedPlace.is ∙ c.standing.ensures))

pub free_place-requires-clause-live : goal.free_place-requires-clause-live
free_place-requires-clause-live g c =
    let live = c.in-LivePlace in
    means-at c.args.self.now c.args.address c.requires.kept (code.LivePlace live.place live.block) (sym live.is ∙ c.standing.ensures)

pub free_block-requires-clause-block : goal.free_block-requires-clause-block
free_block-requires-clause-block g c =
    let here = c.in-PageBlock in
    means-at c.args.self.now c.args.address c.requires.kept (code.PageBlock here.block) (sym here.is ∙ c.standing.ensures)

pub returns-in-NotHeld-clause-backed : goal.returns-in-NotHeld-clause-backed
returns-in-NotHeld-clause-backed g c = backed-quiet g.B.Broker c.args.self.now c.answer.new.self c.args.broker.now c.args.who (Free c.args.address) c.answer.result c.answer.ensures.quiet c.requires.backed

pub returns-in-FreePage-clause-backed : goal.returns-in-FreePage-clause-backed
returns-in-FreePage-clause-backed g c = backed-quiet g.B.Broker c.args.self.now c.answer-in-FreePage.new.self c.args.broker.now c.args.who (Free c.args.address) c.answer-in-FreePage.result c.answer-in-FreePage.ensures.quiet c.requires.backed

pub returns-in-Unaligned-clause-backed : goal.returns-in-Unaligned-clause-backed
returns-in-Unaligned-clause-backed g c = backed-quiet g.B.Broker c.args.self.now c.answer-in-Unaligned.new.self c.args.broker.now c.args.who (Free c.args.address) c.answer-in-Unaligned.result c.answer-in-Unaligned.ensures.quiet c.requires.backed

pub returns-in-FreePlace-clause-backed : goal.returns-in-FreePlace-clause-backed
returns-in-FreePlace-clause-backed g c = backed-quiet g.B.Broker c.args.self.now c.answer-in-FreePlace.new.self c.args.broker.now c.args.who (Free c.args.address) c.answer-in-FreePlace.result c.answer-in-FreePlace.ensures.quiet c.requires.backed

pub returns-in-DelayedPlace-clause-backed : goal.returns-in-DelayedPlace-clause-backed
returns-in-DelayedPlace-clause-backed g c = backed-quiet g.B.Broker c.args.self.now c.free_again.new.self c.args.broker.now c.args.who (Free c.args.address) c.free_again.result c.free_again.ensures.quiet c.requires.backed

pub returns-in-NotHeld-clause-uses : goal.returns-in-NotHeld-clause-uses
returns-in-NotHeld-clause-uses g c = uses-quiet g.B.Broker c.args.self.now c.answer.new.self c.args.broker.now c.args.who (Free c.args.address) c.answer.result c.answer.ensures.quiet (ap says_no_run c.answer.ensures.reply)

pub returns-in-FreePage-clause-uses : goal.returns-in-FreePage-clause-uses
returns-in-FreePage-clause-uses g c = uses-quiet g.B.Broker c.args.self.now c.answer-in-FreePage.new.self c.args.broker.now c.args.who (Free c.args.address) c.answer-in-FreePage.result c.answer-in-FreePage.ensures.quiet (ap says_no_run c.answer-in-FreePage.ensures.reply)

pub returns-in-Unaligned-clause-uses : goal.returns-in-Unaligned-clause-uses
returns-in-Unaligned-clause-uses g c = uses-quiet g.B.Broker c.args.self.now c.answer-in-Unaligned.new.self c.args.broker.now c.args.who (Free c.args.address) c.answer-in-Unaligned.result c.answer-in-Unaligned.ensures.quiet (ap says_no_run c.answer-in-Unaligned.ensures.reply)

pub returns-in-FreePlace-clause-uses : goal.returns-in-FreePlace-clause-uses
returns-in-FreePlace-clause-uses g c = uses-quiet g.B.Broker c.args.self.now c.answer-in-FreePlace.new.self c.args.broker.now c.args.who (Free c.args.address) c.answer-in-FreePlace.result c.answer-in-FreePlace.ensures.quiet (ap says_no_run c.answer-in-FreePlace.ensures.reply)

pub returns-in-DelayedPlace-clause-uses : goal.returns-in-DelayedPlace-clause-uses
returns-in-DelayedPlace-clause-uses g c = uses-quiet g.B.Broker c.args.self.now c.free_again.new.self c.args.broker.now c.args.who (Free c.args.address) c.free_again.result c.free_again.ensures.quiet c.free_again.ensures.reply
