use Rattle.std.proofs.Common.{None, refl, sym, ap, ◌∙◌, arith}
use Rattle.om_model.specs.Pool.Free.{free}
use Rattle.om_model.specs.Pool.State.{drawn_more}
use Rattle.om_model.specs.Pool.Steps.{Step}
use Rattle.om_model.specs.declared.operation.Op.TheVariants.{Free}
use Rattle.om_pool.specs.CoreKept.{core_state}
use Rattle.om_pool.specs.HoldingsView.{rules_in}
use Rattle.om_pool.specs.PoolView.{says_no_run}
use Rattle.om_pool.proofs.CoreLaws.{core_drawn}
use Rattle.om_pool.proofs.FreeLaws.{again-says, again-seen, told-by}
use Rattle.om_pool.proofs.pool_core.Core.free_again.Goals as goal

pub draw-word-requires : goal.draw-word-requires
draw-word-requires c = let few = core_drawn c.args.self.now c.requires.kept c.requires.room.short in omega arith

pub returns : goal.returns
returns c =
    let old = c.args.self.now in
    let is = c.requires.kept in
    let start = core_state old in
    let draws = c.draw-word.ensures in
    let enters = c.enter_free.ensures in
    let answer = c.reply_again-reply.ensures in
    let seen = again-seen old.state start is.tables is.drawn c.draw-word.new.self draws.same c.draw-word.result c.slot_by.result draws.word c.slot_by.ensures.slot c.args.address c.sees_again.result c.sees_again.ensures in
    let tells = told-by old c.enter_free.new.self c.args.who (Free c.args.address) c.reply_again-reply.result (free (rules_in old.state) start c.args.address) c.draw-word.new.self c.draw-word.result c.one.result
    is refl refl (c.requires.is ∙ seen ∙ ap (λ r. let step : Step = record { reply = r; words = 1; release = None; next = drawn_more 1 start } in step) (sym answer))
    draws.word draws.same c.one.ensures enters.added enters.same in
    record { kept = tells.kept; reply = ap says_no_run answer ∙ again-says c.sees_again.result; quiet = tells.quiet; taken = tells.taken }
