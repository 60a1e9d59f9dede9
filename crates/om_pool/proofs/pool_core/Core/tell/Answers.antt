use Rattle.std.proofs.Common.{refl, arith}
use Rattle.om_model.specs.Pool.Free.{free}
use Rattle.om_model.specs.declared.operation.Op.TheVariants.{Free}
use Rattle.om_model.specs.declared.reply.Reply.TheVariants.{Fault}
use Rattle.om_pool.specs.CoreKept.{core_state}
use Rattle.om_pool.specs.HoldingsView.{rules_in}
use Rattle.om_pool.proofs.CoreLaws.{core_drawn}
use Rattle.om_pool.proofs.FreeLaws.{told-by}
use Rattle.om_pool.proofs.pool_core.Core.tell.Goals as goal

pub draw-word-requires : goal.draw-word-requires
draw-word-requires c = let few = core_drawn c.args.self.now c.requires.kept c.requires.room.short in omega arith

pub returns : goal.returns
returns c =
    let old = c.args.self.now in
    let draws = c.draw-word.ensures in
    let enters = c.enter_free.ensures in
    let tells = told-by old c.enter_free.new.self c.args.who (Free c.args.address) (Fault c.args.fault) (free (rules_in old.state) (core_state old) c.args.address) c.draw-word.new.self c.draw-word.result c.one.result
    c.requires.kept refl refl c.requires.is draws.word draws.same c.one.ensures enters.added enters.same in
    record { kept = tells.kept; reply = c.requires.known; quiet = tells.quiet; taken = tells.taken }
