use Rattle.om_model.specs.Pool.Free.{without_page_block}
use Rattle.om_model.specs.Pool.Standing.{PageBlock}
use Rattle.om_pool.specs.CoreKept.{core_state}
use Rattle.om_pool.specs.HoldingsView.{rules_in}
use Rattle.om_pool.proofs.FreeLaws.{block-stands, free-done, frees-at}
use Rattle.om_pool.proofs.UnderwayLaws.{core-come}
use Rattle.om_pool.proofs.pool_core.Core.free_block.Goals as goal

pub leave_block-release-requires : goal.leave_block-release-requires
leave_block-release-requires g c =
    let old = c.args.self.now in
    record { come = (core_state old, core-come g.B.Broker old c.args.broker.now c.requires.kept c.requires.backed, block-stands old c.requires.kept c.args.address c.args.block c.requires.block) }

pub returns : goal.returns
returns g c =
    let old = c.args.self.now in
    let b = c.args.broker.now in
    let block = c.args.block in
    let start = core_state old in
    let leaves = c.leave_block-release.ensures in
    let done = free-done g.B.Broker old c.leave_block-release.new.self c.enter_free.new.self b c.leave_block-release.new.broker c.args.who c.args.address 0 c.empty.result
    (without_page_block (rules_in old.state) start block) c.leave_block-release.result c.requires.kept c.requires.backed (frees-at old c.args.address (PageBlock block) c.requires.block) c.empty.ensures
    (leaves.left start (core-come g.B.Broker old b c.requires.kept c.requires.backed) (block-stands old c.requires.kept c.args.address block c.requires.block)) leaves.same c.enter_free.ensures.same c.enter_free.ensures.added in
    record { kept = done.kept; backed = done.backed; uses = done.uses; taken = done.taken }
