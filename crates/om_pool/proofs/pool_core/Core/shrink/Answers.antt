use Rattle.std.proofs.Common.{ℕ, sym, subst, arith}
use Rattle.om_geom.specs.Classes.{data_pages}
use Rattle.om_model.specs.Pool.Realloc.{resized}
use Rattle.om_pages.specs.Tables.{block_pages}
use Rattle.om_pool.specs.InPlace.{resize_to}
use Rattle.om_pool.specs.Malloc.{IsOwnRun}
use Rattle.om_pool.proofs.InPlaceLaws.{count-most, shrunk-come, shrunk-last, shrunk-leaves, underway-fewer}
use Rattle.om_pool.proofs.pool_core.Core.shrink.Goals as goal

pub overflow_cast-first : goal.overflow_cast-first
overflow_cast-first g c =
    let asks = underway-fewer g.B.Broker c.args.self.now c.args.broker.now c.args.block c.args.size c.requires.come in
    omega (arith, asks.low, c.page_at.ensures)

pub overflow_cast-old : goal.overflow_cast-old
overflow_cast-old g c =
    let asks = underway-fewer g.B.Broker c.args.self.now c.args.broker.now c.args.block c.args.size c.requires.come in
    omega (arith, asks.few, c.pages_of-old.ensures)

pub shrink_block-requires-clause-fewer : goal.shrink_block-requires-clause-fewer
shrink_block-requires-clause-fewer g c =
    let asks = underway-fewer g.B.Broker c.args.self.now c.args.broker.now c.args.block c.args.size c.requires.come in
    omega (arith, asks.fewer, c.pages_of-old.ensures, c.pages_of-new.ensures)

pub shrink_block-requires-clause-few : goal.shrink_block-requires-clause-few
shrink_block-requires-clause-few g c =
    let asks = underway-fewer g.B.Broker c.args.self.now c.args.broker.now c.args.block c.args.size c.requires.come in
    omega (arith, asks.few, c.pages_of-old.ensures)

pub shrink_block-requires-clause-run : goal.shrink_block-requires-clause-run
shrink_block-requires-clause-run g c =
    let own = c.args.self.now.state in
    let asks = underway-fewer g.B.Broker c.args.self.now c.args.broker.now c.args.block c.args.size c.requires.come in
    let Run : ℕ → ℕ → Type 0 = λ n first. IsOwnRun own (block_pages n own.opts.guard) first in
    subst (λ n. Run n c.page_at.result) (sym c.pages_of-old.ensures) (subst (Run (data_pages c.args.block.size)) (sym c.page_at.ensures) asks.run)

pub overflow_add-first : goal.overflow_add-first
overflow_add-first g c =
    let asks = underway-fewer g.B.Broker c.args.self.now c.args.broker.now c.args.block c.args.size c.requires.come in
    omega (arith, asks.low, asks.few, asks.fewer, c.page_at.ensures, c.pages_of-new.ensures, c.with_guard-kept.ensures, count-most c.pages_of-new.result c.shrink_block.new.self.opts.guard)

pub overflow_sub-old : goal.overflow_sub-old
overflow_sub-old g c =
    let asks = underway-fewer g.B.Broker c.args.self.now c.args.broker.now c.args.block c.args.size c.requires.come in
    omega (arith, asks.fewer, c.pages_of-old.ensures, c.pages_of-new.ensures)

pub keep_or_release-requires-clause-some : goal.keep_or_release-requires-clause-some
keep_or_release-requires-clause-some g c =
    let asks = underway-fewer g.B.Broker c.args.self.now c.args.broker.now c.args.block c.args.size c.requires.come in
    omega (arith, asks.fewer, c.pages_of-old.ensures, c.pages_of-new.ensures)

pub keep_or_release-requires-clause-one_zone : goal.keep_or_release-requires-clause-one_zone
keep_or_release-requires-clause-one_zone g c =
    (shrunk-last g.B.Broker c.args.self.now c.args.broker.now c.requires.come.0 c.requires.come.1 c.args.block c.args.size c.args.site c.page_at.result c.pages_of-old.result c.pages_of-new.result c.page_at.ensures c.pages_of-old.ensures c.pages_of-new.ensures
    c.requires.come.2 c.shrink_block.new.self c.shrink_block.ensures.same c.shrink_block.ensures.tables c.with_guard-kept.result c.with_guard-kept.ensures).one_zone

pub keep_or_release-requires-clause-come : goal.keep_or_release-requires-clause-come
keep_or_release-requires-clause-come g c = (
  resized (resize_to c.args.block c.args.size c.args.site) c.requires.come.0,
  shrunk-come g.B.Broker c.args.self.now c.args.broker.now c.requires.come.0 c.requires.come.1 c.args.block c.args.size c.args.site c.page_at.result c.pages_of-old.result c.pages_of-new.result c.page_at.ensures c.pages_of-old.ensures c.pages_of-new.ensures
      c.requires.come.2 c.shrink_block.new.self c.shrink_block.ensures.same c.shrink_block.ensures.tables c.with_guard-kept.result c.with_guard-kept.ensures,
)

pub keep_or_release-requires-clause-free : goal.keep_or_release-requires-clause-free
keep_or_release-requires-clause-free g c =
    (shrunk-last g.B.Broker c.args.self.now c.args.broker.now c.requires.come.0 c.requires.come.1 c.args.block c.args.size c.args.site c.page_at.result c.pages_of-old.result c.pages_of-new.result c.page_at.ensures c.pages_of-old.ensures c.pages_of-new.ensures
    c.requires.come.2 c.shrink_block.new.self c.shrink_block.ensures.same c.shrink_block.ensures.tables c.with_guard-kept.result c.with_guard-kept.ensures).free

pub returns-clause-left : goal.returns-clause-left
returns-clause-left g c state come on =
    let old = c.args.self.now in
    let b = c.args.broker.now in
    let fewer = resized (resize_to c.args.block c.args.size c.args.site) state in
    shrunk-leaves g.B.Broker old b state come c.args.block c.args.size c.args.site c.page_at.result c.pages_of-old.result c.pages_of-new.result c.page_at.ensures c.pages_of-old.ensures c.pages_of-new.ensures
    on c.shrink_block.new.self c.shrink_block.ensures.same c.shrink_block.ensures.tables c.with_guard-kept.result c.with_guard-kept.ensures c.keep_or_release.new.self c.keep_or_release.new.broker c.keep_or_release.result
    (c.keep_or_release.ensures.left fewer
    (shrunk-come g.B.Broker old b state come c.args.block c.args.size c.args.site c.page_at.result c.pages_of-old.result c.pages_of-new.result c.page_at.ensures c.pages_of-old.ensures c.pages_of-new.ensures
    on c.shrink_block.new.self c.shrink_block.ensures.same c.shrink_block.ensures.tables c.with_guard-kept.result c.with_guard-kept.ensures))
