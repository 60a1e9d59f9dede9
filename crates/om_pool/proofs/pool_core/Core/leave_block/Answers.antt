use Rattle.std.proofs.Common.{List, refl, sym, subst, ap, ◌∙◌, arith}
use Rattle.om_geom.specs.Classes.{data_pages}
use Rattle.om_model.specs.Pool.Runs.{Run}
use Rattle.om_pages.specs.Kinds.{is_held}
use Rattle.om_pages.specs.Tables.{AreAll, block_pages}
use Rattle.om_pages.specs.declared.kind.PageKind.{PageKind}
use Rattle.om_pool.specs.TableSteps.{freed_run}
use Rattle.om_pool.specs.Tables.{Tables}
use Rattle.om_pool.proofs.BlockLeaving.{come-pages, left-come, left-free, leaves-block, state_left}
use Rattle.om_pool.proofs.CoreLaws.{same-both}
use Rattle.om_pool.proofs.pool_core.Core.leave_block.Goals as goal

pub overflow_cast-first : goal.overflow_cast-first
overflow_cast-first g c =
    let old = c.args.self.now in
    let come = c.requires.come in
    let has = come-pages g.B.Broker old c.args.broker.now come.0 come.1 c.args.block come.2 c.page_at.result (data_pages c.args.block.size) (block_pages (data_pages c.args.block.size) old.state.opts.guard) c.page_at.ensures refl refl in
    omega (arith, has.there)

pub overflow_cast-pages : goal.overflow_cast-pages
overflow_cast-pages g c =
    let old = c.args.self.now in
    let come = c.requires.come in
    let has = come-pages g.B.Broker old c.args.broker.now come.0 come.1 c.args.block come.2 c.page_at.result c.pages_of-pages.result (block_pages c.pages_of-pages.result old.state.opts.guard) c.page_at.ensures c.pages_of-pages.ensures refl in
    omega (arith, has.few)

pub with_guard-n-requires : goal.with_guard-n-requires
with_guard-n-requires g c =
    let old = c.args.self.now in
    let come = c.requires.come in
    (come-pages g.B.Broker old c.args.broker.now come.0 come.1 c.args.block come.2 c.page_at.result c.pages_of-pages.result (block_pages c.pages_of-pages.result old.state.opts.guard) c.page_at.ensures c.pages_of-pages.ensures refl).few

pub fill_freed_pages-requires : goal.fill_freed_pages-requires
fill_freed_pages-requires g c =
    let come = c.requires.come in
    let has = come-pages g.B.Broker c.args.self.now c.args.broker.now come.0 come.1 c.args.block come.2 c.page_at.result c.pages_of-pages.result c.with_guard-n.result c.page_at.ensures c.pages_of-pages.ensures c.with_guard-n.ensures in
    record { there = has.there; few = has.few; some = has.some; bytes = has.bytes }

pub free_pages-requires : goal.free_pages-requires
free_pages-requires g c =
    let come = c.requires.come in
    let has = come-pages g.B.Broker c.args.self.now c.args.broker.now come.0 come.1 c.args.block come.2 c.page_at.result c.pages_of-pages.result c.with_guard-n.result c.page_at.ensures c.pages_of-pages.ensures c.with_guard-n.ensures in
    let All : List PageKind → Type 0 = λ t. AreAll is_held t c.page_at.result c.with_guard-n.result in
    record { held = subst All (sym (ap (λ (t : Tables). t.pages) c.fill_freed_pages.ensures.tables)) has.held }

pub keep_or_release-requires : goal.keep_or_release-requires
keep_or_release-requires g c =
    let old = c.args.self.now in
    let b = c.args.broker.now in
    let block = c.args.block in
    let first = c.page_at.result in
    let first_at = c.page_at.ensures in
    let pages = c.pages_of-pages.result in
    let pages_are = c.pages_of-pages.ensures in
    let n = c.with_guard-n.result in
    let n_is = c.with_guard-n.ensures in
    let come = c.requires.come in
    let has = come-pages g.B.Broker old b come.0 come.1 block come.2 first pages n first_at pages_are n_is in
    let run : Run = record { first = first; count = n } in
    let own = c.free_pages.new.self in
    let same = same-both old.state c.fill_freed_pages.new.self own c.fill_freed_pages.ensures.same c.free_pages.ensures.same in
    let freed_is = c.free_pages.ensures.tables ∙ ap (λ t. freed_run t run) c.fill_freed_pages.ensures.tables in
    record {
      some = has.more;
      one_zone = has.one_zone;
      come = (state_left g.B.Broker old b come.0 come.1 block come.2 first pages n first_at pages_are n_is, left-come g.B.Broker old b come.0 come.1 block come.2 first pages n first_at pages_are n_is own same freed_is);
      free = left-free g.B.Broker old b come.0 come.1 block come.2 first pages n first_at pages_are n_is own same freed_is;
    }

pub returns : goal.returns
returns g c =
    let old = c.args.self.now in
    let b = c.args.broker.now in
    let block = c.args.block in
    let first = c.page_at.result in
    let first_at = c.page_at.ensures in
    let pages = c.pages_of-pages.result in
    let pages_are = c.pages_of-pages.ensures in
    let n = c.with_guard-n.result in
    let n_is = c.with_guard-n.ensures in
    let run : Run = record { first = first; count = n } in
    let own = c.free_pages.new.self in
    let same = same-both old.state c.fill_freed_pages.new.self own c.fill_freed_pages.ensures.same c.free_pages.ensures.same in
    let freed_is = c.free_pages.ensures.tables ∙ ap (λ t. freed_run t run) c.fill_freed_pages.ensures.tables in
    let keeps = c.keep_or_release.ensures in
    record {
      left = λ state come on.
          leaves-block g.B.Broker old b state come block on first pages n first_at pages_are n_is own same freed_is c.keep_or_release.new.self c.keep_or_release.new.broker c.keep_or_release.result
          (keeps.left (state_left g.B.Broker old b state come block on first pages n first_at pages_are n_is) (left-come g.B.Broker old b state come block on first pages n first_at pages_are n_is own same freed_is));
      same = keeps.same;
    }
