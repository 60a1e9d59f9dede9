use Rattle.std.proofs.Common.{◌≡◌, ◌<◌, true, List, length, inr, sym, subst, ap, ◌∙◌, arith}
use Rattle.om_opts.specs.declared.options.Opts.{Opts}
use Rattle.om_pages.specs.Kinds.{is_held}
use Rattle.om_pages.specs.TableLaws.{kind_of-with_block_out}
use Rattle.om_pages.specs.Tables.{block_pages, kind_of}
use Rattle.om_pages.specs.declared.kind.PageKind.{PageKind}
use Rattle.om_pool.specs.Tables.{Tables}
use Rattle.om_pool.proofs.TableRuns.{count-more, length-with_block}
use Rattle.om_pool.proofs.holdings.Holdings.shrink_block.Goals as goal

pub set_block-requires-clause-held : goal.set_block-requires-clause-held
set_block-requires-clause-held c =
    let run = c.requires.run in
    let fewer = c.requires.fewer in
    let guards = c.args.self.now.opts.guard in
    let count = count-more c.args.new c.args.old guards (omega arith) in
    λ page low high. run.held page low (omega arith)

pub free_pages-requires : goal.free_pages-requires
free_pages-requires c =
    let own = c.args.self.now in
    let guards = own.opts.guard in
    let first = c.args.first.0 in
    let kept : c.with_guard-kept.result ≡ block_pages c.args.new guards = c.with_guard-kept.ensures ∙ ap (λ (o : Opts). block_pages c.args.new o.guard) (c.set_block.ensures.same).opts in
    let fewer = c.requires.fewer in
    let run = c.requires.run in
    let count = count-more c.args.new c.args.old guards (omega arith) in
    let pages_are = ap (λ (t : Tables). t.pages) c.set_block.ensures.tables in
    record {
      held = λ page low high.
          let was = run.held page (omega arith) (omega arith) in
          let there = was.0 in
          let Is : List PageKind → Type 0 = λ t. (page < length t) × (is_held (kind_of t page) ≡ true) in
          subst Is (sym pages_are) (
            omega (arith, length-with_block own.pages first c.args.new guards),
            ap is_held (kind_of-with_block_out own.pages first c.args.new guards page (inr (omega arith))) ∙ was.1,
          );
    }
