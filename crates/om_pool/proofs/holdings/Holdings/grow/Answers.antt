use Rattle.std.proofs.Common.{◌≡◌, ℕ, sym, subst, ap, ◌∙◌, arith}
use Rattle.om_geom.specs.Addresses.{page_at}
use Rattle.om_geom.specs.Classes.{data_pages}
use Rattle.om_model.specs.Pool.Realloc.{grown}
use Rattle.om_model.specs.Pool.Resizing.{Grows}
use Rattle.om_model.proofs.Kept.{sound}
use Rattle.om_pages.specs.Tables.{block_pages}
use Rattle.om_pool.specs.HoldingsView.{rules_in, tables_in}
use Rattle.om_pool.specs.InPlace.{resize_to}
use Rattle.om_pool.specs.Malloc.{IsOwnRun}
use Rattle.om_pool.specs.Resizing.{pages_grown}
use Rattle.om_pool.specs.Tables.{Tables, StandFor}
use Rattle.om_pool.specs.declared.blocks.Request.{Request}
use Rattle.om_pool.proofs.InPlaceLaws.{asks-more, by-way}
use Rattle.om_pool.proofs.TableResizing.{pages-grow}
use Rattle.om_pool.proofs.holdings.Holdings.grow.Goals as goal

pub overflow_cast-first : goal.overflow_cast-first
overflow_cast-first c =
    let own = c.args.self.now in
    let with = c.requires.stands.1 in
    let asks = asks-more own c.requires.stands.0 (sound (rules_in own) c.requires.stands.0 with.well_formed) with.stands c.requires.few c.args.block c.args.size with.comes in
    omega (arith, asks.low, c.page_at.ensures)

pub overflow_cast-old : goal.overflow_cast-old
overflow_cast-old c =
    let own = c.args.self.now in
    let with = c.requires.stands.1 in
    let asks = asks-more own c.requires.stands.0 (sound (rules_in own) c.requires.stands.0 with.well_formed) with.stands c.requires.few c.args.block c.args.size with.comes in
    omega (arith, asks.more, asks.few, c.pages_of-old.ensures)

pub overflow_cast-new : goal.overflow_cast-new
overflow_cast-new c =
    let own = c.args.self.now in
    let with = c.requires.stands.1 in
    let asks = asks-more own c.requires.stands.0 (sound (rules_in own) c.requires.stands.0 with.well_formed) with.stands c.requires.few c.args.block c.args.size with.comes in
    omega (arith, asks.few, c.pages_of-new.ensures)

pub grow_block-requires-clause-more : goal.grow_block-requires-clause-more
grow_block-requires-clause-more c =
    let own = c.args.self.now in
    let with = c.requires.stands.1 in
    let asks = asks-more own c.requires.stands.0 (sound (rules_in own) c.requires.stands.0 with.well_formed) with.stands c.requires.few c.args.block c.args.size with.comes in
    omega (arith, asks.more, c.pages_of-old.ensures, c.pages_of-new.ensures)

pub grow_block-requires-clause-few : goal.grow_block-requires-clause-few
grow_block-requires-clause-few c =
    let own = c.args.self.now in
    let with = c.requires.stands.1 in
    let asks = asks-more own c.requires.stands.0 (sound (rules_in own) c.requires.stands.0 with.well_formed) with.stands c.requires.few c.args.block c.args.size with.comes in
    omega (arith, asks.few, c.pages_of-new.ensures)

pub grow_block-requires-clause-run : goal.grow_block-requires-clause-run
grow_block-requires-clause-run c =
    let own = c.args.self.now in
    let with = c.requires.stands.1 in
    let asks = asks-more own c.requires.stands.0 (sound (rules_in own) c.requires.stands.0 with.well_formed) with.stands c.requires.few c.args.block c.args.size with.comes in
    let Run : ℕ → ℕ → Type 0 = λ n first. IsOwnRun own (block_pages n own.opts.guard) first in
    subst (λ n. Run n c.page_at.result) (sym c.pages_of-new.ensures) (subst (Run (data_pages c.args.size)) (sym c.page_at.ensures) asks.run)

pub returns-clause-stands : goal.returns-clause-stands
returns-clause-stands c state with =
    let own = c.args.self.now in
    let rules = rules_in own in
    let tables = tables_in own in
    let block = c.args.block in
    let size = c.args.size in
    let on = with.comes in
    let how = by-way rules state block size Grows on in
    let request : Request = record { size = size; site = c.args.site } in
    let after : tables_in c.grow_block.new.self ≡ pages_grown rules tables (page_at block.address) (data_pages block.size) (data_pages size) request =
    c.grow_block.ensures.tables
    ∙ ap (λ f. pages_grown rules tables f c.pages_of-old.result c.pages_of-new.result request) c.page_at.ensures
    ∙ ap (λ n. pages_grown rules tables (page_at block.address) n c.pages_of-new.result request) c.pages_of-old.ensures
    ∙ ap (λ n. pages_grown rules tables (page_at block.address) (data_pages block.size) n request) c.pages_of-new.ensures in
    let Stands : Tables → Type 0 = λ t. StandFor rules t ((grown rules state (resize_to block size c.args.site)).next) in
    subst Stands (sym after) (pages-grow rules tables state (sound rules state with.well_formed) with.stands block on.live size c.args.site on.fits how.0 how.1)
