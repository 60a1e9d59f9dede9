use Rattle.std.proofs.Common.{Option, refl, sym, subst, ap, ◌∙◌, arith}
use Rattle.std.specs.Option.{IsSome}
use Rattle.om_chunk.specs.declared.place.Place as chunk
use Rattle.om_model.specs.Pool.Realloc.{stayed}
use Rattle.om_model.specs.declared.block.Place.{Place}
use Rattle.om_model.proofs.Kept.{sound}
use Rattle.om_pool.specs.HoldingsView.{rules_in, tables_in}
use Rattle.om_pool.specs.InPlace.{resize_to}
use Rattle.om_pool.specs.Resizing.{pages_stayed}
use Rattle.om_pool.specs.Tables.{Tables, StandFor}
use Rattle.om_pool.specs.declared.blocks.Request.{Request}
use Rattle.om_pool.proofs.ChunkResizing.{chunk-stays}
use Rattle.om_pool.proofs.InPlaceLaws.{low-page, stays-bytes, stays-pages, stays-place}
use Rattle.om_pool.proofs.ResizingPages.{block-in_arena}
use Rattle.om_pool.proofs.TableResizing.{pages-stay}
use Rattle.om_pool.proofs.holdings.Holdings.stay.Goals as goal

pub keep_chunk-requires-clause-place : goal.keep_chunk-requires-clause-place
keep_chunk-requires-clause-place c =
    let own = c.args.self.now in
    let state = c.requires.stands.0 in
    let with = c.requires.stands.1 in
    let Is : Option chunk.Place → Type 0 = λ has. IsSome has in
    subst Is (sym (stays-place own state (sound (rules_in own) state with.well_formed) with.stands c.args.block c.args.size with.comes c.in-Some.class.0 (sym c.in-Some.ensures.value)).has_is) refl

pub keep_chunk-requires-clause-bytes : goal.keep_chunk-requires-clause-bytes
keep_chunk-requires-clause-bytes c =
    let own = c.args.self.now in
    let state = c.requires.stands.0 in
    let with = c.requires.stands.1 in
    stays-bytes own state (sound (rules_in own) state with.well_formed) with.stands c.args.block c.args.size with.comes c.in-Some.class.0 (sym c.in-Some.ensures.value)

pub overflow_cast-page_at : goal.overflow_cast-page_at
overflow_cast-page_at c =
    let own = c.args.self.now in
    let state = c.requires.stands.0 in
    let with = c.requires.stands.1 in
    let on = with.comes in
    omega (arith, low-page own state (sound (rules_in own) state with.well_formed) with.stands c.requires.few c.args.block c.args.size on.live, c.page_at.ensures)

pub keep_block-requires : goal.keep_block-requires
keep_block-requires c =
    let own = c.args.self.now in
    let state = c.requires.stands.0 in
    let with = c.requires.stands.1 in
    let on = with.comes in
    let stands = with.stands in
    omega (arith, block-in_arena (rules_in own) state (sound (rules_in own) state with.well_formed) c.args.block on.live, stands.blocks_all, c.page_at.ensures)

pub returns-in-Some-clause-stands : goal.returns-in-Some-clause-stands
returns-in-Some-clause-stands c state with =
    let own = c.args.self.now in
    let rules = rules_in own in
    let block = c.args.block in
    let class = c.in-Some.class.0 in
    let class_is = sym c.in-Some.ensures.value in
    let is = sound rules state with.well_formed in
    let place : Place = record { address = block.address; class = class } in
    let Stands : Tables → Type 0 = λ t. StandFor rules t ((stayed rules state (resize_to block c.args.size c.args.site)).next) in
    subst Stands (sym c.keep_chunk.ensures.tables)
    (chunk-stays rules (tables_in own) state is with.stands block.address place block (stays-place own state is with.stands block c.args.size with.comes class class_is) c.args.size c.args.site class_is)

pub returns-in-None-clause-stands : goal.returns-in-None-clause-stands
returns-in-None-clause-stands c state with =
    let own = c.args.self.now in
    let rules = rules_in own in
    let tables = tables_in own in
    let block = c.args.block in
    let on = with.comes in
    let is = sound rules state with.well_formed in
    let request : Request = record { size = c.args.size; site = c.args.site } in
    let both = stays-pages own state is with.stands block c.args.size on (sym c.in-None.ensures.value) in
    let Stands : Tables → Type 0 = λ t. StandFor rules t ((stayed rules state (resize_to block c.args.size c.args.site)).next) in
    subst Stands (sym (c.keep_block.ensures.tables ∙ ap (λ f. pages_stayed tables f request) c.page_at.ensures))
    (pages-stay rules tables state is with.stands block on.live c.args.size c.args.site on.fits both.0 both.1)
