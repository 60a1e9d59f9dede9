-- Questions as they are asked of the tables.
use Rattle.std.specs.Prelude.{ℕ, ◌&&◌, ◌==◌, List, Option, Some, None, if◌then◌else◌}
use Rattle.om_chunk.specs.Pages.{place_in}
use Rattle.om_chunk.specs.declared.place.Place as chunk
use Rattle.om_chunk.specs.declared.place.Place.TheVariants as has
use Rattle.om_geom.specs.Addresses.{address_of, is_in_arena, page_at}
use Rattle.om_geom.specs.declared.address.Page.{Page}
use Rattle.om_model.specs.Pool.Access.{PageState, Plain, Shut, Guarding, bar_of}
use Rattle.om_model.specs.Pool.Rules.{Rules}
use Rattle.om_model.specs.declared.reply.Reply.{Reply}
use Rattle.om_model.specs.declared.reply.Reply.TheVariants.{Miss}
use Rattle.om_pages.specs.Tables.{kind_of}
use Rattle.om_pages.specs.declared.kind.PageKind.{PageKind}
use Rattle.om_pages.specs.declared.kind.PageKind.TheVariants.{Absent, Free, Chunk, Block, Guard}
use Rattle.om_pool.specs.Blocks.{block_for, request_at}
use Rattle.om_pool.specs.Tables.{Tables}
use Rattle.om_pool.specs.declared.blocks.Request.{Request}
use Rattle.om_pool.specs.declared.standing.Standing.{Standing}
use Rattle.om_pool.specs.declared.standing.Standing.TheVariants.{NotHeld, FreePage, PageBlock, InPageBlock, OnGuard, LivePlace, DelayedPlace, FreePlace, Unaligned}

-- ---- what stands at an address

abbrev pub at_place_of : ℕ → ℕ → Option chunk.Place → Standing
at_place_of class address None = Unaligned
at_place_of class address (Some has.Free) = FreePlace
at_place_of class address (Some has.Delayed) = DelayedPlace (record { address = address; class = class })
at_place_of class address (Some (has.Live size site)) = LivePlace (record { address = address; class = class }) (record { address = address; size = size; site = site })

-- on a data page: the block's first byte, or another
abbrev pub at_block_of : List Request → ℕ → Page → Standing
at_block_of blocks address first =
    if page_at address == first.0 && address_of (page_at address) == address then PageBlock (block_for address (request_at blocks first.0)) else InPageBlock

abbrev pub standing_on : Tables → ℕ → PageKind → Standing
standing_on tables address Absent = NotHeld
standing_on tables address Free = FreePage
standing_on tables address (Chunk class) = at_place_of class.0 address (place_in tables.chunks address)
standing_on tables address (Block first pages) = at_block_of tables.blocks address first
standing_on tables address (Guard first) = OnGuard

abbrev pub standing_by : ℕ → Tables → ℕ → Standing
standing_by zones tables address = if is_in_arena address zones then standing_on tables address (kind_of tables.pages (page_at address)) else NotHeld

-- ---- what bars the byte at an address

abbrev pub state_of_kind : Rules → PageKind → PageState
state_of_kind rules Absent = Plain
state_of_kind rules Free = if rules.options.unmap then Shut else Plain
state_of_kind rules (Chunk class) = if class.0 == 0 then Shut else Plain
state_of_kind rules (Block first pages) = Plain
state_of_kind rules (Guard first) = Guarding

abbrev pub barred_on : Rules → PageKind → Option Reply
barred_on rules Absent = Some Miss
barred_on rules kind = bar_of (state_of_kind rules kind)

abbrev pub barred_by : Rules → Tables → ℕ → Option Reply
barred_by rules tables address = if is_in_arena address rules.zones then barred_on rules (kind_of tables.pages (page_at address)) else Some Miss
