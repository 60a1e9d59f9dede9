-- What a step makes of the tables.
use Rattle.std.specs.Prelude.{◌≡◌, ℕ, ◌*◌, ◌≤◌, Bool, ◌==◌, not, nat_le, if◌then◌else◌, length, Option, Some, None, IsSomeAnd, slice_set}
use Rattle.std.specs.Option.{is_none}
use Rattle.om_chunk.specs.Pages.{page_in, page_left, with_freed, with_page, with_place}
use Rattle.om_chunk.specs.Picks.{picked, place_on}
use Rattle.om_chunk.specs.Places.{ChunkPage}
use Rattle.om_chunk.specs.declared.pages.Picked.{Picked}
use Rattle.om_chunk.specs.declared.place.Place.TheVariants.{Live, Delayed}
use Rattle.om_delay.specs.Changes.{freed_byte}
use Rattle.om_delay.specs.Slots.{with_slot}
use Rattle.om_frame.specs.Frames as frame_list
use Rattle.om_frame.specs.Memory as frames
use Rattle.om_frame.specs.Memory.{filled}
use Rattle.om_geom.specs.declared.address.Extent.{Extent}
use Rattle.om_model.specs.Pool.Junk.{extent_of_place, fills_freed, fresh_byte, freed_len}
use Rattle.om_frame.specs.Frames.{zero_frames}
use Rattle.om_geom.specs.Addresses.{address_of, page_at}
use Rattle.om_geom.specs.Numbers.{most_zones, page_size, zone_pages}
use Rattle.om_model.specs.Pool.Canaries.{canaries}
use Rattle.om_model.specs.Pool.Rules.{Rules, canary_byte}
use Rattle.om_model.specs.Pool.Runs.{Run}
use Rattle.om_model.specs.declared.block.Block.{Block}
use Rattle.om_model.specs.declared.block.Place.{Place}
use Rattle.om_pages.specs.FreeRuns.{lowest_run}
use Rattle.om_pages.specs.Kinds.{is_held}
use Rattle.om_pages.specs.Tables.{free_count, kind_of, with_block, with_run}
use Rattle.om_pages.specs.declared.kind.PageKind.{PageKind}
use Rattle.om_pages.specs.declared.kind.PageKind.TheVariants.{Absent, Free, Chunk}
use Rattle.om_pool.specs.Tables.{Tables}
use Rattle.om_pool.specs.declared.blocks.Request.{Request}

-- a held page on which nothing lies becomes a chunk page
abbrev pub fresh_page : Tables → ℕ → ℕ → Tables
fresh_page tables page class = record (record tables { pages = with_run tables.pages page 1 (Chunk (record { 0 = class })) }) { chunks = with_page tables.chunks page class }

-- pages come, with zeros
abbrev pub claimed_run : Tables → Run → Tables
claimed_run tables run = record (record tables { pages = with_run tables.pages run.first run.count Free }) { memory = frame_list.with_frames tables.memory (zero_frames run.first run.count) }

-- free pages leave
abbrev pub gone_run : Tables → Run → Tables
gone_run tables run = record (record tables { pages = with_run tables.pages run.first run.count Absent }) { memory = frame_list.without_pages tables.memory run.first run.count }

-- pages become free
abbrev pub freed_run : Tables → Run → Tables
freed_run tables run = record tables { pages = with_run tables.pages run.first run.count Free }

-- held pages become those of a block of so many data pages, with its guard; what was asked for it stands at the first
abbrev pub with_page_block : Tables → ℕ → ℕ → Bool → Request → Tables
with_page_block tables first pages guards request =
    record (record tables { pages = with_block tables.pages first pages guards }) { blocks = slice_set tables.blocks first request }

-- a place gets a block
abbrev pub live_place : Tables → ℕ → ℕ → ℕ → Tables
live_place tables address size site = record tables { chunks = with_place tables.chunks address (Live size site) }

-- a place becomes free, and its page where it was the last one there
abbrev pub page_goes : Tables → ℕ → Bool
page_goes tables address = is_none (page_left tables.chunks address)

abbrev pub freed_place : Tables → ℕ → Tables
freed_place tables address = record (record tables { chunks = with_freed tables.chunks address }) {
  pages = if page_goes tables address then with_run tables.pages (page_at address) 1 Free else tables.pages;
}

-- a live place waits in the slot
abbrev pub delayed_place : Tables → ℕ → Place → Tables
delayed_place tables slot place = record (record tables { chunks = with_place tables.chunks place.address Delayed }) { slots = with_slot tables.slots slot (extent_of_place place) }

-- more pages are free than the pool keeps
abbrev pub is_surplus_by : Rules → Tables → Bool
is_surplus_by rules tables = not (nat_le (free_count tables.pages) rules.options.cache)

-- ---- bytes

abbrev pub filled_by : ℕ → Extent → Tables → Tables
filled_by byte extent tables = record tables { memory = filled tables.memory extent.first extent.len byte }

-- the bytes of a new block are filled at junk level 2
abbrev pub fresh_filled : Rules → Extent → Tables → Tables
fresh_filled rules extent tables = if rules.options.junk == 2 then filled_by fresh_byte extent tables else tables

-- a freed place is filled at levels 1 and 2
abbrev pub freed_filled : Rules → Place → Tables → Tables
freed_filled rules place tables = if fills_freed rules then filled_by freed_byte (extent_of_place place) tables else tables

-- the first bytes of a freed block of so many data pages at level 1, and all of them at level 2
abbrev pub freed_pages_filled : Rules → ℕ → ℕ → Tables → Tables
freed_pages_filled rules first pages tables =
    filled_by freed_byte (record { first = address_of first; len = freed_len rules.options.junk pages }) tables

-- ---- the place that the pool itself has

-- the lowest free page has become a chunk page, with the place that the word chooses
pub record IsFreshPlace (old new : Tables) (class page second : ℕ) (result : Option Picked) : Type 0 where
  pub place : ℕ
  pub result_is : result ≡ Some (record { page = record { 0 = page }; place = place })
  pub new_is : new ≡ fresh_page old page class
  pub place_is : place_on new.chunks page second ≡ Some place

abbrev pub FreshPlace : Tables → Tables → ℕ → ℕ → Option Picked → Option ℕ → Type 0
FreshPlace old new class second result (Some page) = IsFreshPlace old new class page second result
FreshPlace old new class second result None = (new ≡ old) × (result ≡ None)

abbrev pub OwnBy : Tables → Tables → ℕ → ℕ → Option Picked → Option Picked → Type 0
OwnBy old new class second result (Some found) = (new ≡ old) × (result ≡ Some found)
OwnBy old new class second result None = FreshPlace old new class second result (lowest_run old.pages 1)

-- on the open page that the first word chooses, or else on the lowest free page; the second word chooses the place
abbrev pub OwnPlace : Tables → Tables → ℕ → ℕ → ℕ → Option Picked → Type 0
OwnPlace old new class first second result = OwnBy old new class second result (picked old.chunks class first second)

-- ---- a block

-- the canaries behind a block are written
abbrev pub canaries_filled : Rules → Block → Tables → Tables
canaries_filled rules block tables = filled_by (canary_byte rules) (canaries rules block) tables

-- a block on a place, which is filled by the junk level, and then its canaries
abbrev pub settled : Rules → Tables → ℕ → ℕ → ℕ → ℕ → Tables
settled rules tables address class size site =
    canaries_filled rules (record { address = address; size = size; site = site })
    (fresh_filled rules (extent_of_place (record { address = address; class = class })) (live_place tables address size site))

-- the bytes of so many data pages
abbrev pub pages_of_block : ℕ → ℕ → Extent
pages_of_block first pages = record { first = address_of first; len = page_size * pages }

-- a block of so many data pages on held pages, with the guard where guards are on; its bytes are filled by the junk
-- level
abbrev pub block_on_pages : Rules → Tables → ℕ → ℕ → Request → Tables
block_on_pages rules tables first pages request =
    fresh_filled rules (pages_of_block first pages) (with_page_block tables first pages rules.options.guard request)

-- ---- tables that agree with each other

abbrev pub ChunkTie : PageKind → Option ChunkPage → Type 0
ChunkTie (Chunk class) there = IsSomeAnd there (λ page. page.class ≡ class.0)
ChunkTie kind there = there ≡ None

pub record IsTied (zones : ℕ) (tables : Tables) : Type 0 where
  pub pages_all : length tables.pages ≡ zone_pages * zones
  pub chunks_all : length tables.chunks ≡ zone_pages * zones
  pub blocks_all : length tables.blocks ≡ zone_pages * zones
  pub memory_all : length tables.memory ≡ zone_pages * zones
  pub chunks : (page : ℕ) → ChunkTie (kind_of tables.pages page) (page_in tables.chunks page)
  pub memory : (page : ℕ) → frames.is_held tables.memory page ≡ is_held (kind_of tables.pages page)
  pub some_zone : 1 ≤ zones
  pub few_zones : zones ≤ most_zones
