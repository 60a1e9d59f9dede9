-- The tables of a pool: what each page is, what each place of a chunk page has, what was asked for the page block
-- that begins at a page, the slots, and the bytes of the held pages. They stand for a state where they say of each
-- page, of each place and of each page block what is so in the state.
use Rattle.std.specs.Prelude.{◌≡◌, ℕ, ◌*◌, ◌<◌, List, length, map, Option, Some, None, if◌then◌else◌}
use Rattle.std.specs.List.{find, list_any, range_with_len, AllByRecursion}
use Rattle.om_chunk.specs.Pages.{page_in}
use Rattle.om_chunk.specs.Places.{ChunkPage}
use Rattle.om_chunk.specs.declared.place.Place as chunk
use Rattle.om_chunk.specs.declared.place.Place.TheVariants as has
use Rattle.om_geom.specs.Addresses.{page_at}
use Rattle.om_geom.specs.Classes.{data_pages, places_of}
use Rattle.om_geom.specs.Numbers.{zone_pages}
use Rattle.om_geom.specs.declared.address.Extent.{Extent}
use Rattle.om_model.specs.Pool.InUse.{Kind, Chunk, Pages, Guard, touches, page_kind, uses, uses_of_block}
use Rattle.om_model.specs.Pool.Picks.{place_address}
use Rattle.om_model.specs.Pool.Rules.{Rules, size_class}
use Rattle.om_model.specs.Pool.Standing.{block_at, delayed_at}
use Rattle.om_model.specs.Pool.State.{State, is_held}
use Rattle.om_model.specs.Pool.WriteAfterFree.{slot_extents}
use Rattle.om_model.specs.declared.block.Block.{Block}
use Rattle.om_model.specs.declared.block.Place.{Place}
use Rattle.om_pages.specs.Kinds.{data_page, guard_page}
use Rattle.om_pages.specs.Tables.{kind_of}
use Rattle.om_pages.specs.declared.kind.PageKind.{PageKind}
use Rattle.om_pages.specs.declared.kind.PageKind.TheVariants as page_is
use Rattle.om_pool.specs.Blocks.{request_at, request_of}
use Rattle.om_pool.specs.declared.blocks.Request.{Request}

pub record Tables : Type 0 where
  pub pages : List PageKind
  pub chunks : List (Option ChunkPage)
  pub blocks : List Request
  pub slots : List (Option Extent)
  pub memory : List (List ℕ)

-- ---- what a page is

-- the live block that has a byte of the page
abbrev pub block_on : Rules → State → ℕ → Option Block
block_on rules state page = find (λ block. list_any (touches page) (uses_of_block rules block)) state.live

abbrev pub data_kind : Option Block → PageKind
data_kind (Some block) = data_page (page_at block.address) (data_pages block.size)
data_kind None = page_is.Free

abbrev pub guard_kind : Option Block → PageKind
guard_kind (Some block) = guard_page (page_at block.address)
guard_kind None = page_is.Free

-- a held page, by the kind of what is in use on it, and by the block there
abbrev pub kind_by : Option Block → Option Kind → PageKind
kind_by block None = page_is.Free
kind_by block (Some (Chunk class)) = page_is.Chunk (record { 0 = class })
kind_by block (Some Pages) = data_kind block
kind_by block (Some Guard) = guard_kind block

abbrev pub kind_in : Rules → State → ℕ → PageKind
kind_in rules state page = if is_held state.held page then kind_by (block_on rules state page) (page_kind (uses rules state) page) else page_is.Absent

-- ---- what a place has

abbrev pub has_by : Option Place → Option Block → chunk.Place
has_by (Some place) block = has.Delayed
has_by None (Some block) = has.Live block.size block.site
has_by None None = has.Free

abbrev pub place_has : State → ℕ → chunk.Place
place_has state address = has_by (delayed_at state address) (block_at state address)

-- the places of a page of the class
abbrev pub chunk_page : State → ℕ → ℕ → ChunkPage
chunk_page state page class = record { class = class; places = map (λ i. place_has state (place_address page class i)) (range_with_len 0 (places_of class)) }

abbrev pub chunk_by : State → ℕ → Option Kind → Option ChunkPage
chunk_by state page (Some (Chunk class)) = Some (chunk_page state page class)
chunk_by state page other = None

-- ---- what was asked for a block

-- where the block has whole pages, what was asked for it stands at the page where it begins
abbrev pub IsEntered : Rules → List Request → Block → Type 0
IsEntered rules blocks block = size_class rules block.size ≡ None → request_at blocks (page_at block.address) ≡ request_of block

-- ---- tables that stand for a state

pub record StandFor (rules : Rules) (tables : Tables) (state : State) : Type 0 where
  pub pages_all : length tables.pages ≡ zone_pages * rules.zones
  pub chunks_all : length tables.chunks ≡ zone_pages * rules.zones
  pub blocks_all : length tables.blocks ≡ zone_pages * rules.zones
  pub pages : (page : ℕ) → page < zone_pages * rules.zones → kind_of tables.pages page ≡ kind_in rules state page
  pub chunks : (page : ℕ) → page < zone_pages * rules.zones → page_in tables.chunks page ≡ chunk_by state page (page_kind (uses rules state) page)
  pub blocks : AllByRecursion (IsEntered rules tables.blocks) state.live
  pub slots : tables.slots ≡ slot_extents state.slots
  pub memory : tables.memory ≡ state.memory
