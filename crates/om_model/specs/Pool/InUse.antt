-- What is in use in a pool: extents with kinds. A live or delayed place is a chunk of its class; a page block
-- has its data pages and, where guards are on, a guard behind them. They decide what a page is: no kind of a
-- page is stored.
use Rattle.std.specs.Prelude.{ℕ, ◌+◌, ◌*◌, Bool, ◌==◌, not, if◌then◌else◌, List, [], ◌∷◌, ◌++◌, map, filter, Option, Some, None}
use Rattle.std.specs.List.{find, flat_map, list_any}
use Rattle.std.specs.Option.{option_map}
use Rattle.om_geom.specs.Addresses.{page_extent, shares_byte}
use Rattle.om_geom.specs.Classes.{data_pages, stride_of}
use Rattle.om_geom.specs.Numbers.{page_size}
use Rattle.om_geom.specs.declared.address.Extent.{Extent}
use Rattle.om_model.specs.Pool.Rules.{Rules, size_class}
use Rattle.om_model.specs.Pool.State.{State, delayed}
use Rattle.om_model.specs.declared.block.Block.{Block}
use Rattle.om_model.specs.declared.block.Place.{Place}

pub data Kind : Type 0 where
  Chunk : (class : ℕ) → Kind
  Pages : Kind
  Guard : Kind

pub record Use : Type 0 where
  pub extent : Extent
  pub kind : Kind

abbrev pub use_of_place : Place → Use
use_of_place place = record { extent = record { first = place.address; len = stride_of place.class }; kind = Chunk place.class }

abbrev pub data_of : Block → Extent
data_of block = record { first = block.address; len = page_size * data_pages block.size }

-- the guard page behind the data pages
abbrev pub guard_of : Block → Extent
guard_of block = record { first = block.address + page_size * data_pages block.size; len = page_size }

abbrev pub uses_of_pages : Rules → Block → List Use
uses_of_pages rules block =
    record { extent = data_of block; kind = Pages } ∷ (if rules.options.guard then record { extent = guard_of block; kind = Guard } ∷ [] else [])

abbrev pub uses_by_class : Rules → Block → Option ℕ → List Use
uses_by_class rules block (Some class) = use_of_place (record { address = block.address; class = class }) ∷ []
uses_by_class rules block None = uses_of_pages rules block

-- a block is a chunk of the class of its size, or a block of whole pages
abbrev pub uses_of_block : Rules → Block → List Use
uses_of_block rules block = uses_by_class rules block (size_class rules block.size)

abbrev pub uses : Rules → State → List Use
uses rules state = flat_map (uses_of_block rules) state.live ++ map use_of_place (delayed state.slots)

-- whether some byte of the page is in use so
abbrev pub touches : ℕ → Use → Bool
touches page one = shares_byte (page_extent page) one.extent

-- what a held page is; none for a free page
abbrev pub page_kind : List Use → ℕ → Option Kind
page_kind used page = option_map (λ one. one.kind) (find (touches page) used)

abbrev pub is_free_page : List Use → ℕ → Bool
is_free_page used page = not (list_any (touches page) used)

abbrev pub free_pages : List Use → List ℕ → List ℕ
free_pages used held = filter (is_free_page used) held

-- whether something in use begins at the address
abbrev pub begins_at : ℕ → Use → Bool
begins_at address one = (one.extent).first == address
