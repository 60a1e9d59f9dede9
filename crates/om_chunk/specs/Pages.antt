-- The chunk pages of a pool: for each page of the arena, in the order of the pages, nothing or a chunk page.
use Rattle.std.specs.Prelude.{ℕ, ◌-◌, ◌*◌, if◌then◌else◌, nat_le, List, replicate, slice_index_or, slice_set, Option, Some, None}
use Rattle.std.specs.Option.{option_map, option_and_then}
use Rattle.om_geom.specs.Addresses.{address_of, page_at}
use Rattle.om_geom.specs.Numbers.{zone_pages, first_address}
use Rattle.om_chunk.specs.Places.{ChunkPage, fresh_page, is_unused, place_at, with_place_at}
use Rattle.om_chunk.specs.declared.place.Place.{Place}
use Rattle.om_chunk.specs.declared.place.Place.TheVariants.{Free}

-- the pages, and for how many more of them room is already made
pub record PageList : Type 0 where
  pub pages : List (Option ChunkPage)
  pub spare : ℕ

-- of an arena of so many zones, none of whose pages is a chunk page here
abbrev pub no_pages : ℕ → List (Option ChunkPage)
no_pages zones = replicate (zone_pages * zones) None

abbrev pub page_in : List (Option ChunkPage) → ℕ → Option ChunkPage
page_in pages page = slice_index_or pages page None

-- the chunk page on which an address lies
abbrev pub page_with : List (Option ChunkPage) → ℕ → Option ChunkPage
page_with pages address = if nat_le first_address address then page_in pages (page_at address) else None

-- how many bytes behind its page's first one an address is
abbrev pub offset_of : ℕ → ℕ
offset_of address = address - address_of (page_at address)

-- the place that begins at the address; none where none begins there
abbrev pub place_in : List (Option ChunkPage) → ℕ → Option Place
place_in pages address = option_and_then (λ page. place_at page (offset_of address)) (page_with pages address)

-- once the page is a chunk page of the class, with all places free
abbrev pub with_page : List (Option ChunkPage) → ℕ → ℕ → List (Option ChunkPage)
with_page pages page class = slice_set pages page (Some (fresh_page class))

-- once the place that begins at the address is so
abbrev pub with_place : List (Option ChunkPage) → ℕ → Place → List (Option ChunkPage)
with_place pages address place =
    slice_set pages (page_at address) (option_map (λ page. with_place_at page (offset_of address) place) (page_with pages address))

-- a page on which no place is live or delayed is gone
abbrev pub unless_unused : ChunkPage → Option ChunkPage
unless_unused page = if is_unused page then None else Some page

abbrev pub page_kept : List (Option ChunkPage) → ℕ → Option ChunkPage
page_kept pages page = option_and_then unless_unused (page_in pages page)

-- what is left of an address's page once the place that begins at the address is free
abbrev pub page_left : List (Option ChunkPage) → ℕ → Option ChunkPage
page_left pages address =
    option_and_then (λ page. unless_unused (with_place_at page (offset_of address) Free)) (page_with pages address)

-- once that place is free
abbrev pub with_freed : List (Option ChunkPage) → ℕ → List (Option ChunkPage)
with_freed pages address = slice_set pages (page_at address) (page_left pages address)
