-- Picks: on which page of a class a chunk goes, and at which of its places.
use Rattle.std.specs.Prelude.{◌≡◌, ℕ, ◌+◌, ◌*◌, ◌%◌, ◌<◌, Bool, false, ◌&&◌, ◌==◌, List, length, filter, slice_get, Option, Some, None}
use Rattle.std.specs.List.{range_with_len}
use Rattle.std.specs.Option.{option_map, option_and_then}
use Rattle.om_geom.specs.Addresses.{address_of}
use Rattle.om_geom.specs.Classes.{stride_of, places_of}
use Rattle.om_chunk.specs.Pages.{page_in, place_in}
use Rattle.om_chunk.specs.Places.{ChunkPage, has_free, picked_place}
use Rattle.om_chunk.specs.declared.place.Place.TheVariants.{Free}
use Rattle.om_chunk.specs.declared.pages.Picked.{Picked}

abbrev pub has_free_place : Option ChunkPage → Bool
has_free_place (Some page) = has_free page
has_free_place None = false

-- whether it is a chunk page of the class with a free place
abbrev pub is_open : ℕ → Option ChunkPage → Bool
is_open class (Some page) = page.class == class && has_free page
is_open class None = false

-- the chunk pages of the class that have a free place, in ascending order
abbrev pub open_pages : List (Option ChunkPage) → ℕ → List ℕ
open_pages pages class = filter (λ page. is_open class (page_in pages page)) (range_with_len 0 (length pages))

-- of these the one that the word chooses; none where there is none
abbrev pub picked_page : List (Option ChunkPage) → ℕ → ℕ → Option ℕ
picked_page pages class word = slice_get (open_pages pages class) (word % length (open_pages pages class))

-- the place of the page that the word chooses; none where the page has no free place
abbrev pub place_on : List (Option ChunkPage) → ℕ → ℕ → Option ℕ
place_on pages page word = option_and_then (λ there. picked_place there word) (page_in pages page)

-- the page that the first word chooses, and its place that the second one chooses
abbrev pub picked : List (Option ChunkPage) → ℕ → ℕ → ℕ → Option Picked
picked pages class first second =
    option_and_then
    (λ page. option_map (λ place. record { page = record { 0 = page }; place = place }) (place_on pages page second))
    (picked_page pages class first)

-- the place of the page is there and free, and so is the place that begins at its address
pub record IsFreeOn (pages : List (Option ChunkPage)) (class page place : ℕ) : Type 0 where
  pub page_there : page < length pages
  pub place_there : place < places_of class
  pub free : place_in pages (address_of page + place * stride_of class) ≡ Some Free
