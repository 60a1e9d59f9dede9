-- Picks: on which page a chunk goes, and at which place of the page; and on which run a page block goes.
use Rattle.std.specs.Prelude.{ℕ, ◌+◌, ◌-◌, ◌*◌, ◌/◌, ◌%◌, Bool, false, ◌&&◌, ◌==◌, nat_le, nat_lt, not, List, length, Option, filter, slice_get, if◌then◌else◌}
use Rattle.std.specs.List.{find, list_all, list_any, range_with_len}
use Rattle.om_geom.specs.Addresses.{address_of, bit_of, page_at}
use Rattle.om_geom.specs.Classes.{stride_of, places_of}
use Rattle.om_geom.specs.Fit.{cyclic}
use Rattle.om_geom.specs.Numbers.{zone_pages}
use Rattle.om_model.specs.Pool.State.{is_held}
use Rattle.om_model.specs.Pool.InUse.{Kind, Chunk, Use, touches, begins_at, is_free_page}

-- the first byte of a place of a chunk page
abbrev pub place_address : ℕ → ℕ → ℕ → ℕ
place_address page class place = address_of page + place * stride_of class

-- whether the address is that of a place of its page, where this is a chunk page of the class
abbrev pub starts_place : ℕ → ℕ → Bool
starts_place class address =
    let offset = address - address_of (page_at address) in
    (offset % stride_of class == 0) && nat_lt (offset / stride_of class) (places_of class)

abbrev pub is_free_place : List Use → ℕ → ℕ → ℕ → Bool
is_free_place used page class place = not (list_any (begins_at (place_address page class place)) used)

abbrev pub is_chunk_of : ℕ → Kind → Bool
is_chunk_of class (Chunk other) = other == class
is_chunk_of class kind = false

abbrev pub is_chunk_page : List Use → ℕ → ℕ → Bool
is_chunk_page used class page = list_any (λ one. touches page one && is_chunk_of class one.kind) used

-- whether the page is a chunk page of the class with a free place
abbrev pub is_open_page : List Use → ℕ → ℕ → Bool
is_open_page used class page = is_chunk_page used class page && list_any (is_free_place used page class) (range_with_len 0 (places_of class))

-- the chunk pages of the class that have a free place, in ascending order
abbrev pub open_pages : List Use → List ℕ → ℕ → List ℕ
open_pages used held class = filter (is_open_page used class) held

-- the page that the pool itself has for a chunk: of the open pages the one that the word chooses, or else
-- the lowest free page
unfoldable pub own_page : List Use → List ℕ → ℕ → ℕ → Option ℕ
own_page used held class word =
    let pages = open_pages used held class in
    if length pages == 0 then find (is_free_page used) held else slice_get pages (word % length pages)

-- so many pages of one zone from this one on, each of them held and free
abbrev pub is_free_run : List Use → List ℕ → ℕ → ℕ → Bool
is_free_run used held count first =
    nat_le (bit_of first + count) zone_pages
    && list_all (λ page. is_held held page && is_free_page used page) (range_with_len first count)

-- the lowest run of so many free pages
unfoldable pub own_run : List Use → List ℕ → ℕ → Option ℕ
own_run used held count = find (is_free_run used held count) held

-- the first free place in cyclic order from the one that the word chooses
unfoldable pub picked_place : List Use → ℕ → ℕ → ℕ → Option ℕ
picked_place used page class word = find (is_free_place used page class) (cyclic (places_of class) (word % places_of class))
