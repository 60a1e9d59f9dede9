-- The places of one chunk page. Place i begins i strides of the page's class behind the page's first byte.
use Rattle.std.specs.Prelude.{◌≡◌, ℕ, ◌*◌, ◌<◌, ◌/◌, ◌%◌, Bool, true, false, ◌==◌, if◌then◌else◌, IsTrue, List, length, replicate, slice_get, slice_set, Option, Some, None}
use Rattle.std.specs.List.{find, list_all, list_any}
use Rattle.om_geom.specs.Classes.{is_class, stride_of, places_of}
use Rattle.om_geom.specs.Fit.{cyclic}
use Rattle.om_geom.specs.Numbers.{page_size}
use Rattle.om_chunk.specs.declared.place.Place.{Place}
use Rattle.om_chunk.specs.declared.place.Place.TheVariants.{Live, Delayed, Free}
use Rattle.om_chunk.specs.declared.place.PlaceState.{PlaceState}
use Rattle.om_chunk.specs.declared.place.PlaceState.TheVariants as shows

-- the class of a page, and what each of its places has
pub record ChunkPage : Type 0 where
  pub class : ℕ
  pub places : List Place

-- as many places as its class says
pub record IsFormed (page : ChunkPage) : Type 0 where
  pub class : IsTrue (is_class page.class)
  pub long : length page.places ≡ places_of page.class

abbrev pub is_free : Place → Bool
is_free (Live size site) = false
is_free Delayed = false
is_free Free = true

-- a page of the class with all places free
abbrev pub fresh_page : ℕ → ChunkPage
fresh_page class = record { class = class; places = replicate (places_of class) Free }

abbrev pub has_free : ChunkPage → Bool
has_free page = list_any is_free page.places

-- whether no place is live or delayed
abbrev pub is_unused : ChunkPage → Bool
is_unused page = list_all is_free page.places

-- the place that begins so many bytes behind the page's first one; none where none begins there
abbrev pub place_at : ChunkPage → ℕ → Option Place
place_at page offset =
    if offset % stride_of page.class == 0 then slice_get page.places (offset / stride_of page.class) else None

-- the page once the place that begins there is so
abbrev pub with_place_at : ChunkPage → ℕ → Place → ChunkPage
with_place_at page offset place = record page { places = slice_set page.places (offset / stride_of page.class) place }

-- what an address shows at which this place begins, or none
abbrev pub state_of : Option Place → PlaceState
state_of (Some (Live size site)) = shows.Live size site
state_of (Some Delayed) = shows.Delayed
state_of (Some Free) = shows.Free
state_of None = shows.Unaligned

abbrev pub is_there_and_free : Option Place → Bool
is_there_and_free (Some place) = is_free place
is_there_and_free None = false

abbrev pub is_free_place : ChunkPage → ℕ → Bool
is_free_place page i = is_there_and_free (slice_get page.places i)

-- the first free place in cyclic order from the one that the word chooses
abbrev pub picked_place : ChunkPage → ℕ → Option ℕ
picked_place page word = find (is_free_place page) (cyclic (places_of page.class) (word % places_of page.class))

-- the place is one of the page, is free, and begins so many strides behind the page's first byte
pub record IsFreeIn (page : ChunkPage) (place : ℕ) : Type 0 where
  pub there : place < places_of page.class
  pub on_page : place * stride_of page.class < page_size
  pub free : place_at page (place * stride_of page.class) ≡ Some Free
