-- The zones of an arena that one broker has to itself, as a table: which pages of each zone are held, and the
-- version of each, which every claim and release in it raises by one.
use Rattle.std.specs.Prelude.{◌≡◌, ℕ, ◌+◌, ◌<◌, ◌≤◌, Bool, true, false, ◌&&◌, ◌||◌, not, List, length, map, Option, Some, None, slice_index, slice_set}
use Rattle.std.specs.List.{range_with_len, sum, sum_by, count_by}
use Rattle.om_geom.specs.Addresses.{zone_of, bit_of}
use Rattle.om_geom.specs.Fit.{fit_of, has_bit, is_in_run, searched_zone, searched_bit}
use Rattle.om_geom.specs.Numbers.{zone_pages}
use Rattle.om_model.specs.declared.looks.Look.{Look}
use Rattle.om_model.specs.declared.entry.Move.{Move}

-- one entry for each zone in each list
pub record ZoneTable : Type 0 where
  pub bits : List ℕ
  pub versions : List ℕ

-- whether the page of the zone is held
abbrev pub is_bit_held : ZoneTable → ℕ → ℕ → Bool
is_bit_held table zone = has_bit (slice_index table.bits zone)

-- the same of a page's number
abbrev pub is_page_held : ZoneTable → ℕ → Bool
is_page_held table page = is_bit_held table (zone_of page) (bit_of page)

abbrev pub version_of : ZoneTable → ℕ → ℕ
version_of table zone = slice_index table.versions zone

-- how many of a zone's bits are set
abbrev pub count_bits : ℕ → ℕ
count_bits bits = count_by (has_bit bits) (range_with_len 0 zone_pages)

-- how many pages are held
abbrev pub pages_held : ZoneTable → ℕ
pages_held table = sum_by count_bits table.bits

-- how many moves were made
abbrev pub moves_made : ZoneTable → ℕ
moves_made table = sum table.versions

-- ---- a search

-- the zone where a search by a word comes after so many others
abbrev pub searched_in : ZoneTable → ℕ → ℕ → ℕ
searched_in table word i = searched_zone (length table.bits) word i

-- the look at that zone
abbrev pub look_of : ZoneTable → ℕ → ℕ → Look
look_of table word i = record { zone = searched_in table word i; version = version_of table (searched_in table word i) }

-- where so many pages fit in the zone
abbrev pub fit_in : ZoneTable → ℕ → ℕ → ℕ → Option ℕ
fit_in table n word zone = fit_of (is_bit_held table zone) n (searched_bit word)

-- the looks are at the zones that come first, and in none of these the pages fit
pub record ArePassed (table : ZoneTable) (n word : ℕ) (looks : List Look) : Type 0 where
  pub named : looks ≡ map (look_of table word) (range_with_len 0 (length looks))
  pub full : (i : ℕ) → i < length looks → fit_in table n word (searched_in table word i) ≡ None

-- ---- moves

-- the pages of a zone are there, and none of them is held
pub record AreFree (table : ZoneTable) (zone first n : ℕ) : Type 0 where
  pub there : zone < length table.bits
  pub within : first + n ≤ zone_pages
  pub clear : (bit : ℕ) → first ≤ bit → bit < first + n → is_bit_held table zone bit ≡ false

-- a page of the run is held
pub record HasHeld (is_set : ℕ → Bool) (first n : ℕ) : Type 0 where
  pub bit : ℕ
  pub from : first ≤ bit
  pub to : bit < first + n
  pub held : is_set bit ≡ true

-- the move that the zone gets next
abbrev pub next_move : ZoneTable → ℕ → ℕ → ℕ → Move
next_move table zone first n = record { zone = zone; version = version_of table zone + 1; first = first; count = n }

-- at most the zone's bits are others, and its version is the next
pub record IsMoved (old new : ZoneTable) (zone : ℕ) : Type 0 where
  pub bits : new.bits ≡ slice_set old.bits zone (slice_index new.bits zone)
  pub versions : new.versions ≡ slice_set old.versions zone (version_of old zone + 1)

-- the move claims so many pages of the zone, from the first on
pub record IsClaimed (old new : ZoneTable) (zone first n : ℕ) (move : Move) : Type 0 where
  pub move_is : move ≡ next_move old zone first n
  pub moved : IsMoved old new zone
  pub held : (bit : ℕ) → bit < zone_pages → is_bit_held new zone bit ≡ (is_bit_held old zone bit || is_in_run first n bit)

-- the search found pages in the zone after those that were passed over, on the first place where they fit
pub record IsFoundIn (table : ZoneTable) (n word passed : ℕ) (zone first : ℕ) : Type 0 where
  pub few : passed < length table.bits
  pub zone_is : zone ≡ searched_in table word passed
  pub first_is : fit_in table n word zone ≡ Some first
  pub free : AreFree table zone first n

pub record IsFoundClaim (old new : ZoneTable) (n word passed : ℕ) (move : Move) : Type 0 where
  pub found : IsFoundIn old n word passed move.zone move.first
  pub claimed : IsClaimed old new move.zone move.first n move

-- with no claim every zone was passed over, and none has changed
abbrev pub ClaimGives : ZoneTable → ZoneTable → ℕ → ℕ → ℕ → Option Move → Type 0
ClaimGives old new n word passed None = (passed ≡ length old.bits) × (new ≡ old)
ClaimGives old new n word passed (Some move) = IsFoundClaim old new n word passed move

-- so many pages of the zone, from the first on, are given up
pub record IsReleased (old new : ZoneTable) (zone first n : ℕ) (move : Move) : Type 0 where
  pub move_is : move ≡ next_move old zone first n
  pub moved : IsMoved old new zone
  pub held : (bit : ℕ) → bit < zone_pages → is_bit_held new zone bit ≡ (is_bit_held old zone bit && not (is_in_run first n bit))
