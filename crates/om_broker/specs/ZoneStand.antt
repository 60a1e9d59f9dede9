-- What ties a table of zones to the moves that were made in them.
use Rattle.std.specs.Prelude.{◌≡◌, ℕ, ◌+◌, ◌<◌, ◌≤◌, List, length, slice_index}
use Rattle.std.specs.List.{AllByRecursion}
use Rattle.std.specs.Option.{is_some}
use Rattle.om_geom.specs.Numbers.{zone_pages}
use Rattle.om_model.specs.declared.entry.ZoneMove.{ZoneMove}
use Rattle.om_model.specs.Zones.Order.{IsZoneOrder, last_version, owner}
use Rattle.om_broker.specs.Sights.{Seen, IsLeft}
use Rattle.om_broker.specs.Zones.{ZoneTable, is_bit_held, version_of}

-- a move of pages of a zone of so many, with a version that the zone has had
pub record IsOwnMove (zones : ℕ) (moves : List ZoneMove) (m : ZoneMove) : Type 0 where
  pub pool : m.pool ≡ 0
  pub zone : m.made.zone < zones
  pub within : m.made.first + m.made.count ≤ zone_pages
  pub some : 1 ≤ m.made.version
  pub version : m.made.version ≤ last_version moves m.made.zone

-- The moves are in zone order and leave the table.
pub record Stands (moves : List ZoneMove) (table : ZoneTable) : Type 0 where
  pub order : IsZoneOrder moves
  pub own : AllByRecursion (IsOwnMove (length table.bits) moves) moves
  pub zones : length table.versions ≡ length table.bits
  pub versions : (zone : ℕ) → zone < length table.bits → version_of table zone ≡ last_version moves zone
  pub bits : (zone bit : ℕ) → zone < length table.bits → bit < zone_pages → is_bit_held table zone bit ≡ is_some (owner moves zone (last_version moves zone) bit)

-- A broker alone has made all the moves of its arena, and each item of its sight is what they leave.
pub record HasMade (table : ZoneTable) (moves : List ZoneMove) (sight : List Seen) : Type 0 where
  pub stands : Stands moves table
  pub left : AllByRecursion (IsLeft moves) sight

-- what is seen of a zone of the table
abbrev pub seen_in : ZoneTable → ℕ → Seen
seen_in table zone = record { zone = zone; version = version_of table zone; bits = slice_index table.bits zone }
