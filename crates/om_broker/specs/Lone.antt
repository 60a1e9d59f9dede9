-- A broker that has its arena to itself.
use Rattle.std.specs.Prelude.{◌≡◌, ℕ, ◌+◌, ◌*◌, ◌^◌, ◌<◌, ◌≤◌, not, List, length}
use Rattle.om_frame.specs.Memory.{is_held}
use Rattle.om_geom.specs.Numbers.{zone_pages, most_zones}
use Rattle.om_broker.specs.Zones.{ZoneTable, is_page_held, pages_held, moves_made}

-- the moves that a broker alone begins with
abbrev pub lone_share : ℕ
lone_share = 2 ^ 26

pub record Lone : Type 0 where
  pub table : ZoneTable
  -- the frames of the pages that are not held
  pub home : List (List ℕ)
  -- the moves that are left
  pub left : ℕ
  pub asks : ℕ

-- a page's frame is at home exactly where the page isn't held
pub record IsHome (table : ZoneTable) (home : List (List ℕ)) : Type 0 where
  pub pages : length home ≡ zone_pages * length table.bits
  pub others : (page : ℕ) → page < zone_pages * length table.bits → is_held home page ≡ not (is_page_held table page)

-- The moves that are left, those that stand for the pages held, and those that were made are the share together.
pub record IsLone (lone : Lone) : Type 0 where
  pub some : 1 ≤ length (lone.table).bits
  pub few : length (lone.table).bits ≤ most_zones
  pub zones : length (lone.table).versions ≡ length (lone.table).bits
  pub share : lone.left + pages_held lone.table + moves_made lone.table ≡ lone_share
  pub home : IsHome lone.table lone.home
