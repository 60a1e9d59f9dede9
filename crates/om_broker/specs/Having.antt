-- What a user of a broker can keep of it from call to call, where every call goes through it.
use Rattle.std.specs.Prelude.{◌+◌, ◌≤◌, List, Contains}
use Rattle.std.specs.List.{AllByRecursion}
use Rattle.om_geom.specs.Numbers.{zone_pages}
use Rattle.om_model.specs.declared.entry.ZoneMove.{ZoneMove}
use Rattle.om_broker.specs.Sights.{Seen, Names}

-- the move is of pages of one zone, and an item of the sight names its version
pub record IsSeenMove (sight : List Seen) (m : ZoneMove) : Type 0 where
  pub within : m.made.first + m.made.count ≤ zone_pages
  pub item : Seen
  pub among : Contains sight item
  pub names : Names m.made.zone m.made.version item

-- some moves that the broker has made, and a sight of it in which each of them is seen
pub record KeepsSight (Made : List ZoneMove → List Seen → Type 0) : Type 0 where
  pub moves : List ZoneMove
  pub sight : List Seen
  pub made : Made moves sight
  pub seen : AllByRecursion (IsSeenMove sight) moves
