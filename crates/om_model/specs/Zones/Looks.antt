-- Looks. A look of a claim is at a version that the zone has had, at which the pages that it seeks didn't
-- fit; the look of a claim at a given run is at one at which some page of the run was held. In one journal the
-- versions named for a zone never fall, and a move's is above all that were named for the zone before it.
use Rattle.std.specs.Prelude.{◌≡◌, ℕ, ◌<◌, ◌≤◌, true, false, List, [], ◌∷◌, ◌++◌, map, None, IsSomeAnd}
use Rattle.std.specs.List.{AllByRecursion, flat_map, list_any, range_with_len}
use Rattle.std.specs.Option.{is_some, option_to_list}
use Rattle.om_geom.specs.Addresses.{bit_of}
use Rattle.om_model.specs.Pool.Rules.{Rules}
use Rattle.om_model.specs.Pool.Runs.{Run}
use Rattle.om_model.specs.Pool.Taken.{taken_of}
use Rattle.om_model.specs.Zones.Moves.{pages_sought, search_word}
use Rattle.om_model.specs.Zones.Order.{last_version, owner, fit_at}
use Rattle.om_model.specs.declared.looks.Look.{Look}
use Rattle.om_model.specs.declared.looks.Named.{Named}
use Rattle.om_model.specs.declared.entry.Move.{Move}
use Rattle.om_model.specs.declared.entry.ZoneMove.{ZoneMove}
use Rattle.om_model.specs.declared.entry.Entry.{Entry}
use Rattle.om_model.specs.declared.entry.Entry.TheVariants.{Call, Phase}

-- the look is at a version that the zone has had, and so many pages didn't fit there then
pub record IsTrueLook (moves : List ZoneMove) (count word : ℕ) (look : Look) : Type 0 where
  pub version : look.version ≤ last_version moves look.zone
  pub full : fit_at moves look.zone look.version count word ≡ None

-- each look at a zone that a search passed over is true
abbrev pub HasTrueLooks : Rules → List ZoneMove → Entry → Type 0
HasTrueLooks rules moves (Call entry) =
    AllByRecursion (λ look. IsSomeAnd (search_word rules entry) (λ word. IsTrueLook moves (pages_sought rules entry.op) word look)) entry.looks
HasTrueLooks rules moves (Phase number) = Unit {0}

-- the look is at a version that the zone has had, and some page of the run was held then
pub record IsTrueTaken (moves : List ZoneMove) (run : Run) (look : Look) : Type 0 where
  pub version : look.version ≤ last_version moves look.zone
  pub held : list_any (λ page. is_some (owner moves look.zone look.version (bit_of page))) (range_with_len run.first run.count) ≡ true

abbrev pub named_by_look : Look → Named
named_by_look look = record { zone = look.zone; version = look.version; moves = false }

abbrev pub named_by_move : Move → Named
named_by_move move = record { zone = move.zone; version = move.version; moves = true }

-- what an entry names, in the order in which it came about
abbrev pub named_in : Entry → List Named
named_in (Call entry) =
    map named_by_look (option_to_list entry.taken ++ entry.looks)
    ++ map named_by_move (option_to_list entry.claim ++ option_to_list entry.release)
named_in (Phase number) = []

-- the later is not below the earlier of the same zone, and a move's is above it
abbrev pub ComesAfter : Named → Named → Type 0
ComesAfter earlier later = earlier.zone ≡ later.zone → (earlier.version ≤ later.version) × (later.moves ≡ true → earlier.version < later.version)

-- each is followed only by what comes after it
abbrev pub Rises : List Named → Type 0
Rises [] = Unit {0}
Rises (earlier ∷ later) = AllByRecursion (ComesAfter earlier) later × Rises later

-- The looks of one journal, where the moves are those of all journals.
pub record AreLooks (rules : Rules) (moves : List ZoneMove) (entries : List Entry) : Type 0 where
  pub true_looks : AllByRecursion (HasTrueLooks rules moves) entries
  pub true_taken : AllByRecursion (λ taken. IsTrueTaken moves taken.run taken.look) (taken_of rules entries)
  pub rising : Rises (flat_map named_in entries)
