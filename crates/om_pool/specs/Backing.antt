-- What ties a pool to its broker. The broker has made the moves that stand in the journal, it has seen every version
-- that the journal names, and it has the pages that are held. Each look of a search shows that the zone had no such
-- run, and that of a claim at a given run that some page of it was held. The versions that the journal names for a
-- zone never fall.
use Rattle.std.specs.Prelude.{◌≡◌, ℕ, ◌+◌, ◌<◌, ◌≤◌, true, List, Contains, None, IsSomeAnd}
use Rattle.std.specs.List.{AllByRecursion, flat_map}
use Rattle.om_broker.specs.Claims.{Adds}
use Rattle.om_broker.specs.Having.{IsSeenMove}
use Rattle.om_broker.specs.Sights.{Seen, Names, IsNoOlder, IsNewer, Has}
use Rattle.om_broker.specs.declared.broker.Broker as broker
use Rattle.om_geom.specs.Addresses.{bit_of}
use Rattle.om_geom.specs.Fit.{fit_of, has_bit, searched_bit}
use Rattle.om_geom.specs.Numbers.{zone_pages}
use Rattle.om_model.specs.Data.CallEntry.{CallEntry}
use Rattle.om_model.specs.Pool.Rules.{Rules}
use Rattle.om_model.specs.Pool.Runs.{Run}
use Rattle.om_model.specs.Pool.State.{is_held}
use Rattle.om_model.specs.Pool.Taken.{taken_of, TakenLook}
use Rattle.om_model.specs.Zones.Looks.{named_in, Rises}
use Rattle.om_model.specs.Zones.Moves.{moves_of, moves_of_call, pages_sought, search_word}
use Rattle.om_model.specs.declared.entry.Entry.{Entry}
use Rattle.om_model.specs.declared.entry.Entry.TheVariants.{Call, Phase}
use Rattle.om_model.specs.declared.entry.ZoneMove.{ZoneMove}
use Rattle.om_model.specs.declared.looks.Look.{Look}
use Rattle.om_model.specs.declared.looks.Named.{Named}

-- some item of the sight names the version
pub record IsSeen (sight : List Seen) (zone version : ℕ) : Type 0 where
  pub item : Seen
  pub among : Contains sight item
  pub names : Names zone version item

abbrev pub IsSeenName : List Seen → Named → Type 0
IsSeenName sight named = IsSeen sight named.zone named.version

-- what was seen at the look had no run of so many pages, for a search by the word
pub record IsFullIn (sight : List Seen) (count word : ℕ) (look : Look) : Type 0 where
  pub item : Seen
  pub among : Contains sight item
  pub names : Names look.zone look.version item
  pub full : fit_of (has_bit item.bits) count (searched_bit word) ≡ None

-- what was seen at the look had a page of the run, which is a run of the look's zone
pub record IsHeldIn (sight : List Seen) (run : Run) (look : Look) : Type 0 where
  pub item : Seen
  pub among : Contains sight item
  pub names : Names look.zone look.version item
  pub bit : ℕ
  pub from : bit_of run.first ≤ bit
  pub to : bit < bit_of run.first + run.count
  pub low : bit < zone_pages
  pub held : has_bit item.bits bit ≡ true

abbrev pub IsHeldThere : List Seen → TakenLook → Type 0
IsHeldThere sight taken = IsHeldIn sight taken.run taken.look

-- each look at a zone that a search passed over is such a one
abbrev pub HasFullLooks : Rules → List Seen → Entry → Type 0
HasFullLooks rules sight (Call entry) =
    AllByRecursion (λ look. IsSomeAnd (search_word rules entry) (λ word. IsFullIn sight (pages_sought rules entry.op) word look)) entry.looks
HasFullLooks rules sight (Phase number) = Unit {0}

-- the version is no older than what was seen, and a move's is newer
pub record IsNext (sight : List Seen) (named : Named) : Type 0 where
  pub no_older : IsNoOlder sight named.zone named.version
  pub newer : named.moves ≡ true → IsNewer sight named.zone named.version

-- all that the entry names was seen in its own call
pub record ShowsEntry (rules : Rules) (entry : CallEntry) (moves : List ZoneMove) (sight items : List Seen) : Type 0 where
  pub seen : AllByRecursion (IsSeenName items) (named_in (Call entry))
  pub next : AllByRecursion (IsNext sight) (named_in (Call entry))
  pub full : HasFullLooks rules items (Call entry)

-- the broker made the entry's moves, and nothing else, and saw what the entry names
abbrev pub AddsEntry : {B A : Type 0} → broker.Ghosts B A → Rules → CallEntry → B → B → Type 0
AddsEntry g rules entry old new = Adds g.made old new (moves_of_call rules 0 entry) (ShowsEntry rules entry)

pub record IsBacked {B A : Type 0} (g : broker.Ghosts B A) (rules : Rules) (held : List ℕ) (entries : List Entry) (b : B) : Type 0 where
  pub zones : g.zones (g.arena b) ≡ rules.zones
  pub sight : List Seen
  pub made : g.made b (moves_of rules 0 entries) sight
  pub has : (page : ℕ) → is_held held page ≡ true → Has (moves_of rules 0 entries) page
  pub moves : AllByRecursion (IsSeenMove sight) (moves_of rules 0 entries)
  pub named : AllByRecursion (IsSeenName sight) (flat_map named_in entries)
  pub looks : AllByRecursion (HasFullLooks rules sight) entries
  pub taken : AllByRecursion (IsHeldThere sight) (taken_of rules entries)
  pub rising : Rises (flat_map named_in entries)
