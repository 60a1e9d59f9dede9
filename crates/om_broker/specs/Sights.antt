-- What a broker has made and seen. Its moves are the claims and releases that it made; it doesn't know the number of
-- its pool, so they have 0 for it. Its sight is what it knows of zones: which pages of a zone were held at a version
-- that the zone had.
use Rattle.std.specs.Prelude.{◌≡◌, ℕ, ◌+◌, ◌<◌, ◌≤◌, true, false, List, Option, None, Contains}
use Rattle.std.specs.List.{AllByRecursion}
use Rattle.std.specs.Option.{is_some}
use Rattle.om_geom.specs.Fit.{has_bit}
use Rattle.om_geom.specs.Numbers.{zone_pages}
use Rattle.om_model.specs.Pool.Runs.{Run, run_of, is_page_of}
use Rattle.om_model.specs.Zones.Order.{last_version, owner}
use Rattle.om_model.specs.declared.entry.Move.{Move}
use Rattle.om_model.specs.declared.entry.ZoneMove.{ZoneMove}

-- a zone at a version, and a bit for each of its pages, which is set where the page was held
pub record Seen : Type 0 where
  pub zone : ℕ
  pub version : ℕ
  pub bits : ℕ

-- ---- moves

abbrev pub claimed : Move → Option ℕ → ZoneMove
claimed move search = record { pool = 0; claims = true; made = move; search = search }

abbrev pub released : Move → ZoneMove
released move = record { pool = 0; claims = false; made = move; search = None }

-- the move takes the page, or gives it back
abbrev pub takes : ℕ → ZoneMove → Type 0
takes page m = (m.claims ≡ true) × (is_page_of (run_of m.made) page ≡ true)

abbrev pub gives_back : ℕ → ZoneMove → Type 0
gives_back page m = (m.claims ≡ false) × (is_page_of (run_of m.made) page ≡ true)

-- A claim took the page, and no release of a greater version gave it back.
pub record Has (moves : List ZoneMove) (page : ℕ) : Type 0 where
  pub claim : ZoneMove
  pub made : Contains moves claim
  pub takes_it : takes page claim
  pub kept : AllByRecursion (λ other. gives_back page other → other.made.version < claim.made.version) moves

-- it has each page of the run
abbrev pub HasRun : List ZoneMove → Run → Type 0
HasRun moves run = (page : ℕ) → run.first ≤ page → page < run.first + run.count → Has moves page

-- it has none of them
abbrev pub LacksRun : List ZoneMove → Run → Type 0
LacksRun moves run = (page : ℕ) → run.first ≤ page → page < run.first + run.count → Has moves page → ⊥

-- ---- sights

-- the item names the version for the zone
pub record Names (zone version : ℕ) (item : Seen) : Type 0 where
  pub zone_is : item.zone ≡ zone
  pub version_is : item.version ≡ version

-- the look is no older than what was seen of its zone, and the move is newer
abbrev pub IsNoOlder : List Seen → ℕ → ℕ → Type 0
IsNoOlder sight zone version = AllByRecursion (λ item. item.zone ≡ zone → item.version ≤ version) sight

abbrev pub IsNewer : List Seen → ℕ → ℕ → Type 0
IsNewer sight zone version = AllByRecursion (λ item. item.zone ≡ zone → item.version < version) sight

-- the item is what the moves of all brokers leave of the zone at that version, which the zone has had
pub record IsLeft (moves : List ZoneMove) (item : Seen) : Type 0 where
  pub had : item.version ≤ last_version moves item.zone
  pub bits : (bit : ℕ) → bit < zone_pages → has_bit item.bits bit ≡ is_some (owner moves item.zone item.version bit)
