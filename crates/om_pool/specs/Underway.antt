-- Within a call the core and its broker have come to a state that the journal doesn't leave yet. The tables stand for
-- it, and the broker has the pages that are held in it.
use Rattle.std.specs.Prelude.{◌≡◌, ℕ, ◌≤◌, true, List}
use Rattle.std.specs.List.{AllByRecursion}
use Rattle.om_broker.specs.Having.{IsSeenMove}
use Rattle.om_broker.specs.Sights.{Seen, Has}
use Rattle.om_broker.specs.declared.broker.Broker as broker
use Rattle.om_geom.specs.Numbers.{most_zones}
use Rattle.om_model.specs.Pool.Rules.{canary_byte}
use Rattle.om_model.specs.Pool.State.{State, is_held}
use Rattle.om_model.specs.Pool.WellFormed.{IsWellFormed}
use Rattle.om_model.specs.declared.entry.ZoneMove.{ZoneMove}
use Rattle.om_pool.specs.HoldingsView.{rules_in, tables_in}
use Rattle.om_pool.specs.Tables.{StandFor}
use Rattle.om_pool.specs.declared.pool_core.Core.{Core}

-- its moves, those of this call too, gave the broker the pages that are held
pub record HasHeld {B A : Type 0} (g : broker.Ghosts B A) (held : List ℕ) (b : B) : Type 0 where
  pub moves : List ZoneMove
  pub sight : List Seen
  pub made : g.made b moves sight
  pub seen : AllByRecursion (IsSeenMove sight) moves
  pub has : (page : ℕ) → is_held held page ≡ true → Has moves page

pub record HasComeTo {B A : Type 0} (g : broker.Ghosts B A) (core : Core) (b : B) (state : State) : Type 0 where
  pub tables : StandFor (rules_in core.state) (tables_in core.state) state
  pub well_formed : IsWellFormed (rules_in core.state) state
  pub drawn : core.state.words.place ≡ state.drawn
  pub canary : core.canary ≡ canary_byte (rules_in core.state)
  pub some_zone : 1 ≤ core.state.zones
  pub few_zones : core.state.zones ≤ most_zones
  pub zones : g.zones (g.arena b) ≡ core.state.zones
  pub held : HasHeld g state.held b

-- they have come to some state
abbrev pub IsUnderway : {B A : Type 0} → broker.Ghosts B A → Core → B → Type 0
IsUnderway g core b = (state : State) × HasComeTo g core b state
