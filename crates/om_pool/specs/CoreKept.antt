-- The core of a pool: what it keeps at every moment between two calls, and its room for one more.
use Rattle.std.specs.Prelude.{◌≡◌, ℕ, ◌-◌, ◌^◌, ◌<◌, ◌≤◌, [], length, min, if◌then◌else◌, Option, is_some, IfSome, IsSome}
use Rattle.om_geom.specs.Numbers.{most_zones}
use Rattle.om_model.specs.Data.Room.{Looks}
use Rattle.om_model.specs.Pool.Journal.{IsLawful, state_of}
use Rattle.om_model.specs.Pool.Rules.{canary_byte}
use Rattle.om_model.specs.Pool.State.{State}
use Rattle.om_model.specs.Pool.Steps.{Answers, Step}
use Rattle.om_model.specs.declared.operation.Op.{Op}
use Rattle.om_model.specs.declared.operation.Who.{Who}
use Rattle.om_model.specs.declared.reply.Reply.{Reply}
use Rattle.om_broker.specs.declared.broker.Broker as broker
use Rattle.om_pool.specs.Backing.{IsBacked}
use Rattle.om_pool.specs.HoldingsView.{rules_in, tables_in}
use Rattle.om_pool.specs.PoolView.{PoolView, Takes, UsesBroker}
use Rattle.om_pool.specs.Tables.{StandFor}
use Rattle.om_pool.specs.declared.pool_core.Core.{Core}

-- for how many calls room is made
abbrev pub spare_of : Core → ℕ
spare_of core =
    min core.journal.spare (min (if is_some core.room then 1 else 0) core.state.chunks.spare)

-- the state that the journal leaves
abbrev pub core_state : Core → State
core_state core = state_of (rules_in core.state) core.journal.items

abbrev pub view_of : {B : Type 0} → Core → B → PoolView B
view_of core b = record { rules = rules_in core.state; state = core_state core; journal = core.journal; spare = spare_of core; broker = b }

-- the core alone, with no broker beside it
abbrev pub core_view : Core → PoolView (Unit {0})
core_view core = view_of core tt

-- where there is a list for looks it is empty, with room for one at each zone
abbrev pub IsLookRoom : Option Looks → Type 0
IsLookRoom room = IfSome room (λ looks. (looks.items ≡ []) × (most_zones ≤ looks.spare))

pub record IsCore (core : Core) : Type 0 where
  pub lawful : IsLawful (rules_in core.state) core.journal.items
  pub tables : StandFor (rules_in core.state) (tables_in core.state) (core_state core)
  pub drawn : core.state.words.place ≡ (core_state core).drawn
  pub room : IsLookRoom core.room
  pub canary : core.canary ≡ canary_byte (rules_in core.state)
  pub some_zone : 1 ≤ core.state.zones
  pub few_zones : core.state.zones ≤ most_zones

-- the broker goes with the core
abbrev pub IsBackedCore : {B A : Type 0} → broker.Ghosts B A → Core → B → Type 0
IsBackedCore g core b = IsBacked g (rules_in core.state) (core_state core).held core.journal.items b

-- room for what one call may add
pub record HasRoom (core : Core) : Type 0 where
  pub short : length core.journal.items < 2 ^ 32 - 1
  pub entry : 1 ≤ core.journal.spare
  pub page : 1 ≤ core.state.chunks.spare
  pub looks : IsSome core.room

-- a call was answered: its entry stands in the journal, and the core and its broker go on
pub record IsAnswered {B A : Type 0} (g : broker.Ghosts B A) (old new : Core) (before after : B) (who : Who) (op : Op) (reply : Reply) (step : Answers → Step) : Type 0 where
  pub kept : IsCore new
  pub backed : IsBackedCore g new after
  pub uses : UsesBroker g (view_of old before) (view_of new after) reply
  pub taken : Takes (core_view old) (core_view new) who op reply step
