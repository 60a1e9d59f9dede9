-- A block leaves, be it alone or in the middle of a call: what becomes of the core and of its broker.
use Rattle.std.specs.Prelude.{◌≡◌, Option}
use Rattle.om_broker.specs.declared.broker.Broker as broker
use Rattle.om_model.specs.Pool.Free.{Freed}
use Rattle.om_model.specs.Pool.Journal.{GivesUp}
use Rattle.om_model.specs.Pool.Rules.{Rules}
use Rattle.om_model.specs.Pool.Standing.{LivePlace, PageBlock, standing}
use Rattle.om_model.specs.Pool.State.{State}
use Rattle.om_model.specs.declared.block.Block.{Block}
use Rattle.om_model.specs.declared.block.Place.{Place}
use Rattle.om_model.specs.declared.entry.Move.{Move}
use Rattle.om_pool.specs.Asking.{IsLeft}
use Rattle.om_pool.specs.HoldingsView.{rules_in}
use Rattle.om_pool.specs.Underway.{HasComeTo}
use Rattle.om_pool.specs.declared.pool_core.Core.{Core}

-- from the state they have come to the one that is left, and the broker was given the run that is let go
pub record LeavesTo {B A : Type 0} (g : broker.Ghosts B A) (old new : Core) (before after : B) (state : State) (left : Freed) (release : Option Move) : Type 0 where
  pub come : HasComeTo g new after left.next
  pub gives_up : GivesUp left.release release
  pub broker : IsLeft g before after state.held (left.next).held release
  pub rules : rules_in new.state ≡ rules_in old.state

-- the block's place begins at its address, and is live
abbrev pub IsPlaceOf : Rules → State → Place → Block → Type 0
IsPlaceOf rules state place block = standing rules state place.address ≡ LivePlace place block

-- the block begins at its address, and is of whole pages
abbrev pub IsPagesOf : Rules → State → Block → Type 0
IsPagesOf rules state block = standing rules state block.address ≡ PageBlock block

-- they have come to a state in which the place is live
abbrev pub HasPlaceUnderway : {B A : Type 0} → broker.Ghosts B A → Core → B → Place → Type 0
HasPlaceUnderway g core b place =
    (state : State) × HasComeTo g core b state × (block : Block) × IsPlaceOf (rules_in core.state) state place block

-- they have come to a state in which the page block is live
abbrev pub HasBlockUnderway : {B A : Type 0} → broker.Ghosts B A → Core → B → Block → Type 0
HasBlockUnderway g core b block = (state : State) × HasComeTo g core b state × IsPagesOf (rules_in core.state) state block
